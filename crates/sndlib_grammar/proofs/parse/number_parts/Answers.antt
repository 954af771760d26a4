use Rattle.sndlib_grammar.proofs.Digits.{front-digits}
use Rattle.sndlib_grammar.proofs.parse.number_parts.Goals as goal

pub behind_whole-requires : goal.behind_whole-requires
behind_whole-requires c = rw c.digit_count-count.ensures.value (front-digits c.args.word.now)
