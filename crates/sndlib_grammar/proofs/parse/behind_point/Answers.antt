use Rattle.sndlib_grammar.proofs.Digits.{front-digits, digits_of_parts}
use Rattle.sndlib_grammar.proofs.parse.behind_point.Goals as goal

pub returns-clause-digits : goal.returns-clause-digits
returns-clause-digits c =
    digits_of_parts c.with_digits.result _ _ c.requires (rw c.digit_count-count.ensures.value (front-digits c.args.rest.now)) c.with_digits.ensures.parts
