use Rattle.sndlib_grammar.proofs.Whole.{one_reading}
use Rattle.sndlib_grammar.proofs.laws.entries_are_unique.Goals as goal

pub returns : goal.returns
returns c = one_reading
