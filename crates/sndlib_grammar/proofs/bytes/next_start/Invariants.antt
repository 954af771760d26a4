use Rattle.std.proofs.Common.{◌-◌, length}
use Rattle.sndlib_grammar.specs.Tokens.{GoesOn}
use Rattle.sndlib_grammar.proofs.bytes.next_start.Given as goal

abbrev pub invariant-skips : goal.invariant-skips
invariant-skips l = GoesOn l.text l.at l.line l.start l.number

abbrev pub decreases-skips : goal.decreases-skips
decreases-skips l = length l.text - l.start
