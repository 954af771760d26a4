use Rattle.cut_bound.specs.Search.{seen, IsBestOwn}
use Rattle.cut_bound.proofs.own.best_own.Given as goal

abbrev pub invariant-loop-i : goal.invariant-loop-i
invariant-loop-i l = IsBestOwn l.net (seen l.own) l.i l.best
