use Rattle.std.proofs.Common.{◌≡◌, take}
use Rattle.cut_bound.specs.Search.{woven}
use Rattle.cut_bound.proofs.cuts.woven.Given as goal

abbrev pub invariant-loop-i : goal.invariant-loop-i
invariant-loop-i l = l.cuts.items ≡ woven (take l.i l.first) (take l.i l.second)
