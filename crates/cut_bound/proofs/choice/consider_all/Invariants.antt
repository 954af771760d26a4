use Rattle.std.proofs.Common.{◌≡◌, take}
use Rattle.std.specs.List.{fold}
use Rattle.cut_bound.specs.Search.{kept}
use Rattle.cut_bound.proofs.choice.consider_all.Given as goal

abbrev pub invariant-loop-cut : goal.invariant-loop-cut
invariant-loop-cut l = l.best ≡ fold kept l.initial.best (take l.cut-index l.cuts)
