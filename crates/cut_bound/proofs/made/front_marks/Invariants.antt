use Rattle.std.proofs.Common.{◌≡◌, ltb, map, take}
use Rattle.cut_bound.proofs.made.front_marks.Given as goal

abbrev pub invariant-loop-value : goal.invariant-loop-value
invariant-loop-value l = l.marks.items ≡ map (λ x. ltb x l.level) (take l.value-index l.values)
