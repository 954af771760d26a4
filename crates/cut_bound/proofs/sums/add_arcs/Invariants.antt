use Rattle.std.proofs.Common.{◌≡◌, ℕ, get_or, take}
use Rattle.std.specs.List.{sum_by}
use Rattle.cut_bound.specs.Sums.{node_part}
use Rattle.cut_bound.proofs.sums.add_arcs.Given as goal

abbrev pub invariant-loop-cell : goal.invariant-loop-cell
invariant-loop-cell l = (p : ℕ) → get_or l.table p 0 ≡ sum_by (node_part l.into p) (take l.cell-index l.cells)
