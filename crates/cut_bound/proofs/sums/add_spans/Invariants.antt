use Rattle.std.proofs.Common.{◌≡◌, ℕ, get_or, take}
use Rattle.cut_bound.specs.Sums.{ending, starting}
use Rattle.cut_bound.proofs.sums.add_spans.Given as goal

abbrev pub invariant-loop-cell : goal.invariant-loop-cell
invariant-loop-cell l = record {
  starts : (p : ℕ) → get_or l.starts p 0 ≡ starting (λ v. get_or l.ranks v 0) p (take l.cell-index l.cells);
  ends : (p : ℕ) → get_or l.ends p 0 ≡ ending (λ v. get_or l.ranks v 0) p (take l.cell-index l.cells);
}
