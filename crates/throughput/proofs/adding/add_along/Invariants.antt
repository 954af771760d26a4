use Rattle.std.proofs.Common.{◌≡◌, ℕ, ◌+◌, ◌*◌, get_or, length, drop}
use Rattle.flow_model.specs.Walk.{times}
use Rattle.flow_model.specs.Lengths.{greatest_exponent}
use Rattle.throughput.proofs.adding.add_along.Given as goal

abbrev pub invariant-loop-cell : goal.invariant-loop-cell
invariant-loop-cell l = record {
  left : (c : ℕ) → get_or l.loads c 0 + l.amount * times c (drop l.cell-index l.path) ≡ get_or l.fn.loads c 0 + l.amount * times c l.path;
  long : length l.loads ≡ length l.cells;
  top : l.top ≡ greatest_exponent l.setting l.cells l.loads;
}
