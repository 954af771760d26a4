use Rattle.std.proofs.Common.{◌≡◌, ℕ, ◌+◌, ◌*◌, ◌<◌, length, get_or, drop}
use Rattle.flow_model.specs.Walk.{times}
use Rattle.hop_solve.proofs.turns.add_along.Given as goal

abbrev pub invariant-loop-cell : goal.invariant-loop-cell
invariant-loop-cell l = record {
  len : length l.loads ≡ length l.fn.loads;
  rest : (c : ℕ) → c < length l.fn.loads → get_or l.loads c 0 + l.amount * times c (drop l.cell-index l.path) ≡ get_or l.fn.loads c 0 + l.amount * times c l.path;
}
