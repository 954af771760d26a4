use Rattle.std.proofs.Common.{◌≡◌, ℕ, ◌*◌, ◌<◌, ◌≤◌, length, get_or, take}
use Rattle.flow_model.specs.Routing.{load_of}
use Rattle.cert_check.proofs.loads.loads.Given as goal
use Rattle.mcf_limits.specs.declared.TheConstants.{MAX_LENGTH, MAX_PATH_CELLS}

abbrev pub invariant-loop-row : goal.invariant-loop-row
invariant-loop-row l = record {
  len : length l.table.items ≡ l.cells;
  value : (c : ℕ) → c < l.cells → get_or l.table.items c 0 ≡ load_of (take l.row l.paths) c;
  bound : (c : ℕ) → c < l.cells → get_or l.table.items c 0 ≤ l.row * (MAX_PATH_CELLS * MAX_LENGTH);
}
