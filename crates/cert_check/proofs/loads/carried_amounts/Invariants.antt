use Rattle.std.proofs.Common.{◌≡◌, ℕ, ◌*◌, ◌<◌, ◌≤◌, length, get_or, take}
use Rattle.flow_model.specs.Routing.{carried}
use Rattle.cert_check.proofs.loads.carried_amounts.Given as goal
use Rattle.mcf_limits.specs.declared.TheConstants.{MAX_LENGTH}

abbrev pub invariant-loop-row : goal.invariant-loop-row
invariant-loop-row l = record {
  len : length l.table.items ≡ l.commodities;
  value : (k : ℕ) → k < l.commodities → get_or l.table.items k 0 ≡ carried (take l.row l.paths) k;
  bound : (k : ℕ) → k < l.commodities → get_or l.table.items k 0 ≤ l.row * MAX_LENGTH;
}
