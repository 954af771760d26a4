use Rattle.std.proofs.Common.{◌≡◌, ◌*◌, ◌≤◌, take}
use Rattle.flow_model.specs.Routing.{carried}
use Rattle.flow_paths.proofs.path_store.PathStore.total.Given as goal
use Rattle.mcf_limits.specs.declared.TheConstants.{MAX_LENGTH}

abbrev pub invariant-loop-row : goal.invariant-loop-row
invariant-loop-row l = record {
  value : l.total ≡ carried (take l.row l.self) l.k;
  bound : l.total ≤ l.row * MAX_LENGTH;
}
