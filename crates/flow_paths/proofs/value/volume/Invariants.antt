use Rattle.std.proofs.Common.{◌≡◌, ◌*◌, ◌^◌, ◌≤◌, take}
use Rattle.flow_model.specs.Bound.{volume}
use Rattle.flow_paths.proofs.value.volume.Given as goal

abbrev pub invariant-loop-c : goal.invariant-loop-c
invariant-loop-c l = record {
  value : l.total ≡ volume (take l.c l.cells) l.lengths;
  bound : l.total ≤ l.c * 2 ^ 106;
}
