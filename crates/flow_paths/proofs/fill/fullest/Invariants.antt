use Rattle.std.proofs.Common.{◌≡◌, drop}
use Rattle.flow_paths.specs.Evaluation.{fill}
use Rattle.flow_paths.specs.Fullness.{fullness}
use Rattle.flow_paths.proofs.fill.fullest.Given as goal

abbrev pub invariant-loop-i : goal.invariant-loop-i
invariant-loop-i l = fullness l.fullest ≡ fill (drop l.i l.cells) (drop l.i l.loads)
