use Rattle.std.proofs.Common.{◌≡◌, ℕ, ◌+◌, ◌<◌, ◌≤◌, Some, get_or}
use Rattle.std.specs.Prelude.{slice_get}
use Rattle.flow_model.specs.declared.net.Cell.{Cell}
use Rattle.flow_model.specs.Walk.{Goes}
use Rattle.hop_check.proofs.rise.rises.Given as goal

abbrev pub invariant-loop-c : goal.invariant-loop-c
invariant-loop-c l = (j : ℕ) (cell : Cell) (u v : ℕ) → j < l.c → slice_get l.cells j ≡ Some cell → Goes cell u v → get_or l.above v 0 ≤ get_or l.below u 0 + get_or l.lengths j 0
