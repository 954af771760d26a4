use Rattle.std.proofs.Common.{take}
use Rattle.hop_paths.specs.Allowed.{AreWithin}
use Rattle.hop_check.proofs.within.are_within.Given as goal

abbrev pub invariant-loop-row : goal.invariant-loop-row
invariant-loop-row l = AreWithin l.limits (take l.row l.paths)
