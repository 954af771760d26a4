use Rattle.std.proofs.Common.{◌-◌, drop, length}
use Rattle.unit_scale.specs.Seen.{bytes_of}
use Rattle.unit_scale.proofs.Modules.{InLargest}
use Rattle.unit_scale.proofs.largest.largest.Given as goal

abbrev pub invariant-modules : goal.invariant-modules
invariant-modules l = InLargest l.best (bytes_of l.modules) (drop l.at (bytes_of l.modules))

abbrev pub decreases-modules : goal.decreases-modules
decreases-modules l = length l.modules - l.at
