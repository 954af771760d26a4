use Rattle.std.proofs.Common.{◌+◌, ◌*◌}
use Rattle.flow_solver.proofs.leading.+with_mates.Given as goal

abbrev pub decreases-with_mates : goal.decreases-with_mates
decreases-with_mates g l = 3 * l.count

abbrev pub decreases-with_mate : goal.decreases-with_mate
decreases-with_mate g l = 3 * l.others + 2

abbrev pub decreases-with_mate-lead : goal.decreases-with_mate-lead
decreases-with_mate-lead g l = 3 * l.others + 1
