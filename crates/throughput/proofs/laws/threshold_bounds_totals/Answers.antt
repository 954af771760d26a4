use Rattle.throughput.proofs.Excess.{threshold_bounds}
use Rattle.throughput.proofs.laws.threshold_bounds_totals.Goals as goal

pub returns : goal.returns
returns c = threshold_bounds
