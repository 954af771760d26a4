use Rattle.std.proofs.Common.{◌-◌, ◌≤◌}
use Rattle.throughput.specs.Reached.{IsReached}
use Rattle.throughput.proofs.solving.all_phases.Given as goal

abbrev pub invariant-phases : goal.invariant-phases
invariant-phases l = record {
  reached : IsReached l.on.net.now l.on.gates.now l.options l.reached;
  budget : l.reached.phases ≤ l.options.phases;
}

abbrev pub decreases-phases : goal.decreases-phases
decreases-phases l = l.options.phases - l.reached.phases
