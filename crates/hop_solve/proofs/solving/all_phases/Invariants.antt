use Rattle.std.proofs.Common.{◌-◌, ◌≤◌}
use Rattle.hop_solve.specs.Reached.{IsHopReached}
use Rattle.hop_solve.proofs.solving.all_phases.Given as goal

abbrev pub invariant-phases : goal.invariant-phases
invariant-phases l = record {
  reached : IsHopReached l.on.net.now l.on.limits.now l.on.counts.now l.options l.reached;
  budget : l.reached.phases ≤ l.options.phases;
}

abbrev pub decreases-phases : goal.decreases-phases
decreases-phases l = l.options.phases - l.reached.phases
