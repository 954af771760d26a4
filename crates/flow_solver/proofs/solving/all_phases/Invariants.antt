use Rattle.std.proofs.Common.{◌-◌, ◌≤◌}
use Rattle.flow_solver.specs.Reached.{IsReached}
use Rattle.flow_solver.specs.Search.{phase_count}
use Rattle.flow_solver.proofs.solving.all_phases.Given as goal

abbrev pub invariant-phases : goal.invariant-phases
invariant-phases g l = record {
  reached : IsReached l.run.on.now.net.now l.run.options.now l.reached;
  budget : phase_count l.reached.search ≤ l.run.options.now.phases;
}

abbrev pub decreases-phases : goal.decreases-phases
decreases-phases g l = l.run.options.now.phases - phase_count l.reached.search
