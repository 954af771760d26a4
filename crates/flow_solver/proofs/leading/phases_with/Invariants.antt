use Rattle.std.proofs.Common.{◌-◌, ◌≤◌}
use Rattle.flow_solver.specs.Leading.{CanGoOn}
use Rattle.flow_solver.specs.Search.{phase_count}
use Rattle.flow_solver.proofs.leading.phases_with.Given as goal

abbrev pub invariant-phases : goal.invariant-phases
invariant-phases g l = record {
  can : CanGoOn l.run.on.now.net.now l.run.options.now l.reached;
  more : phase_count l.initial.reached.search ≤ phase_count l.reached.search;
}

abbrev pub decreases-phases : goal.decreases-phases
decreases-phases g l = l.run.options.now.phases - phase_count l.reached.search
