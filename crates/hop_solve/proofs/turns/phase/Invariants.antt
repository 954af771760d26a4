use Rattle.std.proofs.Common.{◌≡◌, List}
use Rattle.flow_model.specs.Routing.{Row}
use Rattle.hop_solve.specs.Turns.{IsRouted, IsFinder}
use Rattle.hop_solve.proofs.Phases.{HasBegun}
use Rattle.hop_solve.proofs.turns.phase.Given as goal

abbrev pub invariant-loop-k : goal.invariant-loop-k
invariant-loop-k l = record {
  finder : IsFinder l.on.net.now l.on.counts.now l.finder;
  turns : (before : List Row) → IsRouted l.on.net.now before l.fn.routed → HasBegun l.on.net.now l.on.limits.now before l.k l.fn.routed l.routed;
  net : l.routed.table.net ≡ l.fn.routed.table.net;
  setting : l.routed.table.setting ≡ l.fn.routed.table.setting;
}
