use Rattle.script.proofs.Capacities.{AreCaps}
use Rattle.script.proofs.read.capacities.Given as goal

abbrev pub invariant-loop-link : goal.invariant-loop-link
invariant-loop-link l = record {
  are : AreCaps l.net.options.links l.net.net l.link l.caps.items;
}
