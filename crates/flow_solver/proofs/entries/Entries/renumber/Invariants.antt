use Rattle.std.proofs.Common.{◌≡◌, ◌++◌, length, take, drop, map}
use Rattle.flow_solver.specs.Phases.{NamesBelow, renumbered}
use Rattle.flow_solver.proofs.entries.Entries.renumber.Given as goal

abbrev pub invariant-loop-entry : goal.invariant-loop-entry
invariant-loop-entry l = record {
  all : NamesBelow (length l.numbers) l.initial.entry-items;
  done : l.entry-items ≡ map (renumbered l.numbers) (take l.entry-index l.initial.entry-items) ++ drop l.entry-index l.initial.entry-items;
}
