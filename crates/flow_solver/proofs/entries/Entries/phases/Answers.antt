use Rattle.std.proofs.Common.{length, sym, ap, ◌∙◌}
use Rattle.flow_solver.specs.Phases.{EntriesView}
use Rattle.flow_solver.proofs.ByPhase.{count_by_phase}
use Rattle.flow_solver.proofs.entries.Entries.phases.Goals as goal

pub returns : goal.returns
returns c = sym (count_by_phase c.self.inside.commodities c.self.inside.phases c.self.inside.flat.items) ∙ ap (λ (v : EntriesView). length v.phases) c.self.view_is
