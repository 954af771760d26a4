use Rattle.std.proofs.Common.{◌≡◌, length, sym, ap, ◌∙◌, arith}
use Rattle.flow_solver.specs.Phases.{EntriesView}
use Rattle.flow_solver.proofs.ByPhase.{count_by_phase, one_phase_more}
use Rattle.flow_solver.proofs.entries.Entries.push.Goals as goal

pub overflow_add-self : goal.overflow_add-self
overflow_add-self c =
    let n : c.self.inside.phases ≡ length c.args.self.now.phases = sym (count_by_phase c.self.inside.commodities c.self.inside.phases c.self.inside.flat.items) ∙ ap (λ (v : EntriesView). length v.phases) c.self.view_is in
    omega arith

pub returns-clause-ok : goal.returns-clause-ok
returns-clause-ok c =
    let n : length c.args.entries.now ≡ c.self.inside.commodities = c.requires.count ∙ sym (ap (λ (v : EntriesView). v.commodities) c.self.view_is) in
    rw (c.in_ok-extend_from_slice.ensures.items, ← c.self.view_is)
    (one_phase_more c.self.inside.commodities c.self.inside.phases c.self.inside.flat.items c.args.entries.now c.self.invariant n)
