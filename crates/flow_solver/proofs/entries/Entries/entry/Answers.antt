use Rattle.std.proofs.Common.{◌≡◌, ◌+◌, ◌*◌, ◌≤◌, length, sym, ap, ◌∙◌, arith}
use Rattle.std.proofs.lemmas.Nat.{row_fits}
use Rattle.flow_solver.specs.Phases.{EntriesView}
use Rattle.flow_solver.proofs.ByPhase.{count_by_phase, entry_at}
use Rattle.flow_solver.proofs.entries.Entries.entry.Goals as goal

pub bounds-as_slice-place : goal.bounds-as_slice-place
bounds-as_slice-place c =
    let n : c.self.inside.phases ≡ length c.args.self.now.phases = sym (count_by_phase c.self.inside.commodities c.self.inside.phases c.self.inside.flat.items) ∙ ap (λ (v : EntriesView). length v.phases) c.self.view_is in
    let w : c.self.inside.commodities ≡ c.args.self.now.commodities = ap (λ (v : EntriesView). v.commodities) c.self.view_is in
    let fits : c.args.phase * c.self.inside.commodities + c.self.inside.commodities ≤ c.self.inside.phases * c.self.inside.commodities = row_fits c.args.phase c.self.inside.commodities c.self.inside.phases c.self.inside.commodities (omega arith) (omega arith) in
    let v = c.as_slice.ensures.value in
    rw v (omega arith)

pub offset_bounds-as_slice-place : goal.offset_bounds-as_slice-place
offset_bounds-as_slice-place c = let b = bounds-as_slice-place c in let t = c.as_slice.type_inv in omega (arith, b, t)

pub returns : goal.returns
returns c =
    let n : c.self.inside.phases ≡ length c.args.self.now.phases = sym (count_by_phase c.self.inside.commodities c.self.inside.phases c.self.inside.flat.items) ∙ ap (λ (v : EntriesView). length v.phases) c.self.view_is in
    let w : c.self.inside.commodities ≡ c.args.self.now.commodities = ap (λ (v : EntriesView). v.commodities) c.self.view_is in
    rw (← c.self.view_is, c.as_slice.ensures.value)
    (entry_at c.self.inside.commodities c.self.inside.phases c.args.phase c.args.k c.self.inside.flat.items (record { worker = 0; row = 0 }) c.self.invariant (omega arith) (omega arith))
