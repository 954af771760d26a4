use Rattle.std.proofs.Common.{◌≡◌, ◌<◌, List, length, get_or, map, refl, sym, ap, ◌∙◌, arith, All}
use Rattle.std.proofs.lemmas.List.Elements.{All-get_or, All-same}
use Rattle.std.proofs.lemmas.List.{get_or_default, with_items_is}
use Rattle.std.proofs.lemmas.List.Edits.{map_over_more}
use Rattle.solver_run.specs.declared.options.Entry.{Entry}
use Rattle.flow_solver.specs.Phases.{EntriesView, NamesBelow, renumbered, by_phase}
use Rattle.flow_solver.proofs.ByPhase.{all_in_phases, map_by_phase, not_yet, all_changed}
use Rattle.flow_solver.proofs.entries.Entries.renumber.Goals as goal

pub loop-entry-init : goal.loop-entry-init
loop-entry-init c =
    let inside : All (NamesBelow (length c.args.numbers.now)) (by_phase c.self.inside.commodities c.self.inside.phases c.self.inside.flat.items) = rw (ap (λ (v : EntriesView). v.phases) c.self.view_is) c.requires in
    record {
      all = All-same (λ (x : Entry). x.row < length c.args.numbers.now) _ _ c.deref_mut-entry-items.ensures.value (all_in_phases (length c.args.numbers.now) c.self.inside.commodities c.self.inside.phases c.self.inside.flat.items c.self.invariant inside);
      done = refl;
    }

pub bounds-numbers-entry : goal.bounds-numbers-entry
bounds-numbers-entry c =
    let f = renumbered c.args.numbers.now in
    let xs = c.deref_mut-entry-items.result.now in
    let l : c.loop-entry.entry-index < length xs = omega arith in
    rw (not_yet f xs c.loop-entry.entry-items c.loop-entry.entry-index (record { worker = 0; row = 0 }) l c.loop-entry.invariant.done)
    (All-get_or (λ (x : Entry). x.row < length c.args.numbers.now) xs c.loop-entry.entry-index (record { worker = 0; row = 0 }) l c.loop-entry.invariant.all)

pub loop-entry-preserved : goal.loop-entry-preserved
loop-entry-preserved c =
    let f = renumbered c.args.numbers.now in
    let xs = c.deref_mut-entry-items.result.now in
    let x = get_or c.loop-entry.entry-items c.loop-entry.entry-index (record { worker = 0; row = 0 }) in
    let l : c.loop-entry.entry-index < length xs = omega arith in
    record {
      all = c.loop-entry.invariant.all;
      done = map_over_more f xs c.loop-entry.entry-items c.loop-entry.entry-index x l c.loop-entry.invariant.done (get_or_default c.loop-entry.entry-items c.loop-entry.entry-index (record { worker = 0; row = 0 }) x (omega arith));
    }

pub returns-clause-phases : goal.returns-clause-phases
returns-clause-phases c =
    let f = renumbered c.args.numbers.now in
    let xs = c.deref_mut-entry-items.result.now in
    let v = c.deref_mut-entry-items.ensures.value in
    let same : c.loop-entry.entry-items ≡ map f c.self.inside.flat.items = all_changed f xs c.loop-entry.entry-items c.loop-entry.entry-index c.loop-entry-test.false c.loop-entry.invariant.done ∙ ap (map f) v in
    let long : length c.loop-entry.entry-items ≡ c.self.inside.flat.len = c.loop-entry.auto.entry-items ∙ ap (λ (t : List Entry). length t) v ∙ sym c.self.inside.flat.ok.0 in
    ap (by_phase c.self.inside.commodities c.self.inside.phases) (with_items_is c.self.inside.flat c.loop-entry.entry-items long ∙ same)
    ∙ map_by_phase f c.self.inside.commodities c.self.inside.phases c.self.inside.flat.items
    ∙ ap (λ (t : EntriesView). map (map f) t.phases) c.self.view_is
