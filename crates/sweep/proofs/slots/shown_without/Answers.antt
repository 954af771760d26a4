use Rattle.std.proofs.Common.{◌≡◌, ◌+◌, ◌-◌, ap, arith, length, ◌∙◌}
use Rattle.unit_scale.specs.Names.{cells_of}
use Rattle.unit_scale.proofs.LinkCaps.{with_link_length}
use Rattle.std.proofs.lemmas.List.{length-set}
use Rattle.sweep.proofs.Putting.{some_cells, plan_back}
use Rattle.sweep.proofs.slots.shown_without.Goals as goal

pub set-requires-clause-cell : goal.set-requires-clause-cell
set-requires-clause-cell c =
    let p = c.args.plan.now in
    let count : length c.set_link.new.self.caps ≡ length p.caps = ap (λ p. length p.caps) c.set_link.ensures ∙ with_link_length c.args.mode p.caps c.args.link 0 in
    omega (arith, c.requires.cells, c.cells_of-first.ensures, some_cells c.args.mode c.args.link)

pub set-requires-2-clause-cell : goal.set-requires-2-clause-cell
set-requires-2-clause-cell c =
    let p = c.args.plan.now in
    let shut = c.set_link.new.self in
    let count : length shut.caps ≡ length p.caps = ap (λ p. length p.caps) c.set_link.ensures ∙ with_link_length c.args.mode p.caps c.args.link 0 in
    let same : length c.set.new.self.caps ≡ length shut.caps = ap (λ p. length p.caps) c.set.ensures ∙ length-set shut.caps c.cells_of-first.result c.cap-first_cap.result in
    omega (arith, c.requires.cells, c.cells_of-last.ensures, some_cells c.args.mode c.args.link)

pub returns-clause-same : goal.returns-clause-same
returns-clause-same c =
    let last : c.cells_of-last.result - 1 + 1 ≡ cells_of c.args.mode (c.args.link + 1) = omega (arith, c.cells_of-last.ensures, some_cells c.args.mode c.args.link) in
    plan_back c.args.mode c.args.plan.now c.set_link.new.self c.set.new.self c.set-2.new.self c.args.link c.cells_of-first.result (c.cells_of-last.result - 1)
    c.cap-first_cap.result c.cap-last_cap.result c.cells_of-first.ensures last c.requires.cells c.cap-first_cap.ensures.value c.cap-last_cap.ensures.value
    c.set_link.ensures c.set.ensures c.set-2.ensures
