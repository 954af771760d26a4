use Rattle.std.proofs.Common.{◌≡◌, ◌<◌, ◌-◌, ◌^◌, ℕ, min, List, length, get_or, arith, sym, subst, ap, ◌∙◌}
use Rattle.std.proofs.lemmas.List.{with_items_is}
use Rattle.flow_model.specs.declared.net.Cell.{Cell}
use Rattle.flow_model.specs.Network.{Network}
use Rattle.flow_model.specs.Lengths.{exponent, greatest_exponent, length_at, lengths_at}
use Rattle.fixed_exp.specs.LoadedNetwork.{LoadedNetwork}
use Rattle.fixed_exp.specs.Kept.{AreRated, KeepsExponent, cell_at, greatest}
use Rattle.fixed_exp.specs.declared.rates.Rate.{Rate}
use Rattle.fixed_exp.proofs.Passes.{not_once}
use Rattle.fixed_exp.proofs.Tables.{ready-at, top-kept, table-of, are-rated}
use Rattle.fixed_exp.proofs.length_table.LengthTable.update_at.Goals as goal

pub follow-top-requires-clause-rated : goal.follow-top-requires-clause-rated
follow-top-requires-clause-rated c =
    let i = c.self.inside in
    let cells = c.cells.result.now in
    let same : i.net.value.cells ≡ cells = ap (λ (n : LoadedNetwork). n.net.cells) c.self.view_is ∙ (ap (λ (n : Network). n.cells) (sym c.requires.net) ∙ sym c.cells.ensures.value) in
    let t = c.self.invariant in
    subst (λ (rs : List Rate). AreRated i.scale.setting cells i.least rs) (sym c.deref.ensures.value) (subst (λ (xs : List Cell). AreRated i.scale.setting xs i.least i.rates.items) same
    (are-rated i.net.value i.scale.setting i.least i.rates.items t.fits t.rated t.least))

pub follow-top-requires-clause-kept : goal.follow-top-requires-clause-kept
follow-top-requires-clause-kept c = λ k l none.
    let i = c.self.inside in
    let cells = c.cells.result.now in
    let same : i.net.value.cells ≡ cells = ap (λ (n : LoadedNetwork). n.net.cells) c.self.view_is ∙ (ap (λ (n : Network). n.cells) (sym c.requires.net) ∙ sym c.cells.ensures.value) in
    let many : length i.net.value.cells ≡ length cells = ap (λ (xs : List Cell). length xs) same in
    let inside : k < length i.net.value.cells = omega (arith, many) in
    let load : get_or i.loads.items k 0 ≡ get_or c.args.loads.now k 0 = ap (λ (n : LoadedNetwork). get_or n.loads k 0) c.self.view_is
    ∙ c.requires.same k (omega (arith, ap (λ (xs : List Cell). length xs) c.cells.ensures.value)) (not_once c.args.cells.now k none) in
    ap (λ (xs : List ℕ). get_or xs k 0) c.deref_mut.ensures.value ∙ (c.self.invariant.each k inside
    ∙ (ap (λ (xs : List Cell). min (exponent i.scale.setting (cell_at xs k) (get_or i.loads.items k 0)) (2 ^ 64 - 1)) same
    ∙ ap (λ (x : ℕ). min (exponent i.scale.setting (cell_at cells k) x) (2 ^ 64 - 1)) load))

pub follow-top-requires-clause-lengths : goal.follow-top-requires-clause-lengths
follow-top-requires-clause-lengths c = λ k l none.
    let i = c.self.inside in
    let cells = c.cells.result.now in
    let same : i.net.value.cells ≡ cells = ap (λ (n : LoadedNetwork). n.net.cells) c.self.view_is ∙ (ap (λ (n : Network). n.cells) (sym c.requires.net) ∙ sym c.cells.ensures.value) in
    let many : length i.net.value.cells ≡ length cells = ap (λ (xs : List Cell). length xs) same in
    let inside : k < length i.net.value.cells = omega (arith, many) in
    let load : get_or i.loads.items k 0 ≡ get_or c.args.loads.now k 0 = ap (λ (n : LoadedNetwork). get_or n.loads k 0) c.self.view_is
    ∙ c.requires.same k (omega (arith, ap (λ (xs : List Cell). length xs) c.cells.ensures.value)) (not_once c.args.cells.now k none) in
    let was = ready-at i.net.value i.scale.setting i.loads.items i.exponents.items i.lengths.items i.top i.least i.rates.items (length i.places.items) c.self.invariant k inside in
    ap (λ (xs : List ℕ). get_or xs k 0) c.deref_mut-2.ensures.value ∙ (was
    ∙ (ap (λ (xs : List Cell). length_at i.scale.setting i.top i.least (cell_at xs k) (get_or i.loads.items k 0)) same
    ∙ ap (λ (x : ℕ). length_at i.scale.setting i.top i.least (cell_at cells k) x) load))

pub follow-top-requires-clause-before : goal.follow-top-requires-clause-before
follow-top-requires-clause-before c =
    let i = c.self.inside in
    ap (λ (xs : List ℕ). greatest xs) c.deref_mut.ensures.value ∙ top-kept i.net.value i.scale.setting i.loads.items i.exponents.items i.lengths.items i.top i.least i.rates.items (length i.places.items) c.self.invariant

pub copy_at-requires-clause-same : goal.copy_at-requires-clause-same
copy_at-requires-clause-same c = record {
  each = λ k l none.
      ap (λ (xs : List ℕ). get_or xs k 0) c.deref_mut-3.ensures.value ∙ (ap (λ (n : LoadedNetwork). get_or n.loads k 0) c.self.view_is
      ∙ c.requires.same k (omega (arith, c.requires.loads)) (not_once c.args.cells.now k none));
}

pub invariant_of-self : goal.invariant_of-self
invariant_of-self c =
    let i = c.self.inside in
    let s = i.scale.setting in
    let loads = c.args.loads.now in
    let cells = c.cells.result.now in
    let top = c.follow-top.result in
    let same : cells ≡ i.net.value.cells = c.cells.ensures.value ∙ (ap (λ (n : Network). n.cells) c.requires.net ∙ sym (ap (λ (n : LoadedNetwork). n.net.cells) c.self.view_is)) in
    let many : length cells ≡ length i.net.value.cells = ap (λ (xs : List Cell). length xs) same in
    let count : length loads ≡ length i.net.value.cells = c.requires.loads ∙ (ap (λ (xs : List Cell). length xs) (sym c.cells.ensures.value) ∙ many) in
    let w1 : length c.copy_at.new.into ≡ i.loads.len = omega arith in
    let w2 : length c.follow-top.new.kept ≡ i.exponents.len = omega arith in
    let w3 : length c.follow-top.new.into ≡ i.lengths.len = omega arith in
    let size : length c.follow-top.new.kept ≡ length i.net.value.cells = omega (arith, c.self.invariant.exponents) in
    let each : (k : ℕ) → k < length i.net.value.cells → KeepsExponent s i.net.value.cells loads c.follow-top.new.kept k
    = λ k l. subst (λ (xs : List Cell). KeepsExponent s xs loads c.follow-top.new.kept k) same (c.follow-top.ensures.kept k (omega (arith, many))) in
    let lengths : c.follow-top.new.into ≡ lengths_at s top i.least i.net.value.cells loads = c.follow-top.ensures.lengths ∙ ap (λ (xs : List Cell). lengths_at s top i.least xs loads) same in
    let greatest : top ≡ greatest_exponent s i.net.value.cells loads = c.follow-top.ensures.greatest ∙ ap (λ (xs : List Cell). greatest_exponent s xs loads) same in
    rw (with_items_is i.loads c.copy_at.new.into w1, with_items_is i.exponents c.follow-top.new.kept w2, with_items_is i.lengths c.follow-top.new.into w3, c.copy_at.ensures)
    (table-of i.net.value s loads c.follow-top.new.kept c.follow-top.new.into top i.least i.rates.items (length i.places.items) c.self.invariant.fits c.self.invariant.setting count c.requires.small c.self.invariant.least greatest size each lengths c.self.invariant.rated c.self.invariant.room)
