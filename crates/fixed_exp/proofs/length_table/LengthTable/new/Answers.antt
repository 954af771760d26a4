use Rattle.std.proofs.Common.{◌≡◌, ◌<◌, ◌≤◌, ℕ, List, length, replicate, arith, sym, subst, ap, ◌∙◌}
use Rattle.std.proofs.lemmas.List.{with_items_is, length-replicate}
use Rattle.std.proofs.lemmas.List.Elements.{All-replicate}
use Rattle.std.specs.Prelude.{All}
use Rattle.mcf_limits.specs.declared.TheConstants.{MAX_LENGTH}
use Rattle.flow_model.specs.declared.net.Cell.{Cell}
use Rattle.flow_model.specs.declared.setting.Setting.{Setting}
use Rattle.flow_model.specs.Network.{Network, IsNetwork}
use Rattle.flow_model.specs.Lengths.{IsSetting, greatest_exponent, lengths_at, least_capacity}
use Rattle.fixed_exp.specs.Kept.{AreRates, AreRated, KeepsExponent}
use Rattle.fixed_exp.specs.declared.rates.Rate.{Rate}
use Rattle.fixed_exp.proofs.Tables.{table-of, least-below, are-rated}
use Rattle.fixed_exp.proofs.Unloaded.{greatest-unloaded, kept-unloaded}
use Rattle.fixed_exp.proofs.length_table.LengthTable.new.Goals as goal

pub put_rates-requires-clause-least : goal.put_rates-requires-clause-least
put_rates-requires-clause-least c = least-below c.cells-cells.result.now c.least_of-least.result c.least_of-least.ensures.value

pub put_all_lengths-requires-clause-rated : goal.put_all_lengths-requires-clause-rated
put_all_lengths-requires-clause-rated c =
    let cells = c.cells-cells.result.now in
    let least = c.least_of-least.result in
    let rates = c.put_rates.new.into in
    let size : length rates ≡ c.in_ok-rates.rates.len = omega arith in
    let seen : c.deref.result.now ≡ rates = c.deref.ensures.value ∙ with_items_is c.in_ok-rates.rates rates size in
    let is : cells ≡ c.args.net.now.cells = c.cells-cells.ensures.value in
    let s = c.new-scale.result.setting in
    let of : AreRates s c.args.net.now.cells least rates = subst (λ (xs : List Cell). AreRates s xs least rates) is c.put_rates.ensures in
    subst (λ (rs : List Rate). AreRated s cells least rs) (sym seen) (subst (λ (xs : List Cell). AreRated s xs least rates) (sym is)
    (are-rated c.args.net.now s least rates c.cells-cells.ensures.net of (c.least_of-least.ensures.value ∙ ap least_capacity is)))

pub put_all_lengths-requires-clause-kept : goal.put_all_lengths-requires-clause-kept
put_all_lengths-requires-clause-kept c = λ k l.
    let s = c.new-scale.result.setting in
    let cells = c.cells-cells.result.now in
    let unloaded : c.deref-2.result.now ≡ replicate (length cells) 0 = c.deref-2.ensures.value ∙ c.in_ok-loads.ensures.items_if_clones_equal (λ y e. e) in
    let none : c.deref-3.result.now ≡ replicate (length cells) 0 = c.deref-3.ensures.value ∙ c.in_ok-exponents.ensures.items_if_clones_equal (λ y e. e) in
    subst (λ (xs : List ℕ). KeepsExponent s cells xs c.deref-3.result.now k) (sym unloaded)
    (subst (λ (xs : List ℕ). KeepsExponent s cells (replicate (length cells) 0) xs k) (sym none) (kept-unloaded s cells (length cells) k l))

pub invariant_of-result : goal.invariant_of-result
invariant_of-result c =
    let net = c.of.result.value in
    let s = c.new-scale.result.setting in
    let cells = c.cells-cells.result.now in
    let into = c.put_all_lengths.new.into in
    let loads = c.in_ok-loads.loads.items in
    let kept = c.in_ok-exponents.exponents.items in
    let least = c.least_of-least.result in
    let is : c.args.net.now ≡ net = sym c.of.ensures in
    let same : cells ≡ net.cells = c.cells-cells.ensures.value ∙ ap (λ (n : Network). n.cells) is in
    let many : length cells ≡ length net.cells = ap (λ (xs : List Cell). length xs) same in
    let unloaded : loads ≡ replicate (length cells) 0 = c.in_ok-loads.ensures.items_if_clones_equal (λ y e. e) in
    let none : kept ≡ replicate (length cells) 0 = c.in_ok-exponents.ensures.items_if_clones_equal (λ y e. e) in
    let seen : c.deref-2.result.now ≡ loads = c.deref-2.ensures.value in
    let count : length loads ≡ length net.cells = ap (λ (xs : List ℕ). length xs) unloaded ∙ (length-replicate (length cells) 0 ∙ many) in
    let size : length kept ≡ length net.cells = ap (λ (xs : List ℕ). length xs) none ∙ (length-replicate (length cells) 0 ∙ many) in
    let small : All (λ x. x ≤ MAX_LENGTH) loads = subst (λ (xs : List ℕ). All (λ x. x ≤ MAX_LENGTH) xs) (sym unloaded) (All-replicate (λ (x : ℕ). x ≤ MAX_LENGTH) (length cells) 0 (omega arith)) in
    let p : least ≡ least_capacity net.cells = c.least_of-least.ensures.value ∙ ap (λ (xs : List Cell). least_capacity xs) same in
    let q : 0 ≡ greatest_exponent s net.cells loads = sym (ap (λ (xs : List ℕ). greatest_exponent s net.cells xs) (unloaded ∙ ap (λ (n : ℕ). replicate n 0) many) ∙ greatest-unloaded s net.cells) in
    let each : (k : ℕ) → k < length net.cells → KeepsExponent s net.cells loads kept k
    = λ k l.
    subst (λ (xs : List ℕ). KeepsExponent s net.cells xs kept k) (sym unloaded)
    (subst (λ (xs : List ℕ). KeepsExponent s net.cells (replicate (length cells) 0) xs k) (sym none) (kept-unloaded s net.cells (length cells) k (omega (arith, many)))) in
    let e : into ≡ lengths_at s 0 least net.cells loads = c.put_all_lengths.ensures ∙ (ap (λ (xs : List Cell). lengths_at s 0 least xs c.deref-2.result.now) same ∙ ap (λ (xs : List ℕ). lengths_at s 0 least net.cells xs) seen) in
    let fits : IsNetwork net = subst (λ (n : Network). IsNetwork n) is c.cells-cells.ensures.net in
    let setting : IsSetting s = subst (λ (x : Setting). IsSetting x) (sym c.new-scale.ensures) c.requires in
    let w1 : length into ≡ c.in_ok-lengths.lengths.len = omega arith in
    let w2 : length c.put_rates.new.into ≡ c.in_ok-rates.rates.len = omega arith in
    let rated : AreRates s net.cells least c.put_rates.new.into = subst (λ (xs : List Cell). AreRates s xs least c.put_rates.new.into) same c.put_rates.ensures in
    let room : length c.in_ok-places.places.items ≡ length net.cells = omega (arith, many, c.in_ok-places.ensures.len) in
    rw (with_items_is c.in_ok-lengths.lengths into w1, with_items_is c.in_ok-rates.rates c.put_rates.new.into w2)
    (table-of net s loads kept into 0 least c.put_rates.new.into (length c.in_ok-places.places.items) fits setting count small p q size each e rated room)
