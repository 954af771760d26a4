use Rattle.std.proofs.Common.{◌≡◌, ℕ, ◌+◌, ◌<◌, ◌≤◌, ◌++◌, List, length, get_or, Option, sym, ap, subst, ◌∙◌, arith}
use Rattle.std.specs.Prelude.{All}
use Rattle.std.proofs.lemmas.List.{length-append}
use Rattle.mcf_limits.specs.declared.TheConstants.{MAX_LENGTH}
use Rattle.flow_paths.specs.DualRows.{potential_at}
use Rattle.gates.specs.Prices.{IsLeastIfAny}
use Rattle.throughput.proofs.Loading.{cells-long, gates-long, cells-small, gates-small}
use Rattle.throughput.proofs.Measuring.{row-once, named, source-one, placed, none-priced, all-small, behind-small}
use Rattle.throughput.proofs.measured.measured.Goals as goal

pub gated_lengths-requires-clause-loads : goal.gated_lengths-requires-clause-loads
gated_lengths-requires-clause-loads c =
    let has = c.requires.loaded in (
      ap (λ (xs : List ℕ). length xs) c.deref.ensures.value ∙ cells-long c.args.on.now.net.now has.0 c.args.loaded.now has.1,
      ap (λ (xs : List ℕ). length xs) c.deref-2.ensures.value ∙ (gates-long c.args.on.now.net.now has.0 c.args.loaded.now has.1 ∙ sym c.requires.on.gates_are.count),
    )

pub gated_lengths-requires-clause-small : goal.gated_lengths-requires-clause-small
gated_lengths-requires-clause-small c =
    let has = c.requires.loaded in
    let net = c.args.on.now.net.now in
    let Small : List ℕ → Type 0 = λ xs. All (λ (x : ℕ). x ≤ MAX_LENGTH) xs in (
      subst Small (sym c.deref.ensures.value) (cells-small net c.args.loaded.now MAX_LENGTH has c.requires.small),
      subst Small (sym c.deref-2.ensures.value) (gates-small net c.args.loaded.now MAX_LENGTH has c.requires.small),
    )

pub row_places-requires-clause-once : goal.row_places-requires-clause-once
row_places-requires-clause-once c = λ v l.
    row-once c.args.on.now.net.now c.in_ok-dual.dual v c.in_ok-dual.ensures.shows.sources (omega (arith, c.nodes.ensures.value))

pub least_price-requires-clause-small : goal.least_price-requires-clause-small
least_price-requires-clause-small c =
    let has = c.requires.loaded in
    let net = c.args.on.now.net.now in
    let gates = c.args.on.now.gates.now in
    let s = c.args.loaded.now in
    let lc = c.deref.result.now in
    let lg = c.deref-2.result.now in
    let long : length (lc ++ lg) ≡ length net.cells + length gates = (
    let one : length lc ≡ length net.cells = ap (λ (xs : List ℕ). length xs) c.deref.ensures.value ∙ cells-long net has.0 s has.1 in
    let two : length lg ≡ length gates = ap (λ (xs : List ℕ). length xs) c.deref-2.ensures.value ∙ (gates-long net has.0 s has.1 ∙ sym c.requires.on.gates_are.count) in
    length-append lc lg ∙ omega arith
    ) in
    behind-small c.gated_lengths.new.cells_into c.gated_lengths.new.gates_into MAX_LENGTH
    (subst (λ (xs : List ℕ). All (λ (x : ℕ). x ≤ MAX_LENGTH) xs) (sym c.gated_lengths.ensures.value) (all-small net gates c.args.setting.now (lc ++ lg) long))

pub least_price-requires-clause-placed : goal.least_price-requires-clause-placed
least_price-requires-clause-placed c = λ k commodity at.
    let net = c.args.on.now.net.now in
    let dual = c.in_ok-dual.dual in
    let n = c.requires.on.network in
    let sources = c.in_ok-dual.ensures.shows.sources in
    let v = commodity.from in
    let inside : v < c.nodes.result = omega (arith, (named net k commodity n at).from, c.nodes.ensures.value) in
    let there = c.in_ok-places.ensures.value v inside (source-one net dual k commodity n sources at) in
    let place = get_or c.in_ok-places.places.items v 0 in
    let same : get_or c.deref-3.result.now v 0 ≡ place = ap (λ (xs : List ℕ). get_or xs v 0) c.deref-3.ensures.value in (
      omega (arith, there.0, same),
      ap (λ (p : ℕ). (potential_at dual.potentials p).node) same ∙ placed net dual k place commodity n sources at there.1,
    )

pub returns-in-None-clause-bound : goal.returns-in-None-clause-bound
returns-in-None-clause-bound c =
    let net = c.args.on.now.net.now in
    let cells = c.gated_lengths.new.cells_into in
    let gates = c.gated_lengths.new.gates_into in
    none-priced net cells gates c.in_ok-dual.dual c.requires.on.network c.gated_lengths.ensures.long c.in_ok-dual.ensures.shows.sources c.in_ok-dual.ensures.dual
    (subst (λ (o : Option ℕ). IsLeastIfAny net (cells ++ gates) o) c.in-None.is c.least_price.ensures)
