-- The dual of a cut is valid, and its bound is the cut's value.
use Rattle.std.proofs.Common.{◌≡◌, ◌≢◌, inl, inr, ℕ, zero, suc, ◌+◌, ◌-◌, ◌*◌, ◌<◌, ◌≤◌, List, [], ◌∷◌, Bool, true, false, cond, eqb, get_or, map, Option, Some, refl, sym, ap, subst, ◌∙◌, arith}
use Rattle.std.specs.Prelude.{◌&&◌, ◌||◌, not, All, find, slice_get}
use Rattle.std.specs.Option.{option_map_or}
use Rattle.std.specs.List.{filter, range_with_len}
use Rattle.std.proofs.lemmas.List.{get_or-map, length-map}
use Rattle.std.proofs.lemmas.List.Elements.{All-map}
use Rattle.std.proofs.lemmas.List.FromFn.{get_or-map-range_with_len}
use Rattle.std.proofs.lemmas.Option.{slice_get_within, get_or_from_slice_get}
use Rattle.std.proofs.lemmas.Bool.{cases_eq, eq-eqb, ne_eqb}
use Rattle.gap_fraction.specs.Fraction.{Fraction}
use Rattle.flow_model.specs.declared.net.Cell.{Cell}
use Rattle.flow_model.specs.declared.net.Commodity.{Commodity}
use Rattle.flow_model.specs.Network.{Network, IsNetwork, IsCell, IsCommodity}
use Rattle.flow_model.specs.Groups.{is_source, group_sources}
use Rattle.flow_model.specs.Walk.{Goes}
use Rattle.flow_model.specs.Bound.{IsPotential, volume, weighted_distance}
use Rattle.flow_paths.specs.DualRows.{Potential}
use Rattle.flow_paths.specs.Certificate.{lengths_in, distance_of, distances_in, upper_of, RowsArePotentials}
use Rattle.flow_paths.proofs.Products.{weighted_sum-map}
use Rattle.cut_bound.specs.Cuts.{Side, leaves, crosses, cut_value, side_lengths, side_potential, side_row, cut_dual}
use Rattle.cut_bound.specs.Laws.{GoBothWays, CutDualIsValid}
use Rattle.cut_bound.proofs.DualRows.{source-count, source-is, cells-have, lengths-found}
use Rattle.cut_bound.proofs.Adding.{sum-kept, sum-same}

-- ---- its bound

lengths-are : (net : Network) (both : Bool) (side : Side) → lengths_in net (cut_dual net both side) ≡ side_lengths net side
lengths-are net both side = lengths-found net (side_lengths net side) (cut_dual net both side) (length-map net.cells (λ (cell : Cell). cond {A = ℕ} (leaves side cell) 1 0)) refl

volume-is : (net : Network) (both : Bool) (side : Side) → volume net.cells (lengths_in net (cut_dual net both side)) ≡ (cut_value net both side).num
volume-is net both side =
    ap (volume net.cells) (lengths-are net both side)
    ∙ weighted_sum-map (λ (cell : Cell). cell.cap) (λ (cell : Cell). cond {A = ℕ} (leaves side cell) 1 0) net.cells
    ∙ sum-kept (λ (cell : Cell). cell.cap) (leaves side) net.cells

-- the potential at a node
pub at-node : (net : Network) (both : Bool) (side : Side) (source v : ℕ) → v < net.nodes → get_or (side_row net both side source).values v 0 ≡ side_potential both side source v
at-node net both side source v l = get_or-map-range_with_len (side_potential both side source) 0 net.nodes v v 0 l (omega arith)

-- the row of a source
row-in : (net : Network) (both : Bool) (side : Side) (p : ℕ → Bool) (a n v : ℕ) → a ≤ v → v < a + n → p v ≡ true
    → find (λ (r : Potential). eqb r.node v) (map (side_row net both side) (filter p (range_with_len a n))) ≡ Some (side_row net both side v)
row-in net both side p a zero v l m is = absurd (omega arith)
row-in net both side p a (suc n) v l m is = elim (cases_eq a v) [
  | inl e ↦
      let test : eqb a v ≡ true = eq-eqb a v e in
      let passes : p a ≡ true = ap p e ∙ is in
      rw passes (rw test (ap (λ (u : ℕ). Some (side_row net both side u)) e))
  | inr ne ↦ step (p a) (ne_eqb a v ne) (row-in net both side p (a + 1) n v (omega arith) (omega arith) is)
]
  where
    step : (b : Bool) → eqb a v ≡ false → find (λ (r : Potential). eqb r.node v) (map (side_row net both side) (filter p (range_with_len (a + 1) n))) ≡ Some (side_row net both side v)
        → find (λ (r : Potential). eqb r.node v) (map (side_row net both side) (cond b (a ∷ filter p (range_with_len (a + 1) n)) (filter p (range_with_len (a + 1) n)))) ≡ Some (side_row net both side v)
    step true test rest = rw test rest
    step false test rest = rest

-- how far the ends of a commodity are apart
apart : (b s t : Bool) → cond {A = ℕ} s (cond t 0 1) (cond (b && t) 1 0) - cond {A = ℕ} s (cond s 0 1) (cond (b && s) 1 0) ≡ cond {A = ℕ} ((s && not t) || (b && (t && not s))) 1 0
apart true true true = refl
apart true true false = refl
apart true false true = refl
apart true false false = refl
apart false true true = refl
apart false true false = refl
apart false false true = refl
apart false false false = refl

distance-is : (net : Network) (both : Bool) (side : Side) (k : Commodity) → IsCommodity net.nodes k → is_source net.commodities k.from ≡ true
    → distance_of (cut_dual net both side).potentials k ≡ cond {A = ℕ} (crosses both side k) 1 0
distance-is net both side k fits is =
    let found = row-in net both side (is_source net.commodities) 0 net.nodes k.from (omega arith) (omega (arith, fits.from)) is in
    let there = at-node net both side k.from k.to fits.to in
    let here = at-node net both side k.from k.from fits.from in
    ap (λ (o : Option Potential). option_map_or (λ r. get_or r.values k.to 0 - get_or r.values k.from 0) o 0) found
    ∙ (ap (λ (n : ℕ). n - get_or (side_row net both side k.from).values k.from 0) there
    ∙ (ap (λ (n : ℕ). side_potential both side k.from k.to - n) here
    ∙ apart both (side k.from) (side k.to)))

distances-are : (net : Network) (both : Bool) (side : Side) → IsNetwork net → weighted_distance net.commodities (distances_in net (cut_dual net both side)) ≡ (cut_value net both side).den
distances-are net both side n =
    let rows = (cut_dual net both side).potentials in
    weighted_sum-map (λ (k : Commodity). k.amount) (distance_of rows) net.commodities
    ∙ (sum-same (λ (k : Commodity). k.amount * distance_of rows k) (λ (k : Commodity). k.amount * cond (crosses both side k) 1 0) net.commodities
    (λ i d l. ap (λ (m : ℕ). (get_or net.commodities i d).amount * m) (distance-is net both side (get_or net.commodities i d) (n.commodities i d l) (source-is net.commodities i d l)))
    ∙ sum-kept (λ (k : Commodity). k.amount) (crosses both side) net.commodities)

mk : ℕ → ℕ → Fraction
mk a b = record { num = a; den = b }

-- the bound of the dual is the value of the cut
pub cut-value : (net : Network) (both : Bool) (side : Side) → IsNetwork net → upper_of net (cut_dual net both side) ≡ cut_value net both side
unfolding mk
cut-value net both side n =
    ap (λ (a : ℕ). mk a (upper_of net (cut_dual net both side)).den) (volume-is net both side) ∙ ap (λ (b : ℕ). mk (cut_value net both side).num b) (distances-are net both side n)

-- ---- its conditions

-- the ends of a cell are nodes
ends : (net : Network) (c : ℕ) (cell : Cell) → IsNetwork net → slice_get net.cells c ≡ Some cell → IsCell net.nodes cell
ends net c cell n at =
    subst (λ (k : Cell). IsCell net.nodes k) (get_or_from_slice_get net.cells c cell cell at) (n.cells c cell (slice_get_within net.cells c cell at))

both-at : (net : Network) (both : Bool) (c : ℕ) (cell : Cell) → GoBothWays net both → slice_get net.cells c ≡ Some cell → both ≡ true → cell.both ≡ true
both-at net both c cell go at is =
    subst (λ (k : Cell). k.both ≡ true) (get_or_from_slice_get net.cells c cell cell at) (go is c cell (slice_get_within net.cells c cell at))

length-at : (net : Network) (side : Side) (c : ℕ) (cell : Cell) → slice_get net.cells c ≡ Some cell → get_or (side_lengths net side) c 0 ≡ cond {A = ℕ} (leaves side cell) 1 0
length-at net side c cell at =
    get_or-map (λ (k : Cell). cond {A = ℕ} (leaves side k) 1 0) net.cells c cell 0 (slice_get_within net.cells c cell at)
    ∙ ap (λ (k : Cell). cond {A = ℕ} (leaves side k) 1 0) (get_or_from_slice_get net.cells c cell cell at)

-- over a cell from u to v, where c says that one goes both ways over it, and b that one does over all
along : (b c s u v : Bool) → (b ≡ true → c ≡ true)
    → cond {A = ℕ} s (cond v 0 1) (cond (b && v) 1 0) ≤ cond {A = ℕ} s (cond u 0 1) (cond (b && u) 1 0) + cond {A = ℕ} ((u && not v) || (c && (v && not u))) 1 0
along b c true u true h = omega arith
along b c true true false h = omega arith
along b c true false false h = omega arith
along false c false u v h = omega arith
along true c false u false h = omega arith
along true c false true true h = omega arith
along true true false false true h = omega arith
along true false false false true h = absurd (let e : false ≡ true = h refl in cc)

-- the other way over it
against : (b s u v : Bool)
    → cond {A = ℕ} s (cond v 0 1) (cond (b && v) 1 0) ≤ cond {A = ℕ} s (cond u 0 1) (cond (b && u) 1 0) + cond {A = ℕ} ((v && not u) || (true && (u && not v))) 1 0
against b true u true = omega arith
against b true true false = omega arith
against b true false false = omega arith
against false false u v = omega arith
against true false u false = omega arith
against true false true true = omega arith
against true false false true = omega arith

over : (both : Bool) (side : Side) (source : ℕ) (cell : Cell) (u v : ℕ) → (both ≡ true → cell.both ≡ true) → Goes cell u v
    → side_potential both side source v ≤ side_potential both side source u + cond {A = ℕ} (leaves side cell) 1 0
over both side source cell u v h (inl (p, q)) =
    rw (p, q) (along both cell.both (side source) (side cell.tail) (side cell.head) h)
over both side source cell u v h (inr (t, p, q)) =
    let way : cell.both ≡ true = t in
    rw (p, q, way) (against both (side source) (side cell.head) (side cell.tail))

rows-are : (net : Network) (both : Bool) (side : Side) (source : ℕ) → IsNetwork net → GoBothWays net both → IsPotential net.cells (side_lengths net side) (side_row net both side source).values
rows-are net both side source n go = λ c cell u v at goes.
    let fits = ends net c cell n at in
    let inside = within cell u v fits goes in
    let size = length-at net side c cell at in
    let there = at-node net both side source v inside.1 in
    let here = at-node net both side source u inside.0 in
    let step = over both side source cell u v (both-at net both c cell go at) goes in
    rw (there, here, size) step
  where
    within : (cell : Cell) (u v : ℕ) → IsCell net.nodes cell → Goes cell u v → (u < net.nodes) × (v < net.nodes)
    within cell u v fits (inl g) = (omega (arith, fits.tail), omega (arith, fits.head))
    within cell u v fits (inr g) = (omega (arith, fits.head), omega (arith, fits.tail))

pub cut-potentials : (net : Network) (both : Bool) (side : Side) → IsNetwork net → GoBothWays net both → RowsArePotentials net (cut_dual net both side)
cut-potentials net both side n go = record {
  each = subst (λ (xs : List ℕ). All (λ (r : Potential). IsPotential net.cells xs r.values) (cut_dual net both side).potentials) (sym (lengths-are net both side))
      (All-map (λ (r : Potential). IsPotential net.cells (side_lengths net side) r.values) (side_row net both side) (group_sources net)
      (λ i d l. rows-are net both side (get_or (group_sources net) i d) n go));
}

pub nodes-are : (net : Network) (both : Bool) (side : Side) (xs : List ℕ) → map (λ (r : Potential). r.node) (map (side_row net both side) xs) ≡ xs
nodes-are net both side [] = refl
nodes-are net both side (x ∷ xs) = ap (λ (ns : List ℕ). x ∷ ns) (nodes-are net both side xs)

-- the dual meets the conditions
pub cut-valid : (net : Network) (both : Bool) (side : Side) → IsNetwork net → GoBothWays net both → (cut_value net both side).den ≢ 0 → CutDualIsValid net both side
cut-valid net both side n go some = record {
  cells = cells-have net (side_lengths net side) (cut_dual net both side) (length-map net.cells (λ (cell : Cell). cond {A = ℕ} (leaves side cell) 1 0)) refl;
  sources = record { each = λ v l. source-count net (cut_dual net both side).potentials v (nodes-are net both side (group_sources net)) l };
  potentials = cut-potentials net both side n go;
  distance = record { divides = λ e. some (sym (distances-are net both side n) ∙ e) };
}
