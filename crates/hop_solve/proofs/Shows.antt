-- Duals with layers meet the conditions of a certificate with hop limits.
use Rattle.std.proofs.Common.{◌≡◌, ◌≢◌, inl, inr, ℕ, zero, suc, ◌+◌, ◌*◌, ◌-◌, ◌^◌, ◌<◌, ◌≤◌, List, [], ◌∷◌, ◌++◌, Bool, true, false, cond, eqb, length, length-append, get_or, map, Option, Some, None, refl, sym, ap, subst, ◌∙◌, arith, mul-le-mul, mul-le-mul_right}
use Rattle.std.specs.Prelude.{All, MatchOption, flat_map, slice_get}
use Rattle.std.specs.List.{enumerate_from, filter, range_with_len}
use Rattle.std.proofs.lemmas.Bool.{cases_eq, eq-eqb}
use Rattle.std.proofs.lemmas.List.{length-map, get_or-map}
use Rattle.std.proofs.lemmas.List.Elements.{All-nil, All-cons, All-head, All-tail, All-append, All-map}
use Rattle.std.proofs.lemmas.List.FromFn.{length-enumerate_from, get_or-enumerate_from}
use Rattle.std.proofs.lemmas.List.Sums.{get_or-le-sum_by}
use Rattle.std.proofs.lemmas.Option.{slice_get_within, get_or_from_slice_get, slice_get-get_or}
use Rattle.mcf_limits.specs.declared.TheConstants.{MAX_HOPS, MAX_LENGTH, MAX_PATH_CELLS}
use Rattle.flow_model.specs.declared.net.Cell.{Cell}
use Rattle.flow_model.specs.declared.net.Commodity.{Commodity}
use Rattle.flow_model.specs.Network.{Network, IsNetwork, IsCell, IsCommodity}
use Rattle.flow_model.specs.Walk.{Goes, PositiveWalk}
use Rattle.flow_model.specs.Bound.{IsPotential, walk_length, weighted_distance}
use Rattle.flow_model.specs.Least.{IsLeast, far_or}
use Rattle.flow_model.specs.Lengths.{AreLengths}
use Rattle.flow_model.proofs.Duality.{no_commodity}
use Rattle.fixed_exp.specs.Far.{EmptyAreFar}
use Rattle.flow_paths.specs.DualRows.{Length, Potential}
use Rattle.flow_paths.specs.Certificate.{CellsHaveLengths, RowsArePotentials, IsPotentialOf, lengths_in, distance_of}
use Rattle.dijkstra_paths.proofs.Spreading.{walk-more}
use Rattle.dijkstra_paths.proofs.Least.{length-more, length-first}
use Rattle.dual_bound.specs.Bounds.{length_rows, IsRowWith, IsDistance, cut_lengths, IsCutPotential}
use Rattle.dual_bound.proofs.DualRows.{cells-have, lengths-found, row-found}
use Rattle.dual_bound.proofs.Distances.{distances-are, marks-are, distance-positive, cut-positive, distance-by}
use Rattle.solver_run.proofs.Short.{least-short}
use Rattle.hop_paths.specs.Allowed.{limit_at, IsWithin, IsAllowed, IsShortWalk, IsLeastOf, AreLimits, is_unlimited, has_layer}
use Rattle.hop_check.specs.LayerRows.{Layer}
use Rattle.hop_check.specs.Layers.{HopDual, layer_in, hop_distance, hop_distances}
use Rattle.hop_check.specs.Conditions.{IsLayerOf}
use Rattle.hop_check.specs.Tables.{PotentialsAreAsked, LayersAreAsked, LayersBound}
use Rattle.hop_check.proofs.AskedRows.{layer_is_asked, source_is_unlimited}
use Rattle.hop_check.proofs.Weighing.{weighed, summed}
use Rattle.hop_solve.specs.Run.{IsLayerWith, IsHopDualWith, IsLeastLength, IsHopBoundOf, IsCutLayer, IsHopCutDual, HasHopCut, layers_asked}
use Rattle.hop_solve.specs.Numbers.{asked_of}
use Rattle.hop_solve.proofs.Finding.{within-none}
use Rattle.hop_solve.proofs.Counted.{potentials-asked, layers-asked, layer-found, limit-small, HasLayer}

-- ---- rows

-- what the conditions ask of lengths, potentials and layers
pub record ShowsHops (net : Network) (limits : List (Option ℕ)) (lengths : List ℕ) (d : HopDual) : Type 0 where
  pub lengths_are : lengths_in net d.dual ≡ lengths
  pub cells : CellsHaveLengths net d.dual
  pub asked : PotentialsAreAsked net limits d.dual.potentials
  pub asked_layers : LayersAreAsked net limits d.layers
  pub potentials : RowsArePotentials net d.dual
  pub layers : LayersBound net limits (lengths_in net d.dual) d.layers
  pub positive : 1 ≤ weighted_distance net.commodities (hop_distances net limits d)
  pub numbers : All (λ r. r.cell < length net.cells) d.dual.lengths
  pub rows : All (IsPotentialOf net) d.dual.potentials
  pub layer_rows : All (IsLayerOf net) d.layers

numbers-below : (a n : ℕ) (xs : List ℕ) → a + length xs ≤ n → All (λ (r : Length). r.cell < n) (length_rows a xs)
numbers-below a n [] l = λ k d m. absurd (omega arith)
numbers-below a n (x ∷ xs) l = go (numbers-below (a + 1) n xs (omega arith))
  where
    go : All (λ (r : Length). r.cell < n) (length_rows (a + 1) xs) → All (λ (r : Length). r.cell < n) (record { cell = a; value = x } ∷ length_rows (a + 1) xs)
    go h zero d m = omega arith
    go h (suc k) d m = h k d (omega arith)

-- each item of a list of numbers from a on that a test keeps
kept-below : (p : ℕ → Bool) (a n : ℕ) → All (λ v. v < a + n) (filter p (range_with_len a n))
kept-below p a zero = λ k d l. absurd (omega arith)
kept-below p a (suc n) = by_test (p a) (λ k d l. (let h = kept-below p (a + 1) n k d l in omega (arith, h)))
  where
    by_test : (b : Bool) → All (λ v. v < a + suc n) (filter p (range_with_len (a + 1) n)) → All (λ v. v < a + suc n) (cond b (a ∷ filter p (range_with_len (a + 1) n)) (filter p (range_with_len (a + 1) n)))
    by_test true h = All-cons (λ v. v < a + suc n) a (filter p (range_with_len (a + 1) n)) (omega arith) h
    by_test false h = h

nodes-of : (rows : List Potential) (k : ℕ) (r : Potential) (d : ℕ) → k < length rows → get_or (map (λ (r : Potential). r.node) rows) k d ≡ (get_or rows k r).node
nodes-of [] k r d l = absurd (omega arith)
nodes-of (x ∷ rows) zero r d l = refl
nodes-of (x ∷ rows) (suc k) r d l = nodes-of rows k r d (omega arith)

-- the node of each row is one of the network
rows-nodes : (net : Network) (limits : List (Option ℕ)) (rows : List Potential) → map (λ (r : Potential). r.node) rows ≡ filter (is_unlimited net limits) (range_with_len 0 net.nodes) → (k : ℕ) (r : Potential) → k < length rows → (get_or rows k r).node < net.nodes
rows-nodes net limits rows e k r l =
    let many : length (filter (is_unlimited net limits) (range_with_len 0 net.nodes)) ≡ length rows = sym (ap (λ (xs : List ℕ). length xs) e) ∙ length-map rows (λ (r : Potential). r.node) in
    let below = kept-below (is_unlimited net limits) 0 net.nodes k 0 (omega arith) in
    let same : (get_or rows k r).node ≡ get_or (filter (is_unlimited net limits) (range_with_len 0 net.nodes)) k 0 = sym (nodes-of rows k r 0 l) ∙ ap (λ (xs : List ℕ). get_or xs k 0) e in
    omega (arith, same, below)

abbrev IsPlace : Network → ℕ × ℕ → Type 0
IsPlace net p = (p.0 < net.nodes) × (p.1 ≤ MAX_HOPS)

-- the places of a node's layers
node-places : (net : Network) (limits : List (Option ℕ)) (v : ℕ) → v < net.nodes → All (IsPlace net) (asked_of net limits v)
node-places net limits v l =
    All-map (IsPlace net) (λ i. (v, i)) (filter (has_layer net limits v) (range_with_len 0 (MAX_HOPS + 1)))
    (λ k d m. (l, (let h = kept-below (has_layer net limits v) 0 (MAX_HOPS + 1) k d m in omega (arith, h))))

places-below : (net : Network) (limits : List (Option ℕ)) (a n : ℕ) → a + n ≤ net.nodes → All (IsPlace net) (flat_map (asked_of net limits) (range_with_len a n))
places-below net limits a zero l = All-nil (IsPlace net)
places-below net limits a (suc n) l =
    All-append (IsPlace net) (asked_of net limits a) (flat_map (asked_of net limits) (range_with_len (a + 1) n)) (node-places net limits a (omega arith)) (places-below net limits (a + 1) n (omega arith))

unmapped : (net : Network) (rows : List Layer) → All (IsPlace net) (map (λ (r : Layer). (r.node, r.index)) rows) → All (λ (r : Layer). IsPlace net (r.node, r.index)) rows
unmapped net [] h = λ k d l. absurd (omega arith)
unmapped net (r ∷ rows) h = All-cons (λ (r : Layer). IsPlace net (r.node, r.index)) r rows (All-head (IsPlace net) (r.node, r.index) (map (λ (r : Layer). (r.node, r.index)) rows) h)
    (unmapped net rows (All-tail (IsPlace net) (r.node, r.index) (map (λ (r : Layer). (r.node, r.index)) rows) h))

layer-rows : (net : Network) (limits : List (Option ℕ)) (Q : ℕ → ℕ → ℕ → ℕ → Type 0) (rows : List Layer) → map (λ (r : Layer). (r.node, r.index)) rows ≡ layers_asked net limits → All (IsLayerWith net.nodes Q) rows → All (IsLayerOf net) rows
layer-rows net limits Q rows e h = λ k d l.
    let place = unmapped net rows (subst (All (IsPlace net)) (sym e) (places-below net limits 0 net.nodes (omega arith))) k d l in
    record { node = place.0; index = place.1; values = (h k d l).count }

-- ---- commodities

fits-at : (net : Network) (k : ℕ) (commodity : Commodity) → IsNetwork net → slice_get net.commodities k ≡ Some commodity → IsCommodity net.nodes commodity
fits-at net k commodity n at = subst (IsCommodity net.nodes) (get_or_from_slice_get net.commodities k commodity no_commodity at) (n.commodities k no_commodity (slice_get_within net.commodities k commodity at))

-- the layer that a commodity asks for
layer-of : (net : Network) (limits : List (Option ℕ)) (lengths : List ℕ) (P : ℕ → ℕ → ℕ → Type 0) (Q : ℕ → ℕ → ℕ → ℕ → Type 0) (d : HopDual) (k n i : ℕ) (commodity : Commodity) → IsNetwork net → AreLimits net limits
    → IsHopDualWith net limits lengths P Q d → slice_get net.commodities k ≡ Some commodity → limit_at limits k ≡ Some n → i ≤ n → HasLayer net.nodes Q d.layers commodity.from i
layer-of net limits lengths P Q d k n i commodity fits are w at is l =
    layer-found net.nodes Q d.layers commodity.from i w.layers
    (layers-asked net limits d.layers are w.places commodity.from i (fits-at net k commodity fits at).from ∙ ap (λ (b : Bool). cond {A = ℕ} b 1 0) (layer_is_asked net limits k n i commodity at is l))

-- the row of potentials that a commodity asks for
row-of : (net : Network) (limits : List (Option ℕ)) (lengths : List ℕ) (P : ℕ → ℕ → ℕ → Type 0) (Q : ℕ → ℕ → ℕ → ℕ → Type 0) (d : HopDual) (k : ℕ) (commodity : Commodity) → IsNetwork net → IsHopDualWith net limits lengths P Q d
    → slice_get net.commodities k ≡ Some commodity → limit_at limits k ≡ None → (r : Potential) × (distance_of d.dual.potentials commodity ≡ get_or r.values commodity.to 0 - get_or r.values commodity.from 0) × (r.node ≡ commodity.from) × IsRowWith net.nodes P r
row-of net limits lengths P Q d k commodity fits w at is =
    let found = row-found (IsRowWith net.nodes P) d.dual.potentials commodity.from w.potentials
    (potentials-asked net limits d.dual.potentials w.sources commodity.from (fits-at net k commodity fits at).from ∙ ap (λ (b : Bool). cond {A = ℕ} b 1 0) (source_is_unlimited net limits k commodity at is)) in
    (found.0, distance-by d.dual.potentials commodity found.0 found.1, found.2, found.3)

-- one commodity with a distance makes the weighted distance positive
weighted-positive : (net : Network) (limits : List (Option ℕ)) (d : HopDual) (k : ℕ) (commodity : Commodity) → IsNetwork net → slice_get net.commodities k ≡ Some commodity → 1 ≤ hop_distance d (limit_at limits k) commodity
    → 1 ≤ weighted_distance net.commodities (hop_distances net limits d)
weighted-positive net limits d k commodity n at far =
    let inside = slice_get_within net.commodities k commodity at in
    let f : ℕ → Commodity → ℕ = λ j x. hop_distance d (limit_at limits j) x in
    let all = enumerate_from 0 net.commodities in
    let many = length-enumerate_from 0 net.commodities in
    let plain : 0 + k ≡ k = omega arith in
    let there : get_or all k (0, no_commodity) ≡ (k, commodity)
    = get_or-enumerate_from 0 net.commodities k (0, no_commodity) inside ∙ ap (λ (m : ℕ). (m, get_or net.commodities k no_commodity)) plain ∙ ap (λ (x : Commodity). (k, x)) (get_or_from_slice_get net.commodities k commodity no_commodity at) in
    let part = get_or-le-sum_by (weighed f) all k (0, no_commodity) (omega arith) in
    let is : weighed f (get_or all k (0, no_commodity)) ≡ commodity.amount * hop_distance d (limit_at limits k) commodity = ap (weighed f) there in
    let product : 1 * 1 ≤ commodity.amount * hop_distance d (limit_at limits k) commodity = mul-le-mul (fits-at net k commodity n at).positive far in
    omega (arith, part, is, product, summed f 0 net.commodities)

-- ---- the bound

long-by : (cells : List Cell) (lengths : List ℕ) (u v : ℕ) (walk : List ℕ) → AreLengths cells lengths → PositiveWalk cells u v walk → walk_length lengths walk ≤ length walk * 2 ^ 52
long-by cells lengths u v [] long w = omega arith
long-by cells lengths u v (c ∷ walk) long w = omega (arith, length-first lengths c walk, long.high c w.1.0 w.1.1 w.1.2, long-by cells lengths w.0 v walk long w.2)

-- a distance is within the limit
distance-small : (net : Network) (lengths : List ℕ) (u v p : ℕ) → IsNetwork net → AreLengths net.cells lengths → u < net.nodes → IsDistance net.cells lengths u v p → p ≤ MAX_LENGTH
distance-small net lengths u v p n long l d = omega (arith, d.2, far d.0 d.1)
  where
    far : (o : Option ℕ) → IsLeast net.cells lengths u v o → far_or o ≤ MAX_LENGTH
    far None h = omega arith
    far (Some m) h =
        let walk = h.0.0 in
        let short = least-short net lengths u v walk n long.low l (record { walks = h.0.1; least = λ other w. omega (arith, h.0.2, h.1 other w) }) in
        let few : length walk ≤ MAX_PATH_CELLS = omega (arith, n.nodes) in
        let most : length walk * 2 ^ 52 ≤ MAX_PATH_CELLS * 2 ^ 52 = mul-le-mul_right (2 ^ 52) few in
        omega (arith, h.0.2, long-by net.cells lengths u v walk long h.0.1)

-- so is the number of a layer
layer-small : (cells : List Cell) (lengths : List ℕ) (s v i p : ℕ) → AreLengths cells lengths → i ≤ MAX_HOPS → IsLeastLength (IsShortWalk cells s v i) lengths p → p ≤ MAX_LENGTH
layer-small cells lengths s v i p long l d = omega (arith, d.2, far d.0 d.1)
  where
    far : (o : Option ℕ) → IsLeastOf (IsShortWalk cells s v i) lengths o → far_or o ≤ MAX_LENGTH
    far None h = omega arith
    far (Some m) h =
        let walk = h.0.0 in
        let few : length walk ≤ MAX_HOPS = omega (arith, h.0.1.1) in
        let most : length walk * 2 ^ 52 ≤ MAX_HOPS * 2 ^ 52 = mul-le-mul_right (2 ^ 52) few in
        omega (arith, h.0.2, long-by cells lengths s v walk long h.0.1.0)

-- over a positive cell a number rises by at most its length
step : (cells : List Cell) (lengths : List ℕ) (s i c u v : ℕ) (a b : Option ℕ) (cell : Cell) → IsLeastOf (IsShortWalk cells s u i) lengths a → IsLeastOf (IsShortWalk cells s v (i + 1)) lengths b → slice_get cells c ≡ Some cell → 1 ≤ cell.cap → Goes cell u v
    → far_or b ≤ MAX_LENGTH → far_or b ≤ far_or a + get_or lengths c 0
step cells lengths s i c u v None b cell p q at cap g l = omega arith
step cells lengths s i c u v (Some d) b cell p q at cap g l =
    let walk = p.0.0 ++ c ∷ [] in
    let short : IsShortWalk cells s v (i + 1) walk = (walk-more cells s u v c p.0.0 p.0.1.0 (cell, at, cap, g), omega (arith, length-append p.0.0 (c ∷ []), p.0.1.1)) in
    go b q short (length-more lengths c p.0.0) p.0.2
  where
    go : (o : Option ℕ) → IsLeastOf (IsShortWalk cells s v (i + 1)) lengths o → IsShortWalk cells s v (i + 1) (p.0.0 ++ c ∷ []) → walk_length lengths (p.0.0 ++ c ∷ []) ≡ walk_length lengths p.0.0 + get_or lengths c 0 → walk_length lengths p.0.0 ≡ d
        → far_or o ≤ d + get_or lengths c 0
    go None q short e f = absurd (q (p.0.0 ++ c ∷ []) short)
    go (Some m) q short e f = omega (arith, q.1 (p.0.0 ++ c ∷ []) short, e, f)

-- at a node it never rises
fall : (cells : List Cell) (lengths : List ℕ) (s i v : ℕ) (a b : Option ℕ) → IsLeastOf (IsShortWalk cells s v i) lengths a → IsLeastOf (IsShortWalk cells s v (i + 1)) lengths b → far_or b ≤ MAX_LENGTH → far_or b ≤ far_or a
fall cells lengths s i v None b p q l = l
fall cells lengths s i v (Some d) None p q l = absurd (q p.0.0 (p.0.1.0, omega (arith, p.0.1.1)))
fall cells lengths s i v (Some d) (Some e) p q l = omega (arith, q.1 p.0.0 (p.0.1.0, omega (arith, p.0.1.1)), p.0.2)

ends : (net : Network) (c : ℕ) (cell : Cell) (u v : ℕ) → IsNetwork net → slice_get net.cells c ≡ Some cell → Goes cell u v → (u < net.nodes) × (v < net.nodes)
ends net c cell u v n at g =
    let within = slice_get_within net.cells c cell at in
    let fits : IsCell net.nodes cell = subst (IsCell net.nodes) (get_or_from_slice_get net.cells c cell cell at) (n.cells c cell within) in
    go fits g
  where
    go : IsCell net.nodes cell → Goes cell u v → (u < net.nodes) × (v < net.nodes)
    go fits (inl g) = (omega (arith, fits.tail), omega (arith, fits.head))
    go fits (inr g) = (omega (arith, fits.head), omega (arith, fits.tail))

abbrev Least : Network → List ℕ → ℕ → ℕ → ℕ → ℕ → Type 0
Least net lengths = λ s i v n. IsLeastLength (IsShortWalk net.cells s v i) lengths n

bound-layers : (net : Network) (limits : List (Option ℕ)) (lengths : List ℕ) (d : HopDual) → IsNetwork net → AreLimits net limits → AreLengths net.cells lengths → EmptyAreFar net.cells lengths → IsHopBoundOf net limits lengths d → LayersBound net limits lengths d.layers
bound-layers net limits lengths d n are long far w k m commodity at is =
    let s = commodity.from in
    let small : m ≤ MAX_HOPS = subst (λ (o : Option ℕ). MatchOption o (Unit {0}) (λ n. n ≤ MAX_HOPS)) is (limit-small net limits k are) in
    let layer : (i : ℕ) → i ≤ m → HasLayer net.nodes (Least net lengths) d.layers s i = λ i l. layer-of net limits lengths (IsDistance net.cells lengths) (Least net lengths) d k m i commodity n are w at is l in
    record {
      goes = λ i c cell u v l found passes.
          let inside = ends net c cell u v n found passes in
          let a = (layer i (omega arith)).each u inside.0 in
          let b = (layer (i + 1) (omega arith)).each v inside.1 in
          let top = layer-small net.cells lengths s v (i + 1) (get_or (layer_in d.layers s (i + 1)) v 0) long (omega arith) b in
          (elim (cases_eq cell.cap 0) as (λ _. get_or (layer_in d.layers s (i + 1)) v 0 ≤ get_or (layer_in d.layers s i) u 0 + get_or lengths c 0) [
            | inl e ↦ omega (arith, far.each c cell found e, top)
            | inr ne ↦
                let cap : 1 ≤ cell.cap = omega arith in
                omega (arith, step net.cells lengths s i c u v a.0 b.0 cell a.1 b.1 found cap passes (subst (λ (x : ℕ). x ≤ MAX_LENGTH) b.2 top), a.2, b.2)
          ]);
      falls = λ i v l lv.
          let a = (layer i (omega arith)).each v lv in
          let b = (layer (i + 1) (omega arith)).each v lv in
          let top = layer-small net.cells lengths s v (i + 1) (get_or (layer_in d.layers s (i + 1)) v 0) long (omega arith) b in
          omega (arith, fall net.cells lengths s i v a.0 b.0 a.1 b.1 (subst (λ (x : ℕ). x ≤ MAX_LENGTH) b.2 top), a.2, b.2);
    }

-- a node is 0 away from itself, and another at least 1
self : (cells : List Cell) (lengths : List ℕ) (u i : ℕ) (o : Option ℕ) → IsLeastOf (IsShortWalk cells u u i) lengths o → far_or o ≡ 0
self cells lengths u i None p = absurd (p [] (refl, omega arith))
self cells lengths u i (Some d) p = omega (arith, p.1 [] (refl, omega arith))

apart : (cells : List Cell) (lengths : List ℕ) (u v i : ℕ) (o : Option ℕ) → AreLengths cells lengths → u ≢ v → IsLeastOf (IsShortWalk cells u v i) lengths o → 1 ≤ far_or o
apart cells lengths u v i None long ne p = omega arith
apart cells lengths u v i (Some d) long ne p = omega (arith, go p.0.0 p.0.1.0, p.0.2)
  where
    go : (walk : List ℕ) → PositiveWalk cells u v walk → 1 ≤ walk_length lengths walk
    go [] w = absurd (ne w)
    go (c ∷ walk) w = omega (arith, length-first lengths c walk, long.low c w.1.0 w.1.1 w.1.2)

bound-far : (net : Network) (limits : List (Option ℕ)) (lengths : List ℕ) (d : HopDual) (k : ℕ) (commodity : Commodity) (o : Option ℕ) → IsNetwork net → AreLimits net limits → AreLengths net.cells lengths → IsHopBoundOf net limits lengths d
    → slice_get net.commodities k ≡ Some commodity → limit_at limits k ≡ o → 1 ≤ hop_distance d o commodity
bound-far net limits lengths d k commodity None n are long w at is =
    let row = row-of net limits lengths (IsDistance net.cells lengths) (Least net lengths) d k commodity n w at is in
    omega (arith, row.1, distance-positive net lengths commodity row.0 long (fits-at net k commodity n at) row.2 row.3)
bound-far net limits lengths d k commodity (Some m) n are long w at is =
    let fits = fits-at net k commodity n at in
    let layer : (i : ℕ) → i ≤ m → HasLayer net.nodes (Least net lengths) d.layers commodity.from i = λ i l. layer-of net limits lengths (IsDistance net.cells lengths) (Least net lengths) d k m i commodity n are w at is l in
    let there = (layer m (omega arith)).each commodity.to fits.to in
    let here = (layer 0 (omega arith)).each commodity.from fits.from in
    let zeroth = self net.cells lengths commodity.from 0 here.0 here.1 in
    let one = apart net.cells lengths commodity.from commodity.to m there.0 long fits.apart there.1 in
    omega (arith, here.2, there.2, zeroth, one)

shows-with : (net : Network) (limits : List (Option ℕ)) (lengths : List ℕ) (P : ℕ → ℕ → ℕ → Type 0) (Q : ℕ → ℕ → ℕ → ℕ → Type 0) (d : HopDual) → AreLimits net limits → length lengths ≡ length net.cells → IsHopDualWith net limits lengths P Q d
    → All (λ (r : Potential). IsPotential net.cells lengths r.values) d.dual.potentials → LayersBound net limits lengths d.layers → 1 ≤ weighted_distance net.commodities (hop_distances net limits d) → ShowsHops net limits lengths d
shows-with net limits lengths P Q d are size w potentials layers positive =
    let same : lengths_in net d.dual ≡ lengths = lengths-found net lengths d.dual size w.lengths_are in
    record {
      lengths_are = same;
      cells = cells-have net lengths d.dual size w.lengths_are;
      asked = potentials-asked net limits d.dual.potentials w.sources;
      asked_layers = layers-asked net limits d.layers are w.places;
      potentials = record { each = subst (λ (xs : List ℕ). All (λ (r : Potential). IsPotential net.cells xs r.values) d.dual.potentials) (sym same) potentials };
      layers = subst (λ (xs : List ℕ). LayersBound net limits xs d.layers) (sym same) layers;
      positive = positive;
      numbers = subst (λ (rows : List Length). All (λ r. r.cell < length net.cells) rows) (sym w.lengths_are) (numbers-below 0 (length net.cells) lengths (omega arith));
      rows = λ k r l. record { node = rows-nodes net limits d.dual.potentials w.sources k r l; values = (w.potentials k r l).count };
      layer_rows = layer-rows net limits Q d.layers w.places w.layers;
    }

some-commodity : (net : Network) → IsNetwork net → (commodity : Commodity) × (slice_get net.commodities 0 ≡ Some commodity)
some-commodity net n = (get_or net.commodities 0 no_commodity, slice_get-get_or net.commodities 0 no_commodity n.some)

-- the dual of least lengths
pub bound-shows : (net : Network) (limits : List (Option ℕ)) (lengths : List ℕ) (d : HopDual) → IsNetwork net → AreLimits net limits → AreLengths net.cells lengths → EmptyAreFar net.cells lengths → IsHopBoundOf net limits lengths d → ShowsHops net limits lengths d
bound-shows net limits lengths d n are long far w =
    let potentials : All (λ (r : Potential). IsPotential net.cells lengths r.values) d.dual.potentials = λ k r l.
    let row = w.potentials k r l in
    let values = (get_or d.dual.potentials k r).values in
    let from = (get_or d.dual.potentials k r).node in
    let node = rows-nodes net limits d.dual.potentials w.sources k r l in
    distances-are net lengths values from n far row.each (λ v b. distance-small net lengths from v (get_or values v 0) n long node (row.each v b)) in
    let some = some-commodity net n in
    shows-with net limits lengths (IsDistance net.cells lengths) (Least net lengths) d are long.count w potentials (bound-layers net limits lengths d n are long far w)
    (weighted-positive net limits d 0 some.0 n some.1 (bound-far net limits lengths d 0 some.0 (limit_at limits 0) n are long w some.1 refl))

-- ---- the cut

mark-small : (cells : List Cell) (s i v n : ℕ) → IsCutLayer cells s i v n → n ≤ 1
mark-small cells s i v n (inl p) = omega (arith, p.1)
mark-small cells s i v n (inr p) = omega (arith, p.1)

mark-step : (cells : List Cell) (s i c u v a b : ℕ) (cell : Cell) → IsCutLayer cells s i u a → IsCutLayer cells s (i + 1) v b → slice_get cells c ≡ Some cell → 1 ≤ cell.cap → Goes cell u v → b ≤ a
mark-step cells s i c u v a b cell p (inl q) at cap g = omega (arith, q.1)
mark-step cells s i c u v a b cell (inl p) (inr q) at cap g =
    absurd (q.0 (p.0.0 ++ c ∷ []) (walk-more cells s u v c p.0.0 p.0.1.0 (cell, at, cap, g), omega (arith, length-append p.0.0 (c ∷ []), p.0.1.1)))
mark-step cells s i c u v a b cell (inr p) (inr q) at cap g = omega (arith, p.1, q.1)

mark-fall : (cells : List Cell) (s i v a b : ℕ) → IsCutLayer cells s i v a → IsCutLayer cells s (i + 1) v b → b ≤ a
mark-fall cells s i v a b p (inl q) = omega (arith, q.1)
mark-fall cells s i v a b (inl p) (inr q) = absurd (q.0 p.0.0 (p.0.1.0, omega (arith, p.0.1.1)))
mark-fall cells s i v a b (inr p) (inr q) = omega (arith, p.1, q.1)

cut-length : (cells : List Cell) (c : ℕ) (cell : Cell) → slice_get cells c ≡ Some cell → cell.cap ≡ 0 → get_or (cut_lengths cells) c 0 ≡ 1
cut-length cells c cell at e =
    let f : Cell → ℕ = λ (x : Cell). cond {A = ℕ} (eqb x.cap 0) 1 0 in
    get_or-map f cells c cell 0 (slice_get_within cells c cell at) ∙ ap f (get_or_from_slice_get cells c cell cell at) ∙ ap (λ (b : Bool). cond {A = ℕ} b 1 0) (eq-eqb cell.cap 0 e)

cut-layers : (net : Network) (limits : List (Option ℕ)) (d : HopDual) → IsNetwork net → AreLimits net limits → IsHopCutDual net limits d → LayersBound net limits (cut_lengths net.cells) d.layers
cut-layers net limits d n are w k m commodity at is =
    let s = commodity.from in
    let layer : (i : ℕ) → i ≤ m → HasLayer net.nodes (IsCutLayer net.cells) d.layers s i = λ i l. layer-of net limits (cut_lengths net.cells) (IsCutPotential net.cells) (IsCutLayer net.cells) d k m i commodity n are w at is l in
    record {
      goes = λ i c cell u v l found passes.
          let inside = ends net c cell u v n found passes in
          let a = (layer i (omega arith)).each u inside.0 in
          let b = (layer (i + 1) (omega arith)).each v inside.1 in
          (elim (cases_eq cell.cap 0) as (λ _. get_or (layer_in d.layers s (i + 1)) v 0 ≤ get_or (layer_in d.layers s i) u 0 + get_or (cut_lengths net.cells) c 0) [
            | inl e ↦ omega (arith, cut-length net.cells c cell found e, mark-small net.cells s (i + 1) v (get_or (layer_in d.layers s (i + 1)) v 0) b)
            | inr ne ↦
                let cap : 1 ≤ cell.cap = omega arith in
                omega (arith, mark-step net.cells s i c u v (get_or (layer_in d.layers s i) u 0) (get_or (layer_in d.layers s (i + 1)) v 0) cell a b found cap passes)
          ]);
      falls = λ i v l lv. mark-fall net.cells s i v (get_or (layer_in d.layers s i) v 0) (get_or (layer_in d.layers s (i + 1)) v 0) ((layer i (omega arith)).each v lv) ((layer (i + 1) (omega arith)).each v lv);
    }

mark-self : (cells : List Cell) (u i a : ℕ) → IsCutLayer cells u i u a → a ≡ 0
mark-self cells u i a (inl p) = p.1
mark-self cells u i a (inr p) = absurd (p.0 [] (refl, omega arith))

mark-cut : (cells : List Cell) (s i v a : ℕ) → ((walk : List ℕ) → IsShortWalk cells s v i walk → ⊥) → IsCutLayer cells s i v a → a ≡ 1
mark-cut cells s i v a off (inl p) = absurd (off p.0.0 p.0.1)
mark-cut cells s i v a off (inr p) = p.1

cut-far : (net : Network) (limits : List (Option ℕ)) (d : HopDual) (k : ℕ) (commodity : Commodity) (o : Option ℕ) → IsNetwork net → AreLimits net limits → IsHopCutDual net limits d → slice_get net.commodities k ≡ Some commodity → limit_at limits k ≡ o
    → ((walk : List ℕ) → IsAllowed net limits k walk → ⊥) → 1 ≤ hop_distance d o commodity
cut-far net limits d k commodity None n are w at is off =
    let row = row-of net limits (cut_lengths net.cells) (IsCutPotential net.cells) (IsCutLayer net.cells) d k commodity n w at is in
    let none : (walk : List ℕ) → PositiveWalk net.cells commodity.from commodity.to walk → ⊥ = λ walk p. off walk (record { commodity = commodity; at = at; walks = p; within = within-none (limit_at limits k) walk is }) in
    omega (arith, row.1, cut-positive net commodity row.0 (fits-at net k commodity n at) none row.2 row.3)
cut-far net limits d k commodity (Some m) n are w at is off =
    let fits = fits-at net k commodity n at in
    let layer : (i : ℕ) → i ≤ m → HasLayer net.nodes (IsCutLayer net.cells) d.layers commodity.from i = λ i l. layer-of net limits (cut_lengths net.cells) (IsCutPotential net.cells) (IsCutLayer net.cells) d k m i commodity n are w at is l in
    let none : (walk : List ℕ) → IsShortWalk net.cells commodity.from commodity.to m walk → ⊥ = λ walk p. off walk (record { commodity = commodity; at = at; walks = p.0; within = subst (λ (o : Option ℕ). IsWithin o walk) (sym is) p.1 }) in
    let there = mark-cut net.cells commodity.from m commodity.to (get_or (layer_in d.layers commodity.from m) commodity.to 0) none ((layer m (omega arith)).each commodity.to fits.to) in
    let here = mark-self net.cells commodity.from 0 (get_or (layer_in d.layers commodity.from 0) commodity.from 0) ((layer 0 (omega arith)).each commodity.from fits.from) in
    omega (arith, there, here)

-- the dual of a cut
pub cut-shows : (net : Network) (limits : List (Option ℕ)) (d : HopDual) → IsNetwork net → AreLimits net limits → HasHopCut net limits → IsHopCutDual net limits d → ShowsHops net limits (cut_lengths net.cells) d
cut-shows net limits d n are cut w =
    let lengths = cut_lengths net.cells in
    let potentials : All (λ (r : Potential). IsPotential net.cells lengths r.values) d.dual.potentials = λ k r l. marks-are net (get_or d.dual.potentials k r).values (get_or d.dual.potentials k r).node n (w.potentials k r l).each in
    let commodity = get_or net.commodities cut.0 no_commodity in
    let at : slice_get net.commodities cut.0 ≡ Some commodity = slice_get-get_or net.commodities cut.0 no_commodity cut.1 in
    shows-with net limits lengths (IsCutPotential net.cells) (IsCutLayer net.cells) d are (length-map net.cells (λ (cell : Cell). cond {A = ℕ} (eqb cell.cap 0) 1 0)) w potentials (cut-layers net limits d n are w)
    (weighted-positive net limits d cut.0 commodity n at (cut-far net limits d cut.0 commodity (limit_at limits cut.0) n are w at refl cut.2))
