-- What cuts bound, and that the best bound is not above those that were there.
use Rattle.std.proofs.Common.{◌≡◌, ◌≢◌, ℕ, ◌-◌, ◌*◌, ◌≤◌, List, [], ◌∷◌, ◌++◌, Bool, true, false, cond, eqb, Option, Some, None, length, get_or, map, refl, sym, ap, subst, ◌∙◌, arith}
use Rattle.std.specs.Prelude.{All, find}
use Rattle.std.specs.Option.{option_map_or}
use Rattle.std.specs.List.{filter, flat_map, range_with_len}
use Rattle.std.proofs.lemmas.List.{get_or_append_left, get_or-map, length-append}
use Rattle.std.proofs.lemmas.List.Elements.{All-append, All-head, All-map, All-tail, All-weaker, filter_passes}
use Rattle.std.proofs.lemmas.Option.{slice_get_within, get_or_from_slice_get}
use Rattle.std.proofs.lemmas.List.FromFn.{length-map-range_with_len}
use Rattle.std.proofs.lemmas.Bool.{ltb-true}
use Rattle.gap_fraction.specs.Fraction.{Fraction, FractionLe}
use Rattle.flow_model.specs.declared.net.Commodity.{Commodity}
use Rattle.flow_model.specs.Walk.{IsWalk}
use Rattle.flow_model.specs.Bound.{IsBelowEveryWalk, IsPotential, walk_length}
use Rattle.flow_model.specs.Network.{Network, IsNetwork}
use Rattle.flow_model.specs.Routing.{Row, IsFeasible}
use Rattle.flow_model.proofs.Duality.{duality, potential_bounds, no_commodity}
use Rattle.flow_paths.specs.DualRows.{Potential, DualRows}
use Rattle.flow_paths.specs.Certificate.{length_of, lengths_in, distance_of, distances_in, upper_of, DistanceDivides}
use Rattle.cut_bound.specs.Cuts.{Side, cut_value, cut_dual}
use Rattle.cut_bound.specs.Candidates.{candidates, fronts, is_crossed, node_sides, no_dual, rows_in, with_cuts, IsBestDual}
use Rattle.flow_paths.specs.Least.{least_by, IsFirstLeast}
use Rattle.cut_bound.specs.Laws.{GoBothWays, IsFirstCandidate}
use Rattle.cut_bound.proofs.CutDuals.{cut-value, cut-potentials}
use Rattle.cut_bound.proofs.Leasts.{least-below, least-first}

-- what was found in a list has what all of the list has
All-find : {X : Type 0} (P : X → Type 0) (p : X → Bool) (xs : List X) (x : X) → All P xs → find p xs ≡ Some x → P x
All-find P p [] x all e = absurd cc
All-find P p (y ∷ ys) x all e = first P p y ys x (p y) all (All-find P p ys x (All-tail P y ys all)) e
  where
    first : {X : Type 0} (P : X → Type 0) (p : X → Bool) (y : X) (ys : List X) (x : X) (b : Bool) → All P (y ∷ ys) → (find p ys ≡ Some x → P x) → cond b (Some y) (find p ys) ≡ Some x → P x
    first P p y ys x true all rest e = let is : y ≡ x = cc in rw (← is) (All-head P y ys all)
    first P p y ys x false all rest e = rest e

below_at : (net : Network) (lengths walk : List ℕ) (k : Commodity) (o : Option Potential) → ((r : Potential) → o ≡ Some r → IsPotential net.cells lengths r.values) → IsWalk net.cells k.from k.to walk
    → option_map_or (λ r. get_or r.values k.to 0 - get_or r.values k.from 0) o 0 ≤ walk_length lengths walk
below_at net lengths walk k None holds w = omega arith
below_at net lengths walk k (Some r) holds w = omega (arith, potential_bounds net.cells lengths r.values walk k.from k.to (holds r refl) w)

-- distances by potentials are below every walk
distances-below : (net : Network) (dual : DualRows) → All (λ r. IsPotential net.cells (lengths_in net dual) r.values) dual.potentials → IsBelowEveryWalk net (lengths_in net dual) (distances_in net dual)
distances-below net dual holds k commodity walk at w =
    let inside = slice_get_within net.commodities k commodity at in
    let is : get_or (distances_in net dual) k 0 ≡ distance_of dual.potentials commodity = get_or-map (distance_of dual.potentials) net.commodities k no_commodity 0 inside ∙ ap (distance_of dual.potentials) (get_or_from_slice_get net.commodities k commodity no_commodity at) in
    rw is (below_at net (lengths_in net dual) walk commodity (find (λ r. eqb r.node commodity.from) dual.potentials)
    (λ r found. All-find (λ s. IsPotential net.cells (lengths_in net dual) s.values) (λ s. eqb s.node commodity.from) dual.potentials r holds found) w)

-- no routing carries more than the cut lets through
pub cut-bounds : (net : Network) (both : Bool) (side : Side) (rows : List Row) (a q : ℕ) → IsNetwork net → GoBothWays net both → IsFeasible net rows a q
    → a * (cut_value net both side).den ≤ q * (cut_value net both side).num
cut-bounds net both side rows a q n go feasible =
    let dual = cut_dual net both side in
    let below = distances-below net dual (cut-potentials net both side n go).each in
    let bound : a * (upper_of net dual).den ≤ q * (upper_of net dual).num =
    duality net rows a q (lengths_in net dual) (distances_in net dual) (length-map-range_with_len (length_of dual.lengths) 0 (length net.cells)) below feasible in
    subst (λ (f : Fraction). a * f.den ≤ q * f.num) (cut-value net both side n) bound

-- a cut that some commodity crosses divides by something
pub crossed-divides : (net : Network) (both : Bool) (side : Side) → IsNetwork net → is_crossed net both side ≡ true → 1 ≤ (upper_of net (cut_dual net both side)).den
crossed-divides net both side n is =
    subst (λ (f : Fraction). 1 ≤ f.den) (sym (cut-value net both side n)) (ltb-true 0 (cut_value net both side).den is)

-- so do all candidates, where the duals that were there do
pub all-divide : (net : Network) (both : Bool) (own : List DualRows) (sides : List Side) → IsNetwork net → All (λ (d : DualRows). 1 ≤ (upper_of net d).den) own
    → All (λ (d : DualRows). 1 ≤ (upper_of net d).den) (with_cuts net both own sides)
all-divide net both own sides n h =
    All-append (λ (d : DualRows). 1 ≤ (upper_of net d).den) own (map (cut_dual net both) (filter (is_crossed net both) sides)) h
    (All-map (λ (d : DualRows). 1 ≤ (upper_of net d).den) (cut_dual net both) (filter (is_crossed net both) sides)
    (All-weaker (λ (side : Side). is_crossed net both side ≡ true) (λ (side : Side). 1 ≤ (upper_of net (cut_dual net both side)).den)
    (λ side is. crossed-divides net both side n is) (filter (is_crossed net both) sides) (filter_passes (is_crossed net both) sides)))

pub All-front : {X : Type 0} (P : X → Type 0) (xs ys : List X) → All P (xs ++ ys) → All P xs
All-front P xs ys h = λ i d l. subst P (get_or_append_left xs ys d i l) (h i d (omega (arith, length-append xs ys)))

positive : (m : ℕ) → m ≢ 0 → 1 ≤ m
positive m h = omega arith

-- the best dual is the first of the least of the candidates
pub best-first : (net : Network) (both : Bool) (own : List DualRows) (best : DualRows) → IsNetwork net → 1 ≤ length own → All (λ d. DistanceDivides net d) own → IsBestDual net both own best
    → IsFirstCandidate net both own best
best-first net both own best n some h is =
    let sides = flat_map (node_sides both) (range_with_len 0 net.nodes) ++ fronts (rows_in own) is.levels in
    let divide : All (λ (d : DualRows). 1 ≤ (upper_of net d).den) own = All-weaker (λ (d : DualRows). DistanceDivides net d) (λ (d : DualRows). 1 ≤ (upper_of net d).den) (λ d e. positive (upper_of net d).den e.divides) own h in
    let longer = length-append own (map (cut_dual net both) (filter (is_crossed net both) sides)) in
    record {
      levels = is.levels;
      are_levels = is.are_levels;
      first = subst (λ (d : DualRows). IsFirstLeast (upper_of net) (candidates net both own is.levels) d) (sym is.best_is)
          (least-first (upper_of net) no_dual (candidates net both own is.levels) (omega arith) (all-divide net both own sides n divide));
    }

pub best-not-above : (net : Network) (both : Bool) (own : List DualRows) (best : DualRows) → IsNetwork net → All (λ d. DistanceDivides net d) own → IsBestDual net both own best
    → All (λ d. FractionLe (upper_of net best) (upper_of net d)) own
best-not-above net both own best n h is =
    let divide : All (λ (d : DualRows). 1 ≤ (upper_of net d).den) own = All-weaker (λ (d : DualRows). DistanceDivides net d) (λ (d : DualRows). 1 ≤ (upper_of net d).den) (λ d e. positive (upper_of net d).den e.divides) own h in
    subst (λ (b : DualRows). All (λ (d : DualRows). FractionLe (upper_of net b) (upper_of net d)) own) (sym is.best_is) (front divide is.levels)
  where
    front : All (λ (d : DualRows). 1 ≤ (upper_of net d).den) own → (levels : List (List ℕ)) → All (λ (d : DualRows). FractionLe (upper_of net (least_by (upper_of net) no_dual (candidates net both own levels))) (upper_of net d)) own
    front divide levels = All-front (λ (d : DualRows). FractionLe (upper_of net (least_by (upper_of net) no_dual (candidates net both own levels))) (upper_of net d)) own
        (map (cut_dual net both) (filter (is_crossed net both) (flat_map (node_sides both) (range_with_len 0 net.nodes) ++ fronts (rows_in own) levels)))
        (least-below (upper_of net) no_dual (candidates net both own levels) (all-divide net both own (flat_map (node_sides both) (range_with_len 0 net.nodes) ++ fronts (rows_in own) levels) n divide))
