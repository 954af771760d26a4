-- A valid certificate with hop limits is sound.
use Rattle.std.proofs.Common.{◌≡◌, ◌≢◌, ℕ, ◌+◌, ◌*◌, ◌≤◌, List, Option, Some, None, length, get_or, ap, subst, ◌∙◌, arith, refl}
use Rattle.std.specs.Prelude.{slice_get}
use Rattle.std.specs.List.{enumerate_from}
use Rattle.std.proofs.lemmas.List.Elements.{All-map}
use Rattle.std.proofs.lemmas.List.FromFn.{length-map-range_with_len, length-enumerate_from, get_or-enumerate_from}
use Rattle.std.proofs.lemmas.List.{get_or-map}
use Rattle.std.proofs.lemmas.Option.{slice_get_within, get_or_from_slice_get}
use Rattle.flow_model.specs.declared.net.Commodity.{Commodity}
use Rattle.flow_model.specs.Network.{Network, IsNetwork, IsCommodity}
use Rattle.flow_model.specs.Walk.{IsWalk}
use Rattle.flow_model.specs.Routing.{Row}
use Rattle.flow_model.specs.Bound.{volume, weighted_distance, walk_length, IsBelowItsRows}
use Rattle.flow_model.proofs.Duality.{duality_of_rows, no_commodity, potential_bounds}
use Rattle.flow_paths.specs.Certificate.{length_of, lengths_in, distance_of, distances_in}
use Rattle.cert_check.proofs.Sound.{valid_is_feasible, distances_below}
use Rattle.hop_paths.specs.Allowed.{limit_at, IsWithin, IsHopFeasible}
use Rattle.hop_paths.proofs.Layered.{layers_bound}
use Rattle.hop_check.specs.declared.hop_proof.HopProof.{HopProof}
use Rattle.hop_check.specs.Layers.{HopDual, dual_of, layer_in, hop_distance, hop_distances, hop_upper_of}
use Rattle.hop_check.specs.Conditions.{RowsBound, IsBelowWalksWithin, IsValidHops, IsHopCertified}
use Rattle.hop_check.specs.Laws.{IsGiven, AreGiven}

positive : (n : ℕ) → n ≢ 0 → 1 ≤ n
positive n h = omega arith

-- the distance at a commodity's place
pub hop_distance_at : (net : Network) (limits : List (Option ℕ)) (d : HopDual) (k : ℕ) (commodity : Commodity) → slice_get net.commodities k ≡ Some commodity
    → get_or (hop_distances net limits d) k 0 ≡ hop_distance d (limit_at limits k) commodity
hop_distance_at net limits d k commodity at =
    let inside = slice_get_within net.commodities k commodity at in
    let many = length-enumerate_from 0 net.commodities in
    let f : ℕ × Commodity → ℕ = λ p. hop_distance d (limit_at limits p.0) p.1 in
    let first : get_or (hop_distances net limits d) k 0 ≡ f (get_or (enumerate_from 0 net.commodities) k (0, no_commodity)) = get_or-map f (enumerate_from 0 net.commodities) k (0, no_commodity) 0 (omega arith) in
    let second : get_or (enumerate_from 0 net.commodities) k (0, no_commodity) ≡ (0 + k, get_or net.commodities k no_commodity) = get_or-enumerate_from 0 net.commodities k (0, no_commodity) inside in
    let third : get_or net.commodities k no_commodity ≡ commodity = get_or_from_slice_get net.commodities k commodity no_commodity at in
    let plain : 0 + k ≡ k = omega arith in
    first ∙ ap f second ∙ ap (λ (x : Commodity). hop_distance d (limit_at limits (0 + k)) x) third ∙ ap (λ (n : ℕ). hop_distance d (limit_at limits n) commodity) plain

below_limit : (net : Network) (limits : List (Option ℕ)) (h : HopProof) (k : ℕ) (commodity : Commodity) (walk : List ℕ) (limit : Option ℕ) → IsNetwork net → RowsBound net limits h → slice_get net.commodities k ≡ Some commodity
    → limit_at limits k ≡ limit → IsWalk net.cells commodity.from commodity.to walk → IsWithin limit walk → hop_distance (dual_of h) limit commodity ≤ walk_length (lengths_in net h.proof.dual) walk
below_limit net limits h k commodity walk None fits bound at is w within =
    let below = distances_below net h.proof.dual bound.potentials.each k commodity walk at w in
    let inside = slice_get_within net.commodities k commodity at in
    let same : get_or (distances_in net h.proof.dual) k 0 ≡ distance_of h.proof.dual.potentials commodity =
    get_or-map (distance_of h.proof.dual.potentials) net.commodities k no_commodity 0 inside ∙ ap (distance_of h.proof.dual.potentials) (get_or_from_slice_get net.commodities k commodity no_commodity at) in
    omega arith
below_limit net limits h k commodity walk (Some n) fits bound at is w within =
    let inside = slice_get_within net.commodities k commodity at in
    let named : IsCommodity net.nodes commodity = subst (λ (x : Commodity). IsCommodity net.nodes x) (get_or_from_slice_get net.commodities k commodity no_commodity at) (fits.commodities k no_commodity inside) in
    let p : ℕ → List ℕ = layer_in h.layers commodity.from in
    omega (arith, layers_bound net (lengths_in net h.proof.dual) p n commodity.from commodity.to walk (bound.layers k n commodity at is) named.to w within)

pub hops_below : (net : Network) (limits : List (Option ℕ)) (h : HopProof) → IsNetwork net → RowsBound net limits h → IsBelowWalksWithin net limits (lengths_in net h.proof.dual) (hop_distances net limits (dual_of h))
hops_below net limits h fits bound k commodity walk at w within =
    rw (hop_distance_at net limits (dual_of h) k commodity at) (below_limit net limits h k commodity walk (limit_at limits k) fits bound at refl w within)

-- the bound holds of the rows of every routing within the limits
pub rows_below : (net : Network) (limits : List (Option ℕ)) (lengths distances : List ℕ) (rows : List Row) (a q : ℕ) → IsBelowWalksWithin net limits lengths distances → IsHopFeasible net limits rows a q → IsBelowItsRows lengths distances rows
rows_below net limits lengths distances rows a q below f = λ i d lt.
    let j = f.feasible.walks i d lt in
    below (get_or rows i d).commodity j.0 (get_or rows i d).walk j.1 j.2 (f.within i d lt)

-- distances that no walk within its limit is shorter than bound every routing within the limits
pub distances_bound : (net : Network) (limits : List (Option ℕ)) (lengths distances : List ℕ) (rows : List Row) (a q : ℕ)
    → length lengths ≡ length net.cells → IsBelowWalksWithin net limits lengths distances → IsHopFeasible net limits rows a q
    → a * weighted_distance net.commodities distances ≤ q * volume net.cells lengths
distances_bound net limits lengths distances rows a q len below f = duality_of_rows net rows a q lengths distances len (rows_below net limits lengths distances rows a q below f) f.feasible

-- a distance that is given by layers or by a potential is below every walk within the limit
given_below : (net : Network) (lengths : List ℕ) (layers : ℕ → ℕ → List ℕ) (potentials : ℕ → List ℕ) (commodity : Commodity) (distance : ℕ) (walk : List ℕ) (limit : Option ℕ)
    → IsCommodity net.nodes commodity → IsGiven net lengths layers potentials commodity distance limit
    → IsWalk net.cells commodity.from commodity.to walk → IsWithin limit walk → distance ≤ walk_length lengths walk
given_below net lengths layers potentials commodity distance walk None named is w within =
    let bound = potential_bounds net.cells lengths (potentials commodity.from) walk commodity.from commodity.to is.0 w in
    omega (arith, is.1, bound)
given_below net lengths layers potentials commodity distance walk (Some n) named is w within =
    let bound = layers_bound net lengths (layers commodity.from) n commodity.from commodity.to walk is.0 named.to w within in
    omega (arith, is.1, bound)

given_below_walks : (net : Network) (limits : List (Option ℕ)) (lengths distances : List ℕ) (layers : ℕ → ℕ → List ℕ) (potentials : ℕ → List ℕ)
    → IsNetwork net → AreGiven net limits lengths layers potentials distances → IsBelowWalksWithin net limits lengths distances
given_below_walks net limits lengths distances layers potentials fits each k commodity walk at w within =
    let inside = slice_get_within net.commodities k commodity at in
    let named : IsCommodity net.nodes commodity = subst (λ (x : Commodity). IsCommodity net.nodes x) (get_or_from_slice_get net.commodities k commodity no_commodity at) (fits.commodities k no_commodity inside) in
    given_below net lengths layers potentials commodity (get_or distances k 0) walk (limit_at limits k) named (each k commodity at) w within

-- so they bound every routing within the limits
pub layers_bound_rows : (net : Network) (limits : List (Option ℕ)) (lengths distances : List ℕ) (layers : ℕ → ℕ → List ℕ) (potentials : ℕ → List ℕ) (rows : List Row) (a q : ℕ)
    → IsNetwork net → length lengths ≡ length net.cells → AreGiven net limits lengths layers potentials distances
    → IsHopFeasible net limits rows a q → a * weighted_distance net.commodities distances ≤ q * volume net.cells lengths
layers_bound_rows net limits lengths distances layers potentials rows a q fits len each f =
    distances_bound net limits lengths distances rows a q len (given_below_walks net limits lengths distances layers potentials fits each) f

pub hops_certify : (net : Network) (limits : List (Option ℕ)) (h : HopProof) → IsNetwork net → IsValidHops net limits h → IsHopCertified net limits h
hops_certify net limits h fits v =
    let r = h.proof.routing in
    let lengths = lengths_in net h.proof.dual in
    let distances = hop_distances net limits (dual_of h) in
    let below = hops_below net limits h fits v.1.1.1.1.1.1.0 in
    record {
      feasible = record {
        feasible = valid_is_feasible net r (record { walks = v.0.walks; carried = v.1.0; loads = v.1.1.0; scale = v.1.1.1.0 });
        within = All-map (λ row. IsWithin (limit_at limits row.commodity) row.walk) (λ (x : Row). record { commodity = x.commodity; walk = x.walk; weight = r.scale_cap * x.weight }) r.paths v.0.within;
      };
      bounds_all = record {
        below = below;
        positive = positive (hop_upper_of net limits (dual_of h)).den v.1.1.1.1.1.1.1.0;
        bounds = λ rows a q f. duality_of_rows net rows a q lengths distances (length-map-range_with_len (length_of h.proof.dual.lengths) 0 (length net.cells)) (rows_below net limits lengths distances rows a q below f) f.feasible;
      };
      closed = v.1.1.1.1.1.1.1.1.1.0;
    }
