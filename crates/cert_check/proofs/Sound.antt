-- A valid certificate is sound.
use Rattle.std.proofs.Common.{◌≡◌, ◌≢◌, ℕ, ◌-◌, ◌*◌, ◌≤◌, List, [], ◌∷◌, Bool, true, false, Option, Some, None, cond, eqb, length, get_or, ap, ◌∙◌, arith, refl}
use Rattle.std.specs.Prelude.{All, find}
use Rattle.std.specs.Option.{option_map_or}
use Rattle.std.proofs.lemmas.List.Elements.{All-map, All-head, All-tail}
use Rattle.std.proofs.lemmas.List.FromFn.{length-map-range_with_len}
use Rattle.std.proofs.lemmas.List.{get_or-map}
use Rattle.std.proofs.lemmas.Option.{slice_get_within, get_or_from_slice_get}
use Rattle.flow_model.specs.declared.net.Commodity.{Commodity}
use Rattle.flow_model.specs.Network.{Network}
use Rattle.flow_model.specs.Walk.{IsWalk}
use Rattle.flow_model.specs.Routing.{Joins, IsFeasible}
use Rattle.flow_model.specs.Bound.{walk_length, IsBelowEveryWalk, IsPotential}
use Rattle.flow_model.proofs.Duality.{duality, potential_bounds, no_commodity}
use Rattle.flow_paths.specs.DualRows.{Potential, DualRows}
use Rattle.flow_paths.specs.declared.certificate.Routing.{Routing}
use Rattle.flow_paths.specs.declared.certificate.Proof.{Proof}
use Rattle.flow_paths.specs.Certificate.{routing_of, lower_of, upper_of, length_of, lengths_in, distance_of, distances_in, IsValidRouting, IsValid, IsCertified}
use Rattle.cert_check.proofs.Carrying.{carried-scaled, load_of-scaled}

positive : (n : ℕ) → n ≢ 0 → 1 ≤ n
positive n h = omega arith

pub valid_is_feasible : (net : Network) (r : Routing) → IsValidRouting net r → IsFeasible net (routing_of r) (lower_of r).num (lower_of r).den
valid_is_feasible net r v = record {
  parts = positive r.scale_load v.scale;
  walks = All-map (Joins net) (λ x. record { commodity = x.commodity; walk = x.walk; weight = r.scale_cap * x.weight }) r.paths v.walks;
  carried = λ k commodity at. carried-scaled r.scale_cap k r.paths ∙ ap (λ n. r.scale_cap * n) (v.carried k commodity at) ∙ omega arith;
  within = λ c cell at. omega (arith, load_of-scaled r.scale_cap c r.paths, v.loads c cell at);
}

-- what was found in a list has what all of the list has
All-find : {X : Type 0} (P : X → Type 0) (p : X → Bool) (xs : List X) (x : X) → All P xs → find p xs ≡ Some x → P x
All-find P p [] x all e = absurd cc
All-find P p (y ∷ ys) x all e = first P p y ys x (p y) all (All-find P p ys x (All-tail P y ys all)) e
  where
    first : {X : Type 0} (P : X → Type 0) (p : X → Bool) (y : X) (ys : List X) (x : X) (b : Bool) → All P (y ∷ ys) → (find p ys ≡ Some x → P x) → cond b (Some y) (find p ys) ≡ Some x → P x
    first P p y ys x true all rest e = let is : y ≡ x = cc in rw (← is) (All-head P y ys all)
    first P p y ys x false all rest e = rest e

below_at : (net : Network) (lengths walk : List ℕ) (k : Commodity) (o : Option Potential) → ((r : Potential) → o ≡ Some r → IsPotential net.cells lengths r.values) → IsWalk net.cells k.from k.to walk
    → option_map_or (λ r. get_or r.values k.to 0 - get_or r.values k.from 0) o 0 ≤ walk_length lengths walk
below_at net lengths walk k None holds w = omega arith
below_at net lengths walk k (Some r) holds w = omega (arith, potential_bounds net.cells lengths r.values walk k.from k.to (holds r refl) w)

pub distances_below : (net : Network) (dual : DualRows) → All (λ r. IsPotential net.cells (lengths_in net dual) r.values) dual.potentials → IsBelowEveryWalk net (lengths_in net dual) (distances_in net dual)
distances_below net dual holds k commodity walk at w =
    let inside = slice_get_within net.commodities k commodity at in
    let is : get_or (distances_in net dual) k 0 ≡ distance_of dual.potentials commodity = get_or-map (distance_of dual.potentials) net.commodities k no_commodity 0 inside ∙ ap (distance_of dual.potentials) (get_or_from_slice_get net.commodities k commodity no_commodity at) in
    rw is (below_at net (lengths_in net dual) walk commodity (find (λ r. eqb r.node commodity.from) dual.potentials)
    (λ r found. All-find (λ s. IsPotential net.cells (lengths_in net dual) s.values) (λ s. eqb s.node commodity.from) dual.potentials r holds found) w)

pub valid_certifies : (net : Network) (proof : Proof) → IsValid net proof → IsCertified net proof
valid_certifies net proof v =
    let below = distances_below net proof.dual v.potentials.each in
    record {
      feasible = valid_is_feasible net proof.routing v.routing;
      bounds_all = record {
        below = below;
        positive = positive (upper_of net proof.dual).den v.distance.divides;
        bounds = λ rows a q feasible. duality net rows a q (lengths_in net proof.dual) (distances_in net proof.dual) (length-map-range_with_len (length_of proof.dual.lengths) 0 (length net.cells)) below feasible;
      };
      closed = v.verdict;
    }
