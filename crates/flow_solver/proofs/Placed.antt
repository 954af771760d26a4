-- Where routes stand, noted one after the other.
use Rattle.std.proofs.Common.{◌≡◌, ℕ, ◌+◌, ◌<◌, ◌≤◌, List, [], length, get_or, set, take, refl, sym, ap, ◌∙◌, subst, arith, Some, inl, inr}
use Rattle.std.specs.Prelude.{◌⊎◌, All, Contains, slice_get}
use Rattle.std.proofs.lemmas.Bool.{cases_eq, cases_lt}
use Rattle.std.proofs.lemmas.List.{get_or-set_same, get_or-set_other}
use Rattle.std.proofs.lemmas.List.Elements.{All-weaker, All-more, All-contains, All-contains_itself, Contains-get_or}
use Rattle.std.proofs.lemmas.Option.{slice_get-get_or, slice_get_within, same_Some}
use denote.Ref.{Bor}
use Rattle.flow_model.specs.Network.{Network}
use Rattle.flow_core.specs.Phase.{Routed}
use Rattle.phase_engine.specs.Routes.{Route}
use Rattle.phase_engine.specs.declared.hand.Hand.{Hand}
use Rattle.phase_engine.specs.Routing.{HasRouted}
use Rattle.flow_solver.specs.declared.places.Place.{Place}
use Rattle.flow_solver.specs.Routes.{HaveRouted}
use Rattle.flow_solver.specs.Adding.{no_place, IsPlaceAt}

-- what is read past the end
abbrev pub no_route : Route
no_route = record { commodity = 0; path = [] }

-- each place is as before, or one of the hand's
abbrev pub AreKept : ℕ → Hand → List Place → List Place → Type 0
AreKept w hand old new = (k : ℕ) → k < length old → (get_or new k no_place ≡ get_or old k no_place) ⊎ IsPlaceAt w hand k (get_or new k no_place)

-- the route's place is noted
abbrev pub IsNoted : ℕ → Hand → List Place → Route → Type 0
IsNoted w hand places r = IsPlaceAt w hand r.commodity (get_or places r.commodity no_place)

-- the place of hand w with this path
abbrev pub place_at : ℕ → Bor (List ℕ) → Place
place_at w path = record { hand = w; path = path }

here : (w i k : ℕ) (hand : Hand) (path : Bor (List ℕ)) → i < length hand.routes → get_or hand.routes i no_route ≡ record { commodity = k; path = path.now } → IsPlaceAt w hand k (place_at w path)
here w i k hand path l is = record { hand_is = refl; along = subst (Contains hand.routes) is (Contains-get_or hand.routes i no_route l) }

-- after a write each place is the new one or as before
after_set : (w i c k : ℕ) (hand : Hand) (path : Bor (List ℕ)) (places : List Place) → c < length places → i < length hand.routes → get_or hand.routes i no_route ≡ record { commodity = c; path = path.now }
    → (get_or (set places c (place_at w path)) k no_place ≡ get_or places k no_place) ⊎ IsPlaceAt w hand k (get_or (set places c (place_at w path)) k no_place)
after_set w i c k hand path places l in' is =
    let p = place_at w path in
    elim (cases_eq k c) [
      | inl e ↦ inr (subst (λ (j : ℕ). IsPlaceAt w hand j (get_or (set places c p) j no_place)) (sym e) (subst (IsPlaceAt w hand c) (sym (get_or-set_same places c p no_place l)) (here w i c hand path in' is)))
      | inr ne ↦ inl (get_or-set_other places c k p no_place ne)
    ]

pub kept_more : (w i c : ℕ) (hand : Hand) (path : Bor (List ℕ)) (old places : List Place) → c < length places → i < length hand.routes → get_or hand.routes i no_route ≡ record { commodity = c; path = path.now } → AreKept w hand old places
    → AreKept w hand old (set places c (place_at w path))
kept_more w i c hand path old places l in' is kept k below =
    elim (after_set w i c k hand path places l in' is) [
      | inr at ↦ inr at
      | inl same ↦ elim (kept k below) [
        | inl e ↦ inl (same ∙ e)
        | inr at ↦ inr (subst (IsPlaceAt w hand k) (sym same) at)
      ]
    ]

pub noted_more : (w i c : ℕ) (hand : Hand) (path : Bor (List ℕ)) (places : List Place) → c < length places → i < length hand.routes → get_or hand.routes i no_route ≡ record { commodity = c; path = path.now }
    → All (IsNoted w hand places) (take i hand.routes) → All (IsNoted w hand (set places c (place_at w path))) (take (i + 1) hand.routes)
noted_more w i c hand path places l in' is noted =
    let p = place_at w path in
    let new = set places c p in
    let old : All (IsNoted w hand new) (take i hand.routes) = All-weaker (IsNoted w hand places) (IsNoted w hand new) (λ r n. elim (after_set w i c r.commodity hand path places l in' is) [
      | inr at ↦ at
      | inl same ↦ subst (IsPlaceAt w hand r.commodity) (sym same) n
    ]) (take i hand.routes) noted in
    let k : (get_or hand.routes i no_route).commodity ≡ c = ap (λ (r : Route). r.commodity) is in
    let last : IsNoted w hand new (get_or hand.routes i no_route) = subst (λ k. IsPlaceAt w hand k (get_or new k no_place)) (sym k) (subst (IsPlaceAt w hand c) (sym (get_or-set_same places c p no_place l)) (here w i c hand path in' is)) in
    All-more (IsNoted w hand new) hand.routes i no_route in' old last

-- what follows of two facts on each element
pub All-both : {X : Type 0} (P Q R : X → Type 0) → ((x : X) → P x → Q x → R x) → (xs : List X) → All P xs → All Q xs → All R xs
All-both P Q R f xs p q = λ k d l. f (get_or xs k d) (p k d l) (q k d l)

-- a hand has routed the commodity along the path of the place
abbrev pub IsPlaceOf : List Hand → ℕ → Place → Type 0
IsPlaceOf hands k p = HasRouted hands p.hand k p.path.now

pub place_of : (hands : List Hand) (w k : ℕ) (hand : Hand) (p : Place) → slice_get hands w ≡ Some hand → IsPlaceAt w hand k p → IsPlaceOf hands k p
place_of hands w k hand p found at = (hand, ap (slice_get hands) at.hand_is ∙ found, at.along)

-- the routes are of commodities of the network
pub routes_inside : (net : Network) (hands : List Hand) (w : ℕ) (hand : Hand) → HaveRouted net hands → slice_get hands w ≡ Some hand → All (λ (r : Route). r.commodity < length net.commodities) hand.routes
routes_inside net hands w hand (entries, once) found =
    All-weaker (Contains hand.routes) (λ (r : Route). r.commodity < length net.commodities)
    (λ r in'. let l = slice_get_within entries r.commodity (record { worker = w; path = r.path }) ((once.routes r.commodity w r.path).1 (hand, found, in')) in let n = once.count in omega (arith, l, n))
    hand.routes (All-contains_itself hand.routes)

-- the routes of the first hands are all noted
pub record ArePlaced (hands : List Hand) (places : List Place) (n : ℕ) : Type 0 where
  pub each : (w : ℕ) (hand : Hand) → w < n → slice_get hands w ≡ Some hand → All (λ (r : Route). IsPlaceOf hands r.commodity (get_or places r.commodity no_place)) hand.routes

-- the routes of one hand more
pub placed_more : (net : Network) (hands : List Hand) (n : ℕ) (hand : Hand) (old new : List Place) → HaveRouted net hands → slice_get hands n ≡ Some hand → length old ≡ length net.commodities
    → AreKept n hand old new → All (IsNoted n hand new) hand.routes → ArePlaced hands old n → ArePlaced hands new (n + 1)
placed_more net hands n hand old new routed found long kept noted placed = record {
  each = λ w other below there. elim (cases_lt w n) [
    | inl lt ↦
        let inside = routes_inside net hands w other routed there in
        All-both (λ (r : Route). r.commodity < length net.commodities) (λ (r : Route). IsPlaceOf hands r.commodity (get_or old r.commodity no_place)) (λ (r : Route). IsPlaceOf hands r.commodity (get_or new r.commodity no_place))
        (λ r l is. elim (kept r.commodity (omega (arith, l, long))) [
          | inl same ↦ subst (IsPlaceOf hands r.commodity) (sym same) is
          | inr at ↦ place_of hands n r.commodity hand (get_or new r.commodity no_place) found at
        ])
        other.routes inside (placed.each w other lt there)
    | inr ge ↦
        let at : w ≡ n = omega arith in
        let same : other ≡ hand = same_Some other hand (sym there ∙ ap (slice_get hands) at ∙ found) in
        subst (λ (h : Hand). All (λ (r : Route). IsPlaceOf hands r.commodity (get_or new r.commodity no_place)) h.routes) (sym same)
        (All-weaker (IsNoted n hand new) (λ (r : Route). IsPlaceOf hands r.commodity (get_or new r.commodity no_place)) (λ r is. place_of hands n r.commodity hand (get_or new r.commodity no_place) found is) hand.routes noted)
  ];
}

-- the routes of all hands, so those of all commodities
pub placed_all : (net : Network) (hands : List Hand) (places : List Place) (n : ℕ) → HaveRouted net hands → length hands ≤ n → ArePlaced hands places n → (k : ℕ) → k < length net.commodities → IsPlaceOf hands k (get_or places k no_place)
placed_all net hands places n (entries, once) all placed k l =
    let none : Routed = record { worker = 0; path = [] } in
    let count = once.count in
    let e = get_or entries k none in
    let has = (once.routes k e.worker e.path).0 (slice_get-get_or entries k none (omega (arith, count))) in
    let in' = slice_get_within hands e.worker has.0 has.1 in
    All-contains (λ (r : Route). IsPlaceOf hands r.commodity (get_or places r.commodity no_place)) has.0.routes (record { commodity = k; path = e.path }) (placed.each e.worker has.0 (omega (arith, in')) has.1) has.2
