-- What a whole phase has done.
use Rattle.std.proofs.Common.{◌≡◌, ◌≢◌, ℕ, zero, suc, ◌+◌, ◌*◌, ◌<◌, ◌≤◌, Bool, true, false, true≢false, ◌||◌, nat_eq, nat_lt, List, [], ◌∷◌, cond, length, get_or, min, refl, sym, ap, ◌∙◌, subst, inl, inr, arith, eq-eqb, ne_eqb}
use Rattle.std.specs.Prelude.{Contains, Some, slice_get, map}
use Rattle.std.specs.List.{filter, range_with_len, list_any, position_or_len}
use Rattle.std.proofs.lemmas.Bool.{cases_eq}
use Rattle.std.proofs.lemmas.List.{get_or-map}
use Rattle.std.proofs.lemmas.List.Folds.{list_any_at}
use Rattle.std.proofs.lemmas.List.Sums.{sum_by-cons}
use Rattle.std.proofs.lemmas.List.Elements.{Contains-get_or}
use Rattle.std.proofs.lemmas.Option.{get_or_from_slice_get, slice_get-get_or}
use Rattle.flow_model.specs.declared.net.Commodity.{Commodity}
use Rattle.flow_model.specs.Network.{Network, IsNetwork}
use Rattle.flow_model.specs.Walk.{PositiveWalk, times}
use Rattle.flow_model.specs.Routing.{Row, load_of}
use Rattle.flow_model.specs.Groups.{group_count, group_in, is_source, group_sources}
use Rattle.flow_core.specs.declared.state.Entry.{Entry}
use Rattle.flow_core.specs.declared.state.Worker.{Worker}
use Rattle.flow_core.specs.Core.{Terms, State, Event, AreLegal, after_schedule, total, IsStart, IsComplete, entry, idle, start, worker_at, is_pair, path_of, ticket_count, group_of, commodity_count, amount_of}
use Rattle.flow_core.specs.Laws as laws
use Rattle.flow_core.specs.Laws.{one_if, MembersOnly, AllMembers, pairs_in, pairs, added, below}
use Rattle.flow_core.specs.Phase.{Routed, HasAdded, HasStopped, EachIsComplete, IsWhole, amounts_along, routes, times_routed, IsFinished}
use Rattle.flow_core.proofs.Places.{total-none, total-only, one-place, choose}
use Rattle.std.proofs.lemmas.Bool.Decides.{nat_tests}
use mathlib.Core.Bool.{not}
use mathlib.Core.Logic.{dite}
use native.Mathlib.Decide.{ℕ_discrete}
use Rattle.flow_core.proofs.Sums.{total-at}
use Rattle.flow_core.proofs.Steps.{Inv, laws as all_laws, counts_of, added-all}

abbrev pub no_entry : Entry
no_entry = entry 0 [] []

abbrev no_route : Routed
no_route = record { worker = 0; path = [] }

-- what is added for a commodity is its path

times-cons : (c x : ℕ) (xs : List ℕ) → times c (x ∷ xs) ≡ cond (nat_eq x c) 1 0 + times c xs
times-cons c x xs = sum_by-cons (λ (y : ℕ). cond (nat_eq y c) 1 0) x xs

eqb-sym : (a b : ℕ) → nat_eq a b ≡ nat_eq b a
eqb-sym a b = elim (cases_eq a b) [ inl e ↦ rw (eq-eqb a b e) (sym (eq-eqb b a (sym e))) | inr n ↦ rw (ne_eqb a b n) (sym (ne_eqb b a (λ e. n (sym e)))) ]

pair-on : (k c : ℕ) (x : ℕ × ℕ) → k ≡ x.0 → one_if (is_pair k c x) ≡ cond (nat_eq x.1 c) 1 0
pair-on k c x e = rw (eq-eqb k x.0 e, eqb-sym c x.1) refl

pair-off : (k c : ℕ) (x : ℕ × ℕ) → k ≢ x.0 → one_if (is_pair k c x) ≡ 0
pair-off k c x n = rw (ne_eqb k x.0 n) refl

path-on : (k : ℕ) (x : ℕ × ℕ) (xs : List (ℕ × ℕ)) → k ≡ x.0 → path_of k (x ∷ xs) ≡ x.1 ∷ path_of k xs
path-on k x xs e = rw (eq-eqb k x.0 e) refl

path-off : (k : ℕ) (x : ℕ × ℕ) (xs : List (ℕ × ℕ)) → k ≢ x.0 → path_of k (x ∷ xs) ≡ path_of k xs
path-off k x xs n = rw (ne_eqb k x.0 n) refl

pub pairs-path : (k c : ℕ) (adds : List (ℕ × ℕ)) → pairs_in k c adds ≡ times c (path_of k adds)
pairs-path k c [] = refl
pairs-path k c (x ∷ xs) =
    let r = pairs-path k c xs in
    elim (cases_eq k x.0) [
      | inl e ↦
          let p = pair-on k c x e in
          let m = times-cons c x.1 (path_of k xs) in
          let all : pairs_in k c (x ∷ xs) ≡ times c (x.1 ∷ path_of k xs) = omega arith in
          all ∙ ap (times c) (sym (path-on k x xs e))
      | inr n ↦
          let p = pair-off k c x n in
          let all : pairs_in k c (x ∷ xs) ≡ times c (path_of k xs) = omega arith in
          all ∙ ap (times c) (sym (path-off k x xs n))
    ]

pub path-none : (t : Terms) (g k : ℕ) (adds : List (ℕ × ℕ)) → MembersOnly t g adds → group_of t k ≢ g → path_of k adds ≡ []
path-none t g k [] m other = refl
path-none t g k (x ∷ xs) m other =
    elim (cases_eq k x.0) [
      | inl e ↦ absurd (other (ap (group_of t) e ∙ m.0.1))
      | inr n ↦ rw (ne_eqb k x.0 n) (path-none t g k xs m.1 other)
    ]

pub path-member : (t : Terms) (g k : ℕ) (adds : List (ℕ × ℕ)) → MembersOnly t g adds → path_of k adds ≢ [] → (k < commodity_count t) × (group_of t k ≡ g)
path-member t g k [] m some = absurd (some refl)
path-member t g k (x ∷ xs) m some =
    elim (cases_eq k x.0) [
      | inl e ↦ (subst (λ (j : ℕ). j < commodity_count t) (sym e) m.0.0, ap (group_of t) e ∙ m.0.1)
      | inr n ↦ path-member t g k xs m.1 (λ none. some (rw (ne_eqb k x.0 n) none))
    ]

routes-none : (k : ℕ) (adds : List (ℕ × ℕ)) → path_of k adds ≡ [] → list_any (λ (x : ℕ × ℕ). nat_eq k x.0) adds ≡ false
routes-none k [] e = refl
routes-none k (x ∷ xs) e =
    elim (cases_eq k x.0) [
      | inl p ↦ let z : x.1 ∷ path_of k xs ≡ [] = rw (eq-eqb k x.0 p) at e in absurd (let l = ap length z in omega arith)
      | inr n ↦ let z : path_of k xs ≡ [] = rw (ne_eqb k x.0 n) at e in rw (ne_eqb k x.0 n) (routes-none k xs z)
    ]

routes-some : (k : ℕ) (adds : List (ℕ × ℕ)) → path_of k adds ≢ [] → list_any (λ (x : ℕ × ℕ). nat_eq k x.0) adds ≡ true
routes-some k [] some = absurd (some refl)
routes-some k (x ∷ xs) some =
    elim (cases_eq k x.0) [
      | inl p ↦ rw (eq-eqb k x.0 p) refl
      | inr n ↦ rw (ne_eqb k x.0 n) (routes-some k xs (λ none. some (rw (ne_eqb k x.0 n) none)))
    ]

-- where a worker stands

pub stopped-inside : (ws : List Worker) (w : ℕ) → (get_or ws w idle).stopped ≡ true → w < length ws
stopped-inside [] w e = absurd (true≢false (sym e))
stopped-inside (u ∷ us) zero e = omega arith
stopped-inside (u ∷ us) (suc w) e = let r = stopped-inside us w e in omega arith

pub log-inside : (ws : List Worker) (w : ℕ) (e : Entry) → Contains (get_or ws w idle).log e → w < length ws
log-inside [] w e h = let none : h.0 < 0 = h.1 in absurd (omega arith)
log-inside (u ∷ us) zero e h = omega arith
log-inside (u ∷ us) (suc w) e h = let r = log-inside us w e h in omega arith

-- the group of a commodity

found : (v : ℕ) (test : ℕ → Bool) (a n : ℕ) → a ≤ v → v < a + n → test v ≡ true → list_any (λ u. nat_eq u v) (filter test (range_with_len a n)) ≡ true
found v test a zero low high passes = absurd (omega arith)
found v test a (suc n) low high passes =
    elim (cases_eq a v) [
      | inl e ↦ here (test a) (ap test e ∙ passes) (filter test (range_with_len (a + 1) n)) (eq-eqb a v e)
      | inr n' ↦ let less : a + 1 ≤ v = omega arith in there (test a) (filter test (range_with_len (a + 1) n)) (found v test (a + 1) n less (omega arith) passes)
    ]
  where
    here : (b : Bool) → b ≡ true → (rest : List ℕ) → nat_eq a v ≡ true → list_any (λ u. nat_eq u v) (cond b (a ∷ rest) rest) ≡ true
    here true e rest h = ap (λ (b : Bool). b || list_any (λ u. nat_eq u v) rest) h
    here false e rest h = absurd (true≢false (sym e))

    or-right : (b c : Bool) → c ≡ true → (b || c) ≡ true
    or-right true c e = refl
    or-right false c e = e

    there : (b : Bool) (rest : List ℕ) → list_any (λ u. nat_eq u v) rest ≡ true → list_any (λ u. nat_eq u v) (cond b (a ∷ rest) rest) ≡ true
    there true rest h = or-right (nat_eq a v) (list_any (λ u. nat_eq u v) rest) h
    there false rest h = h

position-found : (p : ℕ → Bool) (xs : List ℕ) → list_any p xs ≡ true → position_or_len p xs < length xs
position-found p [] e = absurd (true≢false (sym e))
position-found p (x ∷ xs) e = go (p x) e (λ more. position-found p xs more)
  where
    go : (b : Bool) → (b || list_any p xs) ≡ true → (list_any p xs ≡ true → position_or_len p xs < length xs) → cond (not b) (1 + position_or_len p xs) 0 < suc (length xs)
    go true e rest = omega arith
    go false e rest = let r = rest e in omega arith

pub in-groups : (net : Network) (k : ℕ) → IsNetwork net → k < length net.commodities → group_in net k < group_count net
unfolding group_in group_count
in-groups net k n l =
    let d : Commodity = record { from = 0; to = 0; amount = 0 } in
    let v = get_or (map (λ (c : Commodity). c.from) net.commodities) k 0 in
    let is : v ≡ (get_or net.commodities k d).from = get_or-map (λ (c : Commodity). c.from) net.commodities k d 0 l in
    let node : v < net.nodes = rw is (n.commodities k d l).from in
    let source : is_source net.commodities v ≡ true = list_any_at (λ (c : Commodity). nat_eq c.from v) net.commodities k d l (eq-eqb (get_or net.commodities k d).from v (sym is)) in
    position-found (λ u. nat_eq u v) (group_sources net) (found v (is_source net.commodities) 0 net.nodes (omega arith) (omega arith) source)

-- the one entry that has a commodity's path

-- who routed the commodity, along which path: the one entry that has a path of it
pub record IsRoute (t : Terms) (s : State) (k : ℕ) (r : Routed) : Type 0 where
  pub added : HasAdded s r.worker k r.path
  pub some : r.path ≢ []
  pub only : (w : ℕ) (e : Entry) → Contains (worker_at s w).log e → path_of k e.adds ≢ [] → (w ≡ r.worker) × (path_of k e.adds ≡ r.path)
  pub once : total (times_routed k) s.workers ≡ 1
  pub cells : (c : ℕ) → total (λ (u : Worker). pairs k c u.log) s.workers ≡ times c r.path

off-ticket : (g n : ℕ) → one_if (nat_eq g n) ≡ 0 → g ≢ n
off-ticket g n e same = let one : one_if (nat_eq g n) ≡ 1 = ap one_if (eq-eqb g n same) in absurd (omega arith)

on-ticket : (g n : ℕ) → one_if (nat_eq g n) ≡ 1 → g ≡ n
on-ticket g n e = elim (cases_eq g n) [ inl same ↦ same | inr other ↦ let none : one_if (nat_eq g n) ≡ 0 = ap one_if (ne_eqb g n other) in absurd (omega arith) ]

pub members-at : (t : Terms) (log : List Entry) (j : ℕ) (d : Entry) → AllMembers t log → j < length log → MembersOnly t (get_or log j d).ticket (get_or log j d).adds
members-at t [] j d m l = absurd (omega arith)
members-at t (e ∷ es) zero d m l = m.0.0
members-at t (e ∷ es) (suc j) d m l = members-at t es j d m.1 (omega arith)

-- a commodity's entries have its group as their ticket, so a log without that ticket has no path of it
no-times : (t : Terms) (k : ℕ) (log : List Entry) → AllMembers t log → total (λ (e : Entry). one_if (nat_eq (group_of t k) e.ticket)) log ≡ 0
    → (j : ℕ) → j < length log → path_of k (get_or log j no_entry).adds ≡ []
no-times t k log m z j l =
    let a = total-at (λ (e : Entry). one_if (nat_eq (group_of t k) e.ticket)) log j no_entry l in
    path-none t (get_or log j no_entry).ticket k (get_or log j no_entry).adds (members-at t log j no_entry m l) (off-ticket (group_of t k) (get_or log j no_entry).ticket (omega arith))

-- what a log adds for a commodity without a path in it
log-pairs : (k c : ℕ) (log : List Entry) → ((j : ℕ) → j < length log → path_of k (get_or log j no_entry).adds ≡ []) → pairs k c log ≡ 0
log-pairs k c log h = total-none (λ (e : Entry). pairs_in k c e.adds) log no_entry (λ j l. pairs-path k c (get_or log j no_entry).adds ∙ ap (times c) (h j l))

log-routes : (k : ℕ) (log : List Entry) → ((j : ℕ) → j < length log → path_of k (get_or log j no_entry).adds ≡ []) → total (λ (e : Entry). one_if (routes k e)) log ≡ 0
log-routes k log h = total-none (λ (e : Entry). one_if (routes k e)) log no_entry (λ j l. ap one_if (routes-none k (get_or log j no_entry).adds (h j l)))

pub contained : (log : List Entry) (e : Entry) → Contains log e → (j : ℕ) × (j < length log) × (get_or log j no_entry ≡ e)
contained log e h = (h.0, h.1, any_default log h.0 no_entry e h.1 ∙ h.2)
  where
    any_default : (xs : List Entry) (i : ℕ) (d f : Entry) → i < length xs → get_or xs i d ≡ get_or xs i f
    any_default [] i d f l = absurd (omega arith)
    any_default (x ∷ xs) zero d f l = refl
    any_default (x ∷ xs) (suc i) d f l = any_default xs i d f (omega arith)

-- the path of a complete entry's member
pub path-some : (t : Terms) (e : Entry) (k : ℕ) → IsNetwork t.net → k < commodity_count t → IsComplete t e → group_of t k ≡ e.ticket → path_of k e.adds ≢ []
path-some t e k n l complete same none =
    let d : Commodity = record { from = 0; to = 0; amount = 0 } in
    let commodity = get_or t.net.commodities k d in
    let routed = complete.members k commodity (slice_get-get_or t.net.commodities k d l) same in
    let walk : PositiveWalk t.net.cells commodity.from commodity.to [] = subst (PositiveWalk t.net.cells commodity.from commodity.to) none routed.least.walks in
    (n.commodities k d l).apart walk

pub route-of : (t : Terms) (s : State) → IsNetwork t.net → Inv t s → ticket_count t ≤ s.claims → EachIsComplete t s → (k : ℕ) → k < commodity_count t → (r : Routed) × IsRoute t s k r
route-of t s n i all complete k l =
    let g = group_of t k in
    let few : g < ticket_count t = in-groups t.net k n l in
    let given : min s.claims (ticket_count t) ≡ ticket_count t = omega arith in
    let one : total (laws.times g) s.workers ≡ 1 = i.once g ∙ ap one_if (lt-is g (min s.claims (ticket_count t)) (omega arith)) in
    let at = one-place (laws.times g) s.workers idle one in
    let w = at.at in
    let log = (worker_at s w).log in
    let place = one-place (λ (e : Entry). one_if (nat_eq g e.ticket)) log no_entry at.one in
    let p = place.at in
    let e = get_or log p no_entry in
    let same : g ≡ e.ticket = on-ticket g e.ticket place.one in
    let some = path-some t e k n l (complete w idle at.inside p no_entry place.inside) same in
    let members = i.members w at.inside in
    -- in the entries of other workers, and in the worker's other entries, there is no path
    let elsewhere : (j : ℕ) → j < length s.workers → j ≢ w → (q : ℕ) → q < length (worker_at s j).log → path_of k (get_or (worker_at s j).log q no_entry).adds ≡ [] =
    λ j inside apart. no-times t k (worker_at s j).log (i.members j inside) (at.others j inside apart) in
    let besides : (q : ℕ) → q < length log → q ≢ p → path_of k (get_or log q no_entry).adds ≡ [] =
    λ q inside apart. path-none t (get_or log q no_entry).ticket k (get_or log q no_entry).adds (members-at t log q no_entry members inside) (off-ticket g (get_or log q no_entry).ticket (place.others q inside apart)) in (
      record { worker = w; path = path_of k e.adds },
      record {
        added = (e, Contains-get_or log p no_entry place.inside, refl);
        some = some;
        only = λ v f has some_path.
            let inside = log-inside s.workers v f has in
            let c = contained (worker_at s v).log f has in
            only-one s k w p v c.0 f inside c.1 c.2 (elsewhere v inside) besides some_path;
        once = total-only (times_routed k) s.workers w idle at.inside (λ j inside apart. log-routes k (worker_at s j).log (elsewhere j inside apart))
            ∙ (total-only (λ (f : Entry). one_if (routes k f)) log p no_entry place.inside (λ q inside apart. ap one_if (routes-none k (get_or log q no_entry).adds (besides q inside apart)))
            ∙ ap one_if (routes-some k e.adds some));
        cells = λ c. total-only (λ (u : Worker). pairs k c u.log) s.workers w idle at.inside (λ j inside apart. log-pairs k c (worker_at s j).log (elsewhere j inside apart))
            ∙ (total-only (λ (f : Entry). pairs_in k c f.adds) log p no_entry place.inside (λ q inside apart. pairs-path k c (get_or log q no_entry).adds ∙ ap (times c) (besides q inside apart))
            ∙ pairs-path k c e.adds);
      },
    )
  where
    lt-is : (a b : ℕ) → a < b → nat_lt a b ≡ true
    lt-is a b h = grind (arith, nat_tests)

    only-one : (s : State) (k w p v q : ℕ) (f : Entry) → v < length s.workers → q < length (worker_at s v).log → get_or (worker_at s v).log q no_entry ≡ f
        → (v ≢ w → (q : ℕ) → q < length (worker_at s v).log → path_of k (get_or (worker_at s v).log q no_entry).adds ≡ [])
        → ((q : ℕ) → q < length (worker_at s w).log → q ≢ p → path_of k (get_or (worker_at s w).log q no_entry).adds ≡ [])
        → path_of k f.adds ≢ [] → (v ≡ w) × (path_of k f.adds ≡ path_of k (get_or (worker_at s w).log p no_entry).adds)
    only-one s k w p v q f inside q_inside is elsewhere besides some_path = dite (ℕ_discrete v w)
        (λ here. (
          here,
          dite (ℕ_discrete q p)
              (λ there.
              let M : ℕ × ℕ → Type 0 = λ x. path_of k (get_or (worker_at s x.0).log x.1 no_entry).adds ≡ path_of k (get_or (worker_at s w).log p no_entry).adds in
              ap (λ (x : Entry). path_of k x.adds) (sym is) ∙ subst M (λ i. (sym here i, sym there i)) refl)
              (λ apart.
              let M : ℕ → Type 0 = λ j. q < length (worker_at s j).log in
              let none : path_of k (get_or (worker_at s w).log q no_entry).adds ≡ [] = besides q (subst M here q_inside) apart in
              absurd (some_path (ap (λ (x : Entry). path_of k x.adds) (sym is) ∙ (ap (λ (j : ℕ). path_of k (get_or (worker_at s j).log q no_entry).adds) here ∙ none)))),
        ))
        (λ apart. absurd (some_path (ap (λ (x : Entry). path_of k x.adds) (sym is) ∙ elsewhere apart q q_inside)))

-- the loads as sums over paths

below-front : (g : ℕ → ℕ) (n : ℕ) → below g (suc n) ≡ g 0 + below (λ k. g (suc k)) n
below-front g zero = omega arith
below-front g (suc n) = let r = below-front g n in omega arith

below-same : (f g : ℕ → ℕ) (n : ℕ) → ((k : ℕ) → k < n → f k ≡ g k) → below f n ≡ below g n
below-same f g zero h = refl
below-same f g (suc n) h = let r = below-same f g n (λ k l. h k (omega arith)) in let a = h n (omega arith) in omega arith

routed-load : (c j : ℕ) (cs : List Commodity) (entries : List Routed) → length entries ≡ length cs
    → load_of (amounts_along j cs entries) c ≡ below (λ k. get_or (map (λ (x : Commodity). x.amount) cs) k 0 * times c (get_or entries k no_route).path) (length cs)
routed-load c j [] entries e = refl
routed-load c j (x ∷ xs) [] e = absurd (omega arith)
routed-load c j (x ∷ xs) (r ∷ rs) e =
    let rest = routed-load c (j + 1) xs rs (omega arith) in
    let head = sum_by-cons (λ (y : Row). y.weight * times c y.walk) (record { commodity = j; walk = r.path; weight = x.amount }) (amounts_along (j + 1) xs rs) in
    let front = below-front (λ k. get_or (map (λ (x : Commodity). x.amount) (x ∷ xs)) k 0 * times c (get_or (r ∷ rs) k no_route).path) (length xs) in
    omega arith

-- the law

slice_get-inside : (xs : List Routed) (k : ℕ) (r : Routed) → slice_get xs k ≡ Some r → k < length xs
slice_get-inside [] k r e = cc
slice_get-inside (x ∷ xs) zero r e = omega arith
slice_get-inside (x ∷ xs) (suc k) r e = let l = slice_get-inside xs k r e in omega arith

pub whole : (t : Terms) (es : List Event) → IsStart t → AreLegal t (start t) es → HasStopped (after_schedule t (start t) es) → EachIsComplete t (after_schedule t (start t) es) → IsFinished t (after_schedule t (start t) es)
whole t es h legal stopped complete =
    let s : State = after_schedule t (start t) es in
    let i = all_laws t es h legal in
    let inside = stopped-inside s.workers stopped.0 stopped.1 in
    let stop = total-at laws.stops_of s.workers stopped.0 idle inside in
    let one : laws.stops_of (worker_at s stopped.0) ≡ 1 = ap one_if stopped.1 in
    let past = (counts_of t s i).stop_past_end (omega arith) in
    let chosen = choose (IsRoute t s) no_route (commodity_count t) (route-of t s h.net i (omega arith) complete) in
    let entries = chosen.0 in
    let routes_at : (k : ℕ) → k < commodity_count t → IsRoute t s k (get_or entries k no_route) = chosen.2 in
    let is_whole : IsWhole t s s.loads entries = record {
      loads_are = refl;
      stopped = stopped;
      complete = complete;
      entries_are = λ k w path. (to-added s entries k w path chosen.1 routes_at, from-added s entries k w path chosen.1 routes_at i);
    } in
    record {
      entries = entries;
      count = chosen.1;
      once = λ k l. (routes_at k l).once;
      whole = is_whole;
      phase = record {
        workers = t.workers;
        few = h.few_workers;
        events = es;
        legal = legal;
        whole = is_whole;
      };
      sums = λ c few.
          let sum = i.sums c few in
          let all = added-all t c s.workers i.members in
          let same = below-same (λ k. amount_of t k * total (λ (u : Worker). pairs k c u.log) s.workers) (λ k. amount_of t k * times c (get_or entries k no_route).path) (commodity_count t)
          (λ k l. ap (λ (m : ℕ). amount_of t k * m) ((routes_at k l).cells c)) in
          let load = routed-load c 0 t.net.commodities entries chosen.1 in
          omega arith;
    }
  where
    to-added : (s : State) (entries : List Routed) (k w : ℕ) (path : List ℕ) → length entries ≡ commodity_count t → ((k : ℕ) → k < commodity_count t → IsRoute t s k (get_or entries k no_route))
        → slice_get entries k ≡ Some (record { worker = w; path = path }) → (path ≢ []) × HasAdded s w k path
    to-added s entries k w path long at e =
        let r : Routed = record { worker = w; path = path } in
        let l : k < length entries = slice_get-inside entries k r e in
        let is : get_or entries k no_route ≡ r = get_or_from_slice_get entries k r no_route e in
        let route : IsRoute t s k r = subst (IsRoute t s k) is (at k (omega arith)) in
        (route.some, route.added)

    from-added : (s : State) (entries : List Routed) (k w : ℕ) (path : List ℕ) → length entries ≡ commodity_count t → ((k : ℕ) → k < commodity_count t → IsRoute t s k (get_or entries k no_route))
        → Inv t s → (path ≢ []) × HasAdded s w k path → slice_get entries k ≡ Some (record { worker = w; path = path })
    from-added s entries k w path long at i h =
        let e = h.1.0 in
        let some : path_of k e.adds ≢ [] = λ none. h.0 (sym h.1.2 ∙ none) in
        let inside = log-inside s.workers w e h.1.1 in
        let c = contained (worker_at s w).log e h.1.1 in
        let members : MembersOnly t e.ticket e.adds = subst (λ (x : Entry). MembersOnly t x.ticket x.adds) c.2 (members-at t (worker_at s w).log c.0 no_entry (i.members w inside) c.1) in
        let few = (path-member t e.ticket k e.adds members some).0 in
        let route = at k few in
        let only = route.only w e h.1.1 some in
        let is : get_or entries k no_route ≡ record { worker = w; path = path } = λ j. record { worker = sym only.0 j; path = (sym only.1 ∙ h.1.2) j } in
        slice_get-get_or entries k no_route (omega arith) ∙ ap (λ (r : Routed). Some r) is
