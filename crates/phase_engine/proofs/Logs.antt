-- How the one worker of a view gets on.
use Rattle.std.proofs.Common.{◌≡◌, ℕ, zero, suc, ◌+◌, ◌-◌, ◌*◌, ◌<◌, ◌≤◌, List, [], ◌∷◌, ◌++◌, take, length, get_or, refl, sym, ap, ◌∙◌, subst, arith, add-one, append_assoc, append-nil, length-append}
use Rattle.std.proofs.Math.Nat.{suc-mul}
use Rattle.std.specs.Prelude.{All}
use Rattle.std.specs.List.Sorted.{IsStrictlyIncreasing}
use Rattle.std.proofs.lemmas.List.{take_more, map_push, get_or-take, length-take}
use Rattle.std.proofs.lemmas.List.Kept.{AllPairs-from_increasing}
use Rattle.flow_model.specs.Network.{Network}
use Rattle.dijkstra_paths.specs.Searched.{Searched}
use Rattle.phase_engine.specs.Found.{known_path, to_at, routes_to}
use Rattle.flow_core.specs.declared.state.Entry.{Entry}
use Rattle.flow_core.specs.declared.state.Worker.{Worker}
use Rattle.flow_core.specs.Core.{Terms, entry, worker}
use Rattle.load_table.specs.declared.view.View.{View}
use Rattle.load_table.specs.declared.view.Hand.{Hand}
use Rattle.load_table.specs.Views.{first_works, with_work}
use Rattle.phase_engine.specs.Routes.{Route}
use Rattle.load_table.specs.Reading.{LastWhere, OneWhere}
use Rattle.load_table.proofs.Works.{with-with}
use Rattle.load_table.specs.Adding.{IsReadyFor, more_adds, adds_all, HasAddedAll, adds_along}
use Rattle.load_table.proofs.Adding.{head-all, tail-all, all-nil, all-append, all-along}
use Rattle.phase_engine.specs.Steps.{IsReadyForAll, adds_of}

-- adds

adds-twice : (ps qs : List (ℕ × ℕ)) (xs ys : List ℕ) (u : Worker) → adds_all qs ys (adds_all ps xs u) ≡ adds_all (ps ++ qs) (xs ++ ys) u
adds-twice ps qs xs ys u = λ i. worker (log u.log i) u.stopped u.ticket (append_assoc u.found xs ys i)
  where
    log : (l : List Entry) → more_adds qs (more_adds ps l) ≡ more_adds (ps ++ qs) l
    log [] = refl
    log (e ∷ es) = ap (λ (xs : List (ℕ × ℕ)). entry e.ticket e.reads xs ∷ es) (append_assoc e.adds ps qs)

pub adds_two : (ps qs : List (ℕ × ℕ)) (v w x : View) → HasAddedAll ps v w → HasAddedAll qs w x → HasAddedAll (ps ++ qs) v x
adds_two ps qs v w x h g =
    let xs = h.0 in
    let ys = g.0 in
    let count : length (xs ++ ys) ≡ length (ps ++ qs) = (let a = length-append xs ys in let b = length-append ps qs in let c = h.1 in let d = g.1 in omega arith) in
    (xs ++ ys, count, g.2 ∙ (ap (with_work (adds_all qs ys)) h.2 ∙ with-with (adds_all qs ys) (adds_all ps xs) (adds_all (ps ++ qs) (xs ++ ys)) (adds-twice ps qs xs ys) v))

-- routes

routes-more : (net : Network) (s : Searched) (ms : List ℕ) (i : ℕ) → i < length ms
    → routes_to net s (take (i + 1) ms) ≡ routes_to net s (take i ms) ++ record { commodity = get_or ms i 0; path = known_path s (to_at net (get_or ms i 0)) } ∷ []
routes-more net s ms i l = ap (routes_to net s) (take_more ms i 0 l) ∙ map_push (λ (k : ℕ). record { commodity = k; path = known_path s (to_at net k) }) (take i ms) (get_or ms i 0)

adds-of-push : (rs : List Route) (r : Route) → adds_of (rs ++ r ∷ []) ≡ adds_of rs ++ adds_along r.commodity r.path
adds-of-push [] r = append-nil (adds_along r.commodity r.path)
adds-of-push (x ∷ xs) r = ap (λ (ps : List (ℕ × ℕ)). adds_along x.commodity x.path ++ ps) (adds-of-push xs r) ∙ sym (append_assoc (adds_along x.commodity x.path) (adds_of xs) (adds_along r.commodity r.path))

pub group-more : (net : Network) (s : Searched) (ms : List ℕ) (i : ℕ) (v w x : View) → i < length ms → HasAddedAll (adds_of (routes_to net s (take i ms))) v w
    → HasAddedAll (adds_along (get_or ms i 0) (known_path s (to_at net (get_or ms i 0)))) w x → HasAddedAll (adds_of (routes_to net s (take (i + 1) ms))) v x
group-more net s ms i v w x l before now =
    let k = get_or ms i 0 in
    let path = known_path s (to_at net k) in
    let more : adds_of (routes_to net s (take (i + 1) ms)) ≡ adds_of (routes_to net s (take i ms)) ++ adds_along k path =
    ap adds_of (routes-more net s ms i l) ∙ adds-of-push (routes_to net s (take i ms)) (record { commodity = k; path = path }) in
    subst (λ (ps : List (ℕ × ℕ)). HasAddedAll ps v x) (sym more) (adds_two (adds_of (routes_to net s (take i ms))) (adds_along k path) v w x before now)

pub routes-next : (net : Network) (s : Searched) (ms : List ℕ) (i : ℕ) (old before now : List Route) → i < length ms → before ≡ old ++ routes_to net s (take i ms)
    → now ≡ before ++ record { commodity = get_or ms i 0; path = known_path s (to_at net (get_or ms i 0)) } ∷ [] → now ≡ old ++ routes_to net s (take (i + 1) ms)
routes-next net s ms i old before now l b n =
    let k = get_or ms i 0 in
    n ∙ (ap (λ (xs : List Route). xs ++ record { commodity = k; path = known_path s (to_at net k) } ∷ []) b
    ∙ (append_assoc old (routes_to net s (take i ms)) (record { commodity = k; path = known_path s (to_at net k) } ∷ []) ∙ ap (λ (xs : List Route). old ++ xs) (sym (routes-more net s ms i l))))

below-adds : (net : Network) (s : Searched) (k : ℕ) (ms : List ℕ) → All (λ m. m < k) ms → All (λ (x : ℕ × ℕ). x.0 < k) (adds_of (routes_to net s ms))
below-adds net s k [] h = all-nil (λ (x : ℕ × ℕ). x.0 < k)
below-adds net s k (m ∷ ms) h =
    let less : m < k = head-all (λ m. m < k) m ms h in
    all-append (λ (x : ℕ × ℕ). x.0 < k) (adds_along m (known_path s (to_at net m))) (adds_of (routes_to net s ms)) (all-along (λ (x : ℕ × ℕ). x.0 < k) m (known_path s (to_at net m)) (λ c. less)) (below-adds net s k ms (tail-all (λ m. m < k) m ms h))

before-below : (ms : List ℕ) (i : ℕ) → i < length ms → IsStrictlyIncreasing ms → All (λ m. m < get_or ms i 0) (take i ms)
before-below ms i l up = λ j d inside.
    let less : j < i = omega (arith, length-take i ms) in
    let pairs = AllPairs-from_increasing ms up in
    let is : get_or (take i ms) j d ≡ get_or ms j d = get_or-take i ms j d less in
    let same : get_or ms j d ≡ get_or ms j 0 = any-default ms j d 0 (omega arith) in
    let below : get_or ms j 0 < get_or ms i 0 = pairs j i 0 less l in
    omega arith
  where
    any-default : (xs : List ℕ) (j d e : ℕ) → j < length xs → get_or xs j d ≡ get_or xs j e
    any-default [] j d e l = absurd (omega arith)
    any-default (x ∷ xs) zero d e l = refl
    any-default (x ∷ xs) (suc j) d e l = any-default xs j d e (omega arith)

pub ready_next : (t : Terms) (net : Network) (s : Searched) (ms : List ℕ) (i : ℕ) (v w : View) → i < length ms → IsStrictlyIncreasing ms → OneWhere (IsReadyForAll t ms) v.hands
    → HasAddedAll (adds_of (routes_to net s (take i ms))) v w → OneWhere (IsReadyFor t (get_or ms i 0)) w.hands
ready_next t net s ms i v w l up one is = subst (λ (x : View). OneWhere (IsReadyFor t (get_or ms i 0)) x.hands) (sym is.2) (hands v.hands one)
  where
    log : (es : List Entry) → LastWhere (IsReadyForAll t ms) es → LastWhere (IsReadyFor t (get_or ms i 0)) (more_adds (adds_of (routes_to net s (take i ms))) es)
    log [] h = absurd h
    log (e ∷ es) h =
        let m = h.2 i 0 l in
        let ps = adds_of (routes_to net s (take i ms)) in
        (h.0, m.0, m.1, subst (λ (qs : List (ℕ × ℕ)). All (λ (x : ℕ × ℕ). x.0 < get_or ms i 0) (qs ++ ps)) (sym h.1) (below-adds net s (get_or ms i 0) (take i ms) (before-below ms i l up)))

    hands : (hs : List Hand) → OneWhere (IsReadyForAll t ms) hs → OneWhere (IsReadyFor t (get_or ms i 0)) (first_works (adds_all (adds_of (routes_to net s (take i ms))) is.0) hs)
    hands [] h = absurd h
    hands (x ∷ []) h = log x.work.log h
    hands (x ∷ y ∷ xs) h = absurd h

pub room-left : (left n room room' : ℕ) → (left + 1) * n ≤ room → room - n ≤ room' → left * n ≤ room'
room-left left n room room' h g =
    let e : (left + 1) * n ≡ left * n + n = rw (add-one left) (suc-mul left n) in
    omega arith
