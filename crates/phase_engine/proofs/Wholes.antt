-- What closing tells makes the phase.
use Rattle.std.proofs.Common.{◌≡◌, ◌≢◌, ℕ, zero, suc, ◌<◌, ◌≤◌, min, Bool, true, false, nat_eq, nat_lt, List, [], ◌∷◌, ◌++◌, length, get_or, Some, None, refl, sym, ap, ◌∙◌, subst, arith, inl, inr}
use Rattle.std.specs.Prelude.{Contains, All, slice_get}
use Rattle.std.proofs.lemmas.List.{get_or-map, length-map}
use Rattle.std.proofs.lemmas.List.Elements.{Contains-append_left, Contains-append_right, Contains-append_cases}
use Rattle.std.proofs.lemmas.Bool.Decides.{nat_tests}
use Rattle.std.proofs.lemmas.Bool.{ne_eqb}
use Rattle.flow_model.specs.Network.{Network, IsNetwork}
use Rattle.flow_model.specs.Groups.{members_of, group_in}
use Rattle.flow_core.specs.declared.state.Entry.{Entry}
use Rattle.flow_core.specs.declared.state.Worker.{Worker}
use Rattle.flow_core.specs.Core as core
use Rattle.flow_core.specs.Core.{Terms, IsStart, IsComplete, start, after_schedule, worker_at, idle, total, path_of, group_of, commodity_count}
use Rattle.flow_core.specs.Laws.{one_if, stops_of, AllComplete, AllMembers, MembersOnly}
use Rattle.flow_core.specs.Phase.{HasAdded, HasStopped, EachIsComplete, IsPhase}
use Rattle.flow_core.proofs.Steps.{laws, counts_of}
use Rattle.flow_core.proofs.Sums.{total-at}
use Rattle.flow_core.proofs.Whole.{whole, no_entry, contained, members-at, path-member, path-some, log-inside, stopped-inside}
use Rattle.load_table.specs.declared.view.Hand as table
use Rattle.load_table.specs.Rule.{AllFit, Closes}
use Rattle.phase_engine.specs.Routes.{Route}
use Rattle.phase_engine.specs.Work.{routes_in, routes_of}
use Rattle.phase_engine.proofs.Finds.{member-place, members-inside, members-of-group}
use Rattle.phase_engine.proofs.Goings.{routes_more}
use Rattle.phase_engine.specs.declared.hand.Hand.{Hand}
use Rattle.phase_engine.specs.Hands.{no_hand, EachWork, SomeStopped}
use Rattle.phase_engine.specs.Routing.{HasRouted, IsRoutedPhase}
use Rattle.phase_engine.proofs.Counting.{routes-are-all}

fit_at : (s : core.State) (hs : List table.Hand) (k : ℕ) → AllFit s hs → k < length hs → worker_at s (get_or hs k no_hand).number ≡ (get_or hs k no_hand).work
fit_at s [] k f h = absurd (omega arith)
fit_at s (x ∷ xs) zero f h = f.0.1
fit_at s (x ∷ xs) (suc k) f h = fit_at s xs k f.1 (omega arith)

total-none : {A : Type 0} (f : A → ℕ) (l : List A) (d : A) → ((j : ℕ) → j < length l → f (get_or l j d) ≡ 0) → total f l ≡ 0
total-none f [] d none = refl
total-none f (x ∷ xs) d none = let a = none 0 (omega arith) in let b = total-none f xs d (λ j h. none (suc j) (omega arith)) in omega arith

-- the item at a place
item-at : {A : Type 0} (xs : List A) (k : ℕ) → k < length xs → (x : A) × (slice_get xs k ≡ Some x) × ((d : A) → get_or xs k d ≡ x)
item-at [] k l = absurd (omega arith)
item-at (x ∷ xs) zero l = (x, refl, λ d. refl)
item-at (x ∷ xs) (suc k) l = item-at xs k (omega arith)

place-of : {A : Type 0} (xs : List A) (k : ℕ) (x : A) → slice_get xs k ≡ Some x → (k < length xs) × ((d : A) → get_or xs k d ≡ x)
place-of [] k x e = absurd (let z : None ≡ Some x = e in cc)
place-of (y ∷ ys) zero x e = (omega arith, λ d. let z : Some y ≡ Some x = e in cc)
place-of (y ∷ ys) (suc k) x e = let r = place-of ys k x e in let l = r.0 in (omega arith, r.1)

all-of : (t : Terms) (log : List Entry) → AllComplete t log → All (IsComplete t) log
all-of t [] h = λ j d l. absurd (omega arith)
all-of t (e ∷ es) h = go (all-of t es h.1)
  where
    go : All (IsComplete t) es → (j : ℕ) (d : Entry) → j < length (e ∷ es) → IsComplete t (get_or (e ∷ es) j d)
    go rest zero d l = h.0
    go rest (suc j) d l = rest j d (omega arith)

-- routes and entries

to-routes : (net : Network) (log : List Entry) (e : Entry) (r : Route) → Contains log e → Contains (routes_in net e) r → Contains (routes_of net log) r
to-routes net [] e r h c = absurd (let l = h.1 in omega arith)
to-routes net (x ∷ xs) e r h c = subst (λ (rs : List Route). Contains rs r) (sym (routes_more net xs x)) (go h.0 h.1 h.2 (λ more. to-routes net xs e r more c))
  where
    go : (k : ℕ) → k < length (x ∷ xs) → get_or (x ∷ xs) k e ≡ e → (Contains xs e → Contains (routes_of net xs) r) → Contains (routes_of net xs ++ routes_in net x) r
    go zero l is rest = Contains-append_right (routes_of net xs) (routes_in net x) r (subst (λ (y : Entry). Contains (routes_in net y) r) (sym is) c)
    go (suc k) l is rest = Contains-append_left (routes_of net xs) (routes_in net x) r (rest (k, omega arith, is))

from-routes : (net : Network) (log : List Entry) (r : Route) → Contains (routes_of net log) r → (e : Entry) × Contains log e × Contains (routes_in net e) r
from-routes net [] r c = absurd (let l : c.0 < 0 = c.1 in omega arith)
from-routes net (x ∷ xs) r c =
    elim (Contains-append_cases (routes_of net xs) (routes_in net x) r (subst (λ (rs : List Route). Contains rs r) (routes_more net xs x) c)) [
      | inl before ↦ (let f = from-routes net xs r before in let l = f.1.1 in (f.0, (suc f.1.0, omega arith, f.1.2), f.2))
      | inr here ↦ (x, (0, omega arith, refl), here)
    ]

in-routes : (net : Network) (e : Entry) (k : ℕ) → k < length net.commodities → group_in net k ≡ e.ticket → Contains (routes_in net e) (record { commodity = k; path = path_of k e.adds })
in-routes net e k l same =
    let place = member-place net e.ticket k l same in
    let f : ℕ → Route = λ k. record { commodity = k; path = path_of k e.adds } in
    let ms = members_of net e.ticket in
    let inside : place.0 < length ms = place.1 in
    (place.0, omega (arith, length-map ms f), get_or-map f ms place.0 0 (f k) inside ∙ ap f place.2)

out-routes : (net : Network) (e : Entry) (r : Route) → Contains (routes_in net e) r → (r.commodity < length net.commodities) × (group_in net r.commodity ≡ e.ticket) × (r.path ≡ path_of r.commodity e.adds)
out-routes net e r c =
    let f : ℕ → Route = λ k. record { commodity = k; path = path_of k e.adds } in
    let ms = members_of net e.ticket in
    let j = c.0 in
    let inside : j < length ms = (let l = c.1 in omega (arith, length-map ms f)) in
    let is : f (get_or ms j 0) ≡ r = sym (get_or-map f ms j 0 r inside) ∙ c.2 in
    let k : get_or ms j 0 ≡ r.commodity = ap (λ (r : Route). r.commodity) is in (
      subst (λ (k : ℕ). k < length net.commodities) k (members-inside net e.ticket j 0 inside),
      subst (λ (k : ℕ). group_in net k ≡ e.ticket) k (members-of-group net e.ticket j 0 inside),
      sym (ap (λ (r : Route). r.path) is) ∙ ap (λ (k : ℕ). path_of k e.adds) k,
    )

at_or : {P : Type 0} (k n : ℕ) → (k < n → P) → (n ≤ k → P) → P
at_or {P = P} k n f g = by_test (nat_lt k n) refl
  where
    by_test : (b : Bool) → nat_lt k n ≡ b → P
    by_test true e = f (grind (arith, nat_tests))
    by_test false e = g (grind (arith, nat_tests))

any-default : (xs : List Worker) (k : ℕ) (d e : Worker) → k < length xs → get_or xs k d ≡ get_or xs k e
any-default [] k d e l = absurd (omega arith)
any-default (x ∷ xs) zero d e l = refl
any-default (x ∷ xs) (suc k) d e l = any-default xs k d e (omega arith)

nothing-in : (e : Entry) → Contains [] e → ⊥
nothing-in e h = let l : h.0 < 0 = h.1 in omega arith

-- what a worker added for a commodity is a route of its hand
to-hand : (t : Terms) (hands : List Hand) (works : List table.Hand) (s : core.State) (w k : ℕ) (path : List ℕ) → EachWork t hands works → ((w : ℕ) → w < length s.workers → AllMembers t (worker_at s w).log)
    → ((k : ℕ) → k < length hands → worker_at s k ≡ (get_or works k no_hand).work) → ((k : ℕ) → length hands ≤ k → worker_at s k ≡ idle)
    → (path ≢ []) × HasAdded s w k path → HasRouted hands w k path
to-hand t hands works s w k path each members mine nobody has =
    let e = has.1.0 in
    let some : path_of k e.adds ≢ [] = λ none. has.0 (sym has.1.2 ∙ none) in
    let inside = log-inside s.workers w e has.1.1 in
    let c = contained (worker_at s w).log e has.1.1 in
    let of : MembersOnly t e.ticket e.adds = subst (λ (x : Entry). MembersOnly t x.ticket x.adds) c.2 (members-at t (worker_at s w).log c.0 no_entry (members w inside) c.1) in
    let member = path-member t e.ticket k e.adds of some in
    let route : Contains (routes_in t.net e) (record { commodity = k; path = path }) =
    subst (λ (p : List ℕ). Contains (routes_in t.net e) (record { commodity = k; path = p })) has.1.2 (in-routes t.net e k member.0 member.1) in
    at_or w (length hands)
    (λ l.
    let at = item-at hands w l in
    let there : Contains (get_or works w no_hand).work.log e = subst (λ (u : Worker). Contains u.log e) (mine w l) has.1.1 in
    let routes = (each.each w at.0 l).2 in
    let routes' : at.0.routes ≡ routes_of t.net (get_or works w no_hand).work.log = ap (λ (h : Hand). h.routes) (sym (at.2 at.0)) ∙ routes in
    (at.0, at.1, subst (λ (rs : List Route). Contains rs (record { commodity = k; path = path })) (sym routes') (to-routes t.net (get_or works w no_hand).work.log e (record { commodity = k; path = path }) there route)))
    (λ past. absurd (nothing-in e (subst (λ (u : Worker). Contains u.log e) (nobody w past) has.1.1)))

-- and a route of a hand was added by its worker
of-hand : (t : Terms) (hands : List Hand) (works : List table.Hand) (s : core.State) (w k : ℕ) (path : List ℕ) → IsNetwork t.net → EachWork t hands works
    → ((k : ℕ) → k < length hands → worker_at s k ≡ (get_or works k no_hand).work) → ((k : ℕ) → AllComplete t (worker_at s k).log)
    → HasRouted hands w k path → (path ≢ []) × HasAdded s w k path
of-hand t hands works s w k path net each mine complete has =
    let place = place-of hands w has.0 has.1 in
    let l = place.0 in
    let routes : has.0.routes ≡ routes_of t.net (get_or works w no_hand).work.log = ap (λ (h : Hand). h.routes) (sym (place.1 has.0)) ∙ (each.each w has.0 l).2 in
    let r : Route = record { commodity = k; path = path } in
    let found = from-routes t.net (get_or works w no_hand).work.log r (subst (λ (rs : List Route). Contains rs r) routes has.2) in
    let e = found.0 in
    let out = out-routes t.net e r found.2 in
    let there : Contains (worker_at s w).log e = subst (λ (u : Worker). Contains u.log e) (sym (mine w l)) found.1 in
    let c = contained (worker_at s w).log e there in
    let done : IsComplete t e = subst (IsComplete t) c.2 (all-of t (worker_at s w).log (complete w) c.0 no_entry c.1) in
    let some : path_of k e.adds ≢ [] = path-some t e k net out.0 done out.1 in
    (λ none. some (sym out.2 ∙ none), (e, there, sym out.2))

-- the phase

pub phase_of : (t : Terms) (seen : core.State) (hands : List Hand) (works : List table.Hand) (loads : List ℕ) → IsStart t → EachWork t hands works → SomeStopped works → Closes t seen works loads → IsRoutedPhase t.net t.setting t.base loads hands
phase_of t seen hands works loads h each some closes =
    let s : core.State = after_schedule t (start t) closes.events in
    let inv = laws t closes.events h closes.legal in
    let many = each.as_many in
    let mine : (k : ℕ) → k < length hands → worker_at s k ≡ (get_or works k no_hand).work = λ k l.
    let at = item-at hands k l in
    let number = (each.each k at.0 l).0 in
    ap (worker_at s) (sym number) ∙ fit_at s works k closes.works (omega arith) in
    let nobody : (k : ℕ) → length hands ≤ k → worker_at s k ≡ idle = λ k past.
    closes.others k (total-none (λ (x : table.Hand). one_if (nat_eq k x.number)) works no_hand (λ j l. (
    let at = item-at hands j (omega arith) in
    let number : (get_or works j no_hand).number ≡ j = (each.each j at.0 (omega arith)).0 in
    ap one_if (ne_eqb k (get_or works j no_hand).number (λ e. omega arith))))) in
    let complete_at : (k : ℕ) → AllComplete t (worker_at s k).log = λ k. at_or k (length hands) (λ l. (
    let at = item-at hands k l in
    subst (λ (u : Worker). AllComplete t u.log) (sym (mine k l)) (each.each k at.0 l).1)) (λ past. subst (λ (u : Worker). AllComplete t u.log) (sym (nobody k past)) tt) in
    let stopped : HasStopped s = (
    let inside : some.0 < length works = some.1 in
    ((get_or works some.0 no_hand).number, ap (λ (u : Worker). u.stopped) (fit_at s works some.0 closes.works inside) ∙ some.2)) in
    let complete : EachIsComplete t s = λ k d l. subst (λ (u : Worker). All (IsComplete t) u.log) (any-default s.workers k idle d l) (all-of t (worker_at s k).log (complete_at k)) in
    let done = whole t closes.events h closes.legal stopped complete in
    let claimed : core.ticket_count t < s.claims = (
    let inside = stopped-inside s.workers stopped.0 stopped.1 in
    let stop = total-at stops_of s.workers stopped.0 idle inside in
    let one : stops_of (worker_at s stopped.0) ≡ 1 = ap one_if stopped.1 in
    (counts_of t s inv).stop_past_end (omega arith)) in
    let given : min s.claims (core.ticket_count t) ≡ core.ticket_count t = omega arith in
    record {
      entries = done.entries;
      count = done.count;
      phase = subst (λ (xs : List ℕ). IsPhase t.net t.setting t.base xs done.entries) closes.loads_there done.phase;
      routes = λ k w path. (
        λ is. to-hand t hands works s w k path each inv.members mine nobody ((done.whole.entries_are k w path).0 is),
        λ has. (done.whole.entries_are k w path).1 (of-hand t hands works s w k path h.net each mine complete_at has),
      );
      once = routes-are-all t.net hands s.workers (min s.claims (core.ticket_count t)) h.net
          (λ k d l. (each.each k d l).2 ∙ ap (λ (u : Worker). routes_of t.net u.log) (sym (mine k l))) nobody inv.weighed given;
      sums = λ c few. sym (ap (λ (xs : List ℕ). get_or xs c 0) closes.loads_there) ∙ done.sums c few;
    }
