-- How a worker gets on from claim to claim.
use Rattle.std.proofs.Common.{◌≡◌, ℕ, ◌+◌, ◌*◌, ◌<◌, ◌≤◌, Bool, true, false, nat_lt, List, [], ◌∷◌, ◌++◌, refl, sym, ap, ◌∙◌, subst, arith, append-nil}
use Rattle.std.specs.Prelude.{if◌then◌else◌, reverse, flat_map}
use Rattle.std.proofs.lemmas.Bool.Decides.{nat_tests}
use Rattle.std.proofs.Math.Nat.{mul-le-mul}
use Rattle.std.proofs.lemmas.Grind.{reverse_onto, flat_map-append}
use Rattle.flow_model.specs.Network.{Network}
use Rattle.flow_core.specs.declared.state.Entry.{Entry}
use Rattle.flow_core.specs.declared.state.Worker.{Worker}
use Rattle.flow_core.specs.Core.{Terms, entry, worker, idle, claimed, LastIsComplete, IsComplete}
use Rattle.flow_core.specs.Laws.{AllComplete, IsFalling}
use Rattle.load_table.specs.declared.view.View.{View}
use Rattle.load_table.specs.declared.view.Hand.{Hand}
use Rattle.load_table.specs.Views.{hand, first_works, with_work}
use Rattle.load_table.specs.Rule.{MayClaim, AllFallBelow}
use Rattle.phase_engine.specs.Routes.{Route}
use Rattle.load_table.specs.Reading.{OneWhere}
use Rattle.phase_engine.specs.Steps.{IsClaimed, finishes, HasFinished}
use Rattle.phase_engine.specs.Work.{routes_in, routes_of, HasWorked}
use Rattle.phase_engine.specs.Going.{IsGoing, next_ticket}

pub starts_going : (t : Terms) (n : ℕ) (hands : List Hand) (routes : List Route) → hands ≡ hand n idle ∷ [] → routes ≡ [] → IsGoing t n hands routes
starts_going t n hands routes is none_yet = record { work = idle; hands_are = is; complete = tt; going = refl; routes_are = none_yet }

pub may_claim : (t : Terms) (n : ℕ) (hands : List Hand) (routes : List Route) → IsGoing t n hands routes → MayClaim t hands
may_claim t n hands routes g = subst (MayClaim t) (sym g.hands_are) (g.going, last g.work.log g.complete)
  where
    last : (log : List Entry) → AllComplete t log → LastIsComplete t log
    last [] h = tt
    last (e ∷ es) h = h.0

-- a ticket below the number of groups makes an entry
claims_one : (count ticket : ℕ) (u : Worker) → ticket < count → claimed count ticket u ≡ worker (entry ticket [] [] ∷ u.log) u.stopped ticket u.found
claims_one count ticket u l =
    let yes_below : nat_lt ticket count ≡ true = grind (arith, nat_tests) in
    ap (λ (b : Bool). if b then worker (entry ticket [] [] ∷ u.log) u.stopped ticket u.found else worker u.log true ticket u.found) yes_below

-- a ticket past the end stops
claims_none : (count ticket : ℕ) (u : Worker) → count ≤ ticket → claimed count ticket u ≡ worker u.log true ticket u.found
claims_none count ticket u l =
    let none_below : nat_lt ticket count ≡ false = grind (arith, nat_tests) in
    ap (λ (b : Bool). if b then worker (entry ticket [] [] ∷ u.log) u.stopped ticket u.found else worker u.log true ticket u.found) none_below

hands_after : (f : Worker → Worker) (n : ℕ) (v w : View) (u : Worker) → w ≡ with_work f v → v.hands ≡ hand n u ∷ [] → w.hands ≡ hand n (f u) ∷ []
hands_after f n v w u is hands = ap (λ (x : View). x.hands) is ∙ ap (first_works f) hands

-- after a claim the last entry is a new one
pub is_claimed : (t : Terms) (n count ticket : ℕ) (routes : List Route) (v w : View) → IsGoing t n v.hands routes → w ≡ with_work (claimed count ticket) v → ticket < count → OneWhere (IsClaimed ticket) w.hands
is_claimed t n count ticket routes v w g is l =
    let hands : w.hands ≡ hand n (worker (entry ticket [] [] ∷ g.work.log) g.work.stopped ticket g.work.found) ∷ [] =
    hands_after (claimed count ticket) n v w g.work is g.hands_are ∙ ap (λ (u : Worker). hand n u ∷ []) (claims_one count ticket g.work l) in
    subst (OneWhere (IsClaimed ticket)) (sym hands) refl

pub routes_more : (net : Network) (log : List Entry) (e : Entry) → routes_of net (e ∷ log) ≡ routes_of net log ++ routes_in net e
routes_more net log e = ap (flat_map (routes_in net)) (reverse_onto log e []) ∙ (flat_map-append (routes_in net) (reverse log) (e ∷ []) ∙ ap (λ (rs : List Route). routes_of net log ++ rs) (append-nil (routes_in net e)))

pub goes_on : (t : Terms) (net : Network) (n count ticket : ℕ) (routes routes' new : List Route) (reads : List ℕ) (adds : List (ℕ × ℕ)) (v w x : View) → t.net ≡ net → IsGoing t n v.hands routes → w ≡ with_work (claimed count ticket) v → ticket < count
    → HasFinished reads adds w x → IsComplete t (entry ticket reads adds) → routes' ≡ routes ++ new → new ≡ routes_in net (entry ticket reads adds) → IsGoing t n x.hands routes'
goes_on t net n count ticket routes routes' new reads adds v w x same g is l done complete more are =
    let mid : w.hands ≡ hand n (worker (entry ticket [] [] ∷ g.work.log) g.work.stopped ticket g.work.found) ∷ [] =
    hands_after (claimed count ticket) n v w g.work is g.hands_are ∙ ap (λ (u : Worker). hand n u ∷ []) (claims_one count ticket g.work l) in
    let e = entry ticket reads adds in
    record {
      work = worker (e ∷ g.work.log) g.work.stopped ticket (g.work.found ++ done.0);
      hands_are = hands_after (finishes reads adds done.0) n w x (worker (entry ticket [] [] ∷ g.work.log) g.work.stopped ticket g.work.found) done.2 mid;
      complete = (complete, g.complete);
      going = g.going;
      routes_are = more ∙ ((λ i. g.routes_are i ++ (are ∙ ap (λ (m : Network). routes_in m e) (sym same)) i) ∙ sym (routes_more t.net g.work.log e));
    }

pub stops : (t : Terms) (n count ticket : ℕ) (routes : List Route) (v0 v w : View) → IsGoing t n v.hands routes → w ≡ with_work (claimed count ticket) v → count ≤ ticket → v.left ≡ v0.left → v.made ≡ v0.made
    → HasWorked t n v0 w false routes
stops t n count ticket routes v0 v w g is past left made = record {
  left = ap (λ (x : View). x.left) is ∙ left;
  made = ap (λ (x : View). x.made) is ∙ made;
  work = worker g.work.log true ticket g.work.found;
  hands = hands_after (claimed count ticket) n v w g.work is g.hands_are ∙ ap (λ (u : Worker). hand n u ∷ []) (claims_none count ticket g.work past);
  is_work = record { complete = g.complete; stopped = refl; routes_are = g.routes_are };
}

pub ends_early : (t : Terms) (n : ℕ) (routes : List Route) (v0 v : View) → IsGoing t n v.hands routes → v.left ≡ v0.left → v.made ≡ v0.made → HasWorked t n v0 v true routes
ends_early t n routes v0 v g left made = record {
  left = left;
  made = made;
  work = g.work;
  hands = g.hands_are;
  is_work = record { complete = g.complete; stopped = g.going; routes_are = g.routes_are };
}

-- a claim's ticket is no less than the next one expected
pub next_below : (ticket : ℕ) (hands : List Hand) → AllFallBelow ticket hands → next_ticket hands ≤ ticket
next_below ticket [] h = omega arith
next_below ticket (x ∷ xs) h = log x.work.log h.0
  where
    log : (es : List Entry) → IsFalling ticket es → next_ticket (hand x.number (worker es x.work.stopped x.work.ticket x.work.found) ∷ xs) ≤ ticket
    log [] f = omega arith
    log (e ∷ es) f = let l = f.0 in omega arith

pub next_after : (t : Terms) (n count ticket : ℕ) (routes : List Route) (reads : List ℕ) (adds : List (ℕ × ℕ)) (v w x : View) → IsGoing t n v.hands routes → w ≡ with_work (claimed count ticket) v → ticket < count
    → HasFinished reads adds w x → next_ticket x.hands ≡ ticket + 1
next_after t n count ticket routes reads adds v w x g is l done =
    let mid : w.hands ≡ hand n (worker (entry ticket [] [] ∷ g.work.log) g.work.stopped ticket g.work.found) ∷ [] =
    hands_after (claimed count ticket) n v w g.work is g.hands_are ∙ ap (λ (u : Worker). hand n u ∷ []) (claims_one count ticket g.work l) in
    ap next_ticket (hands_after (finishes reads adds done.0) n w x (worker (entry ticket [] [] ∷ g.work.log) g.work.stopped ticket g.work.found) done.2 mid)

pub room_for : (count most nodes room : ℕ) → count ≤ most → most * nodes ≤ room → count * nodes ≤ room
room_for count most nodes room l h =
    let same : nodes ≤ nodes = omega arith in
    let m : count * nodes ≤ most * nodes = mul-le-mul l same in
    omega arith
