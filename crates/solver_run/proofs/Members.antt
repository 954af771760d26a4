-- After legal events each entry has added for the members of its group alone.
use Rattle.std.proofs.Common.{◌≡◌, ℕ, suc, zero, ◌<◌, Bool, true, false, nat_lt, List, [], ◌∷◌, ◌++◌, length, get_or, sym, subst, arith}
use Rattle.std.specs.Prelude.{if◌then◌else◌}
use Rattle.flow_core.specs.declared.state.Entry.{Entry}
use Rattle.flow_core.specs.declared.state.Worker.{Worker}
use Rattle.flow_core.specs.Core.{Terms, State, Event, claim, read, add, IsLegal, AreLegal, LastMayAdd, after_event, after_schedule, start, entry, worker, idle, worker_at, group_of, commodity_count, ticket_count, claimed, with_read, with_add, next_cell, has_read, has_added}
use Rattle.flow_core.specs.Laws.{MembersOnly}
use Rattle.flow_core.proofs.Sums.{each-set, get_or-replicate}

abbrev pub OwnMembers : Terms → List Entry → Type 0
OwnMembers t [] = Unit {0}
OwnMembers t (e ∷ es) = MembersOnly t e.ticket e.adds × OwnMembers t es

abbrev pub EachOwn : Terms → State → Type 0
EachOwn t s = (w : ℕ) → w < length s.workers → OwnMembers t (worker_at s w).log

own-claim : (t : Terms) (count ticket : ℕ) (u : Worker) → OwnMembers t u.log → OwnMembers t (claimed count ticket u).log
own-claim t count ticket u m = by_test (nat_lt ticket count)
  where
    by_test : (b : Bool) → OwnMembers t (if b then worker (entry ticket [] [] ∷ u.log) u.stopped ticket u.found else worker u.log true ticket u.found).log
    by_test true = (tt, m)
    by_test false = m

own-read : (t : Terms) (x : ℕ) (log : List Entry) → OwnMembers t log → OwnMembers t (with_read x log)
own-read t x [] m = tt
own-read t x (e ∷ es) m = m

own-snoc : (t : Terms) (g k c : ℕ) (adds : List (ℕ × ℕ)) → k < commodity_count t → group_of t k ≡ g → MembersOnly t g adds → MembersOnly t g (adds ++ (k, c) ∷ [])
own-snoc t g k c [] few is m = ((few, is), tt)
own-snoc t g k c (x ∷ xs) few is m = (m.0, own-snoc t g k c xs few is m.1)

own-add : (t : Terms) (k c : ℕ) (log : List Entry) → LastMayAdd t k c log → OwnMembers t log → OwnMembers t (with_add k c log)
own-add t k c [] l m = tt
own-add t k c (e ∷ es) l m = (own-snoc t e.ticket k c e.adds l.1 l.2 m.0, m.1)

own-step : (t : Terms) (s : State) (e : Event) → EachOwn t s → IsLegal t s e → EachOwn t (after_event t s e)
own-step t s (claim w) i legal = each-set (λ (v : Worker). OwnMembers t v.log) s.workers w (claimed (ticket_count t) s.claims (worker_at s w)) idle (own-claim t (ticket_count t) s.claims (worker_at s w) (i w legal.0)) i
own-step t s (read w) i legal =
    let x : ℕ = get_or s.loads (next_cell (worker_at s w).log) 0 in
    each-set (λ (v : Worker). OwnMembers t v.log) s.workers w (has_read x (worker_at s w)) idle (own-read t x (worker_at s w).log (i w legal.0)) i
own-step t s (add w k c) i legal = each-set (λ (v : Worker). OwnMembers t v.log) s.workers w (has_added k c (get_or s.loads c 0) (worker_at s w)) idle (own-add t k c (worker_at s w).log legal.2 (i w legal.0)) i

own-schedule : (t : Terms) (s : State) (es : List Event) → EachOwn t s → AreLegal t s es → EachOwn t (after_schedule t s es)
own-schedule t s [] i legal = i
own-schedule t s (e ∷ es) i legal = own-schedule t (after_event t s e) es (own-step t s e i legal.0) legal.1

pub each-own : (t : Terms) (es : List Event) → AreLegal t (start t) es → EachOwn t (after_schedule t (start t) es)
each-own t es legal = own-schedule t (start t) es (λ w _. subst (λ (v : Worker). OwnMembers t v.log) (sym (get_or-replicate t.workers w idle)) tt) legal

pub own-at : (t : Terms) (log : List Entry) (j : ℕ) (d : Entry) → OwnMembers t log → j < length log → MembersOnly t (get_or log j d).ticket (get_or log j d).adds
own-at t [] j d m l = absurd (omega arith)
own-at t (e ∷ es) zero d m l = m.0
own-at t (e ∷ es) (suc j) d m l = own-at t es j d m.1 (omega arith)
