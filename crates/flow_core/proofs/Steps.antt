-- What each event keeps.
use Rattle.std.proofs.Common.{◌≡◌, ◌≢◌, ◌⊎◌, ℕ, suc, ◌+◌, ◌*◌, ◌<◌, ◌≤◌, Bool, true, false, true≢false, ◌||◌, ◌&&◌, nat_eq, nat_lt, List, [], ◌∷◌, ◌++◌, length, get_or, set, min, refl, sym, ap, ◌∙◌, subst, inl, inr, arith, get_or-set_same, get_or-set_other, length-set, eq-eqb, ne_eqb}
use Rattle.std.specs.Prelude.{if◌then◌else◌}
use Rattle.std.proofs.lemmas.Bool.Decides.{nat_tests}
use mathlib.Core.Logic.{dite}
use native.Mathlib.Decide.{ℕ_discrete}
use mathlib.Core.Option.{some-ne-none}
use Rattle.flow_core.specs.declared.state.Entry.{Entry}
use Rattle.flow_core.specs.declared.state.Worker.{Worker}
use Rattle.flow_core.specs.Core.{Terms, State, Event, claim, read, add, cell_count, ticket_count, group_of, commodity_count, amounts, amount_of, total, IsStart, entry, worker, idle, start, worker_at, is_pair, has, LastIsComplete, LastIsReading, LastMayAdd, IsLegal, with_read, with_add, next_cell, has_read, has_added, after_event, AreLegal, after_schedule}
use Rattle.flow_core.specs.Laws.{one_if, entries_of, stops_of, stops_at, times, Counts, IsFalling, AllComplete, PastIsComplete, Tickets, added_in, added_by, added, pairs_in, pairs, MembersOnly, AllMembers, Loads, ReadsFit, Reads, below, weigh}
use Rattle.flow_core.proofs.Sums.{total-set, total-at, total-snoc, total-replicate, get_or-replicate, length-replicate, each-set, get-snoc, once-more, upto, upto-le, below-more, below-upto, lift-nil, lift-cons, below-once, point}

abbrev pub added_u : Terms → ℕ → Worker → ℕ
added_u t c u = added t c u.log

-- the number of tickets given out
abbrev given : Terms → State → ℕ
given t s = min s.claims (ticket_count t)

-- what holds between any two events
pub record Inv (t : Terms) (s : State) : Type 0 where
  pub workers : length s.workers ≡ t.workers
  pub claims : total entries_of s.workers + total stops_of s.workers ≡ s.claims
  pub entries : total entries_of s.workers ≡ min s.claims (ticket_count t)
  pub stop_once : (n : ℕ) → ticket_count t ≤ n → total (stops_at n) s.workers ≡ one_if (nat_lt n s.claims)
  pub once : (n : ℕ) → total (times n) s.workers ≡ one_if (nat_lt n (given t s))
  pub falling : (w : ℕ) → w < length s.workers → IsFalling (given t s) (worker_at s w).log
  pub past : (w : ℕ) → w < length s.workers → PastIsComplete t (worker_at s w).log
  pub cells : length s.loads ≡ cell_count t
  pub sums : (c : ℕ) → c < cell_count t → get_or s.loads c 0 ≡ get_or t.base c 0 + total (added_u t c) s.workers
  pub members : (w : ℕ) → w < length s.workers → AllMembers t (worker_at s w).log
  pub weighed : (g : ℕ → ℕ) → total (weigh g) s.workers ≡ below g (given t s)
  pub reads : Reads t s

-- facts on one log

pub falls-more : (m n : ℕ) (log : List Entry) → m ≤ n → IsFalling m log → IsFalling n log
falls-more m n [] h f = tt
falls-more m n (e ∷ es) h f = let a = f.0 in (omega arith, f.1)

completes : (t : Terms) (log : List Entry) → LastIsComplete t log → PastIsComplete t log → AllComplete t log
completes t [] l p = tt
completes t (e ∷ es) l p = (l, p)

-- reads fit also where the load grew by no less than what the worker added since
fits-more : (t : Terms) (loads loads' : List ℕ) (later later' : ℕ → ℕ) (log : List Entry)
    → ((c : ℕ) → later' c + get_or loads c 0 ≤ later c + get_or loads' c 0) → ReadsFit t loads later log → ReadsFit t loads' later' log
fits-more t loads loads' later later' [] more f = tt
fits-more t loads loads' later later' (e ∷ es) more f = (
  λ c x at. let g = f.0 c x at in let m = more c in (g.0, let g' = g.1 in omega arith),
  fits-more t loads loads' (λ c. added_by t c e + later c) (λ c. added_by t c e + later' c) es (λ c. let m = more c in omega arith) f.1,
)

-- a read

read-length : (x : ℕ) (log : List Entry) → length (with_read x log) ≡ length log
read-length x [] = refl
read-length x (e ∷ es) = refl

read-times : (x n : ℕ) (log : List Entry) → total (λ (e : Entry). one_if (nat_eq n e.ticket)) (with_read x log) ≡ total (λ (e : Entry). one_if (nat_eq n e.ticket)) log
read-times x n [] = refl
read-times x n (e ∷ es) = refl

read-weigh : (g : ℕ → ℕ) (x : ℕ) (log : List Entry) → total (λ (e : Entry). g e.ticket) (with_read x log) ≡ total (λ (e : Entry). g e.ticket) log
read-weigh g x [] = refl
read-weigh g x (e ∷ es) = refl

read-added : (t : Terms) (c x : ℕ) (log : List Entry) → added t c (with_read x log) ≡ added t c log
read-added t c x [] = refl
read-added t c x (e ∷ es) = refl

read-falls : (x n : ℕ) (log : List Entry) → IsFalling n log → IsFalling n (with_read x log)
read-falls x n [] f = tt
read-falls x n (e ∷ es) f = f

read-past : (t : Terms) (x : ℕ) (log : List Entry) → PastIsComplete t log → PastIsComplete t (with_read x log)
read-past t x [] f = tt
read-past t x (e ∷ es) f = f

read-members : (t : Terms) (x : ℕ) (log : List Entry) → AllMembers t log → AllMembers t (with_read x log)
read-members t x [] f = tt
read-members t x (e ∷ es) f = f

read-fits : (t : Terms) (loads : List ℕ) (log : List Entry) → LastIsReading t log → get_or t.base (next_cell log) 0 + added t (next_cell log) log ≤ get_or loads (next_cell log) 0
    → ReadsFit t loads (λ _. 0) log → ReadsFit t loads (λ _. 0) (with_read (get_or loads (next_cell log) 0) log)
read-fits t loads [] l h f = absurd l
read-fits t loads (e ∷ es) l h f =
    let none_yet : (c : ℕ) → added_by t c e ≡ 0 = λ c. ap (added_in t c) l.1 in (
      λ c x at. elim (get-snoc e.reads (get_or loads (length e.reads) 0) x c at) [
        | inl g ↦ f.0 c x g
        | inr g ↦ new c x (none_yet c) g
      ],
      f.1,
    )
  where
    new : (c x : ℕ) → added_by t c e ≡ 0 → ((c ≡ length e.reads) × (get_or loads (length e.reads) 0 ≡ x)) → (get_or t.base c 0 + added t c es ≤ x) × (x + (added_by t c e + 0) ≤ get_or loads c 0)
    new c x none g =
        let G : ℕ → Type 0 = λ k. (get_or t.base k 0 + added t k es ≤ x) × (x + (added_by t k e + 0) ≤ get_or loads k 0) in
        let none' : added_by t (length e.reads) e ≡ 0 = ap (added_in t (length e.reads)) l.1 in
        let is = g.1 in
        subst G (sym g.0) (omega arith, omega arith)

-- an add

when : Bool → ℕ → ℕ
when b a = if b then a else 0

add-length : (k c : ℕ) (log : List Entry) → length (with_add k c log) ≡ length log
add-length k c [] = refl
add-length k c (e ∷ es) = refl

add-times : (k c n : ℕ) (log : List Entry) → total (λ (e : Entry). one_if (nat_eq n e.ticket)) (with_add k c log) ≡ total (λ (e : Entry). one_if (nat_eq n e.ticket)) log
add-times k c n [] = refl
add-times k c n (e ∷ es) = refl

add-weigh : (g : ℕ → ℕ) (k c : ℕ) (log : List Entry) → total (λ (e : Entry). g e.ticket) (with_add k c log) ≡ total (λ (e : Entry). g e.ticket) log
add-weigh g k c [] = refl
add-weigh g k c (e ∷ es) = refl

add-falls : (k c n : ℕ) (log : List Entry) → IsFalling n log → IsFalling n (with_add k c log)
add-falls k c n [] f = tt
add-falls k c n (e ∷ es) f = f

add-past : (t : Terms) (k c : ℕ) (log : List Entry) → PastIsComplete t log → PastIsComplete t (with_add k c log)
add-past t k c [] f = tt
add-past t k c (e ∷ es) f = f

members-snoc : (t : Terms) (g k c : ℕ) (adds : List (ℕ × ℕ)) → k < commodity_count t → group_of t k ≡ g → MembersOnly t g adds → MembersOnly t g (adds ++ (k, c) ∷ [])
members-snoc t g k c [] few is m = ((few, is), tt)
members-snoc t g k c (x ∷ xs) few is m = (m.0, members-snoc t g k c xs few is m.1)

no-pairs : (k c : ℕ) (adds : List (ℕ × ℕ)) → has k c adds ≡ false → pairs_in k c adds ≡ 0
no-pairs k c [] h = refl
no-pairs k c (x ∷ xs) h =
    let a : one_if (is_pair k c x) ≡ 0 = ap one_if (left (is_pair k c x) (has k c xs) h) in
    let b = no-pairs k c xs (right (is_pair k c x) (has k c xs) h) in
    omega arith
  where
    left : (a b : Bool) → (a || b) ≡ false → a ≡ false
    left true b h = h
    left false b h = refl

    right : (a b : Bool) → (a || b) ≡ false → b ≡ false
    right true b h = absurd (true≢false h)
    right false b h = h

one-le : (b : Bool) → one_if b ≤ 1
one-le true = omega arith
one-le false = omega arith

-- a pair is k and c, or it does not count
same_pair : (j d k c : ℕ) → (b : Bool) → is_pair j d (k, c) ≡ b → ((j ≡ k) × (d ≡ c)) ⊎ (one_if (is_pair j d (k, c)) ≡ 0)
same_pair j d k c true e = inl (both (nat_eq j k) (nat_eq d c) refl refl e)
  where
    both : (a b : Bool) → nat_eq j k ≡ a → nat_eq d c ≡ b → (a && b) ≡ true → (j ≡ k) × (d ≡ c)
    both true true p q e = (grind (arith, nat_tests), grind (arith, nat_tests))
    both true false p q e = absurd (true≢false (sym e))
    both false b p q e = absurd (true≢false (sym e))
same_pair j d k c false e = inr (ap one_if e)

once-snoc : (k c : ℕ) (adds : List (ℕ × ℕ)) → has k c adds ≡ false → ((j d : ℕ) → pairs_in j d adds ≤ 1) → (j d : ℕ) → pairs_in j d (adds ++ (k, c) ∷ []) ≤ 1
once-snoc k c adds new once j d =
    let snoc = total-snoc (λ (x : ℕ × ℕ). one_if (is_pair j d x)) adds (k, c) in
    let most = one-le (is_pair j d (k, c)) in
    let old = once j d in
    elim (same_pair j d k c (is_pair j d (k, c)) refl) [
      | inl e ↦ (let gone : pairs_in j d adds ≡ 0 = (let P : ℕ × ℕ → Type 0 = λ x. pairs_in x.0 x.1 adds ≡ 0 in subst P (λ i. (sym e.0 i, sym e.1 i)) (no-pairs k c adds new)) in omega arith)
      | inr z ↦ omega arith
    ]

add-members : (t : Terms) (k c : ℕ) (log : List Entry) → LastMayAdd t k c log → AllMembers t log → AllMembers t (with_add k c log)
add-members t k c [] l d = tt
add-members t k c (e ∷ es) l d = ((members-snoc t e.ticket k c e.adds l.1 l.2 d.0.0, once-snoc k c e.adds l.4 d.0.1), d.1)

-- what an add of c for k adds to the cell j
abbrev gain : Terms → ℕ → ℕ → ℕ → ℕ
gain t k c j = if nat_eq j c then amount_of t k else 0

gain-by : (t : Terms) (k c j : ℕ) (e : Entry) → added_by t j (entry e.ticket e.reads (e.adds ++ (k, c) ∷ [])) ≡ added_by t j e + gain t k c j
gain-by t k c j e = total-snoc (λ (x : ℕ × ℕ). if nat_eq j x.1 then amount_of t x.0 else 0) e.adds (k, c)

add-added : (t : Terms) (k c j : ℕ) (log : List Entry) → LastMayAdd t k c log → added t j (with_add k c log) ≡ added t j log + gain t k c j
add-added t k c j [] l = absurd l
add-added t k c j (e ∷ es) l = let g = gain-by t k c j e in omega arith

add-fits : (t : Terms) (loads loads' : List ℕ) (k c : ℕ) (log : List Entry) → LastMayAdd t k c log → ((j : ℕ) → get_or loads' j 0 ≡ get_or loads j 0 + gain t k c j)
    → ReadsFit t loads (λ _. 0) log → ReadsFit t loads' (λ _. 0) (with_add k c log)
add-fits t loads loads' k c [] l grows f = tt
add-fits t loads loads' k c (e ∷ es) l grows f = (
  λ j x at. let g = f.0 j x at in let m = gain-by t k c j e in let n = grows j in (g.0, let g' = g.1 in omega arith),
  fits-more t loads loads' (λ j. added_by t j e + 0) (λ j. added_by t j (entry e.ticket e.reads (e.adds ++ (k, c) ∷ [])) + 0) es (λ j. let m = gain-by t k c j e in let n = grows j in omega arith) f.1,
)

-- each cell was added for a commodity once at most, so the amounts stay within those of all commodities

pub not-mine : (t : Terms) (g k c : ℕ) (adds : List (ℕ × ℕ)) → MembersOnly t g adds → group_of t k ≢ g → pairs_in k c adds ≡ 0
not-mine t g k c [] m other = refl
not-mine t g k c (x ∷ xs) m other =
    let r = not-mine t g k c xs m.1 other in
    elim (same_pair k c x.0 x.1 (is_pair k c x) refl) [ inl e ↦ absurd (other (ap (group_of t) e.0 ∙ m.0.1)) | inr z ↦ omega arith ]

pub pairs-times : (t : Terms) (k c : ℕ) (log : List Entry) → AllMembers t log → pairs k c log ≤ total (λ (e : Entry). one_if (nat_eq (group_of t k) e.ticket)) log
pairs-times t k c [] m = omega arith
pairs-times t k c (e ∷ es) m =
    let r = pairs-times t k c es m.1 in
    let once = m.0.1 k c in
    dite (ℕ_discrete (group_of t k) e.ticket)
    (λ mine. let one : one_if (nat_eq (group_of t k) e.ticket) ≡ 1 = ap one_if (eq-eqb (group_of t k) e.ticket mine) in omega arith)
    (λ other. let none_there = not-mine t e.ticket k c e.adds m.0.0 other in omega arith)

all-pairs-times : (t : Terms) (k c : ℕ) (ws : List Worker) → ((w : ℕ) → w < length ws → AllMembers t (get_or ws w idle).log) → total (λ (u : Worker). pairs k c u.log) ws ≤ total (times (group_of t k)) ws
all-pairs-times t k c [] m = omega arith
all-pairs-times t k c (u ∷ us) m = let a = pairs-times t k c u.log (m 0 (omega arith)) in let b = all-pairs-times t k c us (λ w h. m (suc w) (omega arith)) in omega arith

one-add : (t : Terms) (c k d : ℕ) → k < commodity_count t → (if nat_eq c d then amount_of t k else 0) ≡ below (λ j. amount_of t j * one_if (is_pair j c (k, d))) (commodity_count t)
one-add t c k d few = by_test (nat_eq c d)
  where
    off : (b : Bool) → (b && false) ≡ false
    off true = refl
    off false = refl

    on : (b : Bool) → (b && true) ≡ b
    on true = refl
    on false = refl

    by_test : (b : Bool) → (if b then amount_of t k else 0) ≡ below (λ j. amount_of t j * one_if (nat_eq j k && b)) (commodity_count t)
    by_test true = sym (point (amount_of t) k (commodity_count t) few) ∙ ap (λ (f : ℕ → ℕ). below (λ j. amount_of t j * f j) (commodity_count t)) (λ i j. one_if (sym (on (nat_eq j k)) i))
    by_test false = lift-nil (amount_of t) (commodity_count t) ∙ ap (λ (f : ℕ → ℕ). below (λ j. amount_of t j * f j) (commodity_count t)) (λ i j. one_if (sym (off (nat_eq j k)) i))

added-adds : (t : Terms) (g c : ℕ) (adds : List (ℕ × ℕ)) → MembersOnly t g adds → added_in t c adds ≡ below (λ k. amount_of t k * pairs_in k c adds) (commodity_count t)
added-adds t g c [] m = lift-nil (amount_of t) (commodity_count t)
added-adds t g c (x ∷ xs) m = lift-cons (amount_of t) (λ k. one_if (is_pair k c x)) (λ k. pairs_in k c xs) (commodity_count t) _ _ (one-add t c x.0 x.1 m.0.0) (added-adds t g c xs m.1)

added-log : (t : Terms) (c : ℕ) (log : List Entry) → AllMembers t log → added t c log ≡ below (λ k. amount_of t k * pairs k c log) (commodity_count t)
added-log t c [] m = lift-nil (amount_of t) (commodity_count t)
added-log t c (e ∷ es) m = lift-cons (amount_of t) (λ k. pairs_in k c e.adds) (λ k. pairs k c es) (commodity_count t) _ _ (added-adds t e.ticket c e.adds m.0.0) (added-log t c es m.1)

pub added-all : (t : Terms) (c : ℕ) (ws : List Worker) → ((w : ℕ) → w < length ws → AllMembers t (get_or ws w idle).log) → total (added_u t c) ws ≡ below (λ k. amount_of t k * total (λ (u : Worker). pairs k c u.log) ws) (commodity_count t)
added-all t c [] m = lift-nil (amount_of t) (commodity_count t)
added-all t c (u ∷ us) m = lift-cons (amount_of t) (λ k. pairs k c u.log) (λ k. total (λ (v : Worker). pairs k c v.log) us) (commodity_count t) _ _ (added-log t c u.log (m 0 (omega arith))) (added-all t c us (λ w h. m (suc w) (omega arith)))

grown : (loads : List ℕ) (c a k : ℕ) → c < length loads → get_or (set loads c (get_or loads c 0 + a)) k 0 ≡ get_or loads k 0 + (if nat_eq k c then a else 0)
grown loads c a k inside = dite (ℕ_discrete k c)
    (λ same. subst (λ (j : ℕ). get_or (set loads c (get_or loads c 0 + a)) j 0 ≡ get_or loads j 0 + (if nat_eq j c then a else 0)) (sym same)
    (get_or-set_same loads c (get_or loads c 0 + a) 0 inside ∙ ap (λ (b : Bool). get_or loads c 0 + (if b then a else 0)) (sym (eq-eqb c c refl))))
    (λ apart. get_or-set_other loads c k (get_or loads c 0 + a) 0 apart ∙ (zero-after (get_or loads k 0) ∙ ap (λ (b : Bool). get_or loads k 0 + (if b then a else 0)) (sym (ne_eqb k c apart))))
  where
    zero-after : (n : ℕ) → n ≡ n + 0
    zero-after n = omega arith

-- the events

reads_kept : (t : Terms) (s : State) (w : ℕ) → Inv t s → IsLegal t s (read w) → Inv t (after_event t s (read w))
reads_kept t s w i legal =
    let u = worker_at s w in
    let x : ℕ = get_or s.loads (next_cell u.log) 0 in
    let u' : Worker = has_read x u in
    let inside = legal.0 in
    record {
      workers = length-set s.workers w _ ∙ i.workers;
      claims = (let e = total-set entries_of s.workers w u' idle inside in let e' = read-length x u.log in let f = total-set stops_of s.workers w u' idle inside in let old = i.claims in omega arith);
      entries = (let e = total-set entries_of s.workers w u' idle inside in let e' = read-length x u.log in let old = i.entries in omega arith);
      stop_once = λ n past. (let e = total-set (stops_at n) s.workers w u' idle inside in let old = i.stop_once n past in omega arith);
      once = λ n. (let e = total-set (times n) s.workers w u' idle inside in let e' = read-times x n u.log in let old = i.once n in omega arith);
      falling = each-set (λ (v : Worker). IsFalling (given t s) v.log) s.workers w u' idle (read-falls x (given t s) u.log (i.falling w inside)) i.falling;
      past = each-set (λ (v : Worker). PastIsComplete t v.log) s.workers w u' idle (read-past t x u.log (i.past w inside)) i.past;
      cells = i.cells;
      sums = λ c few. (let e = total-set (added_u t c) s.workers w u' idle inside in let e' = read-added t c x u.log in let old = i.sums c few in omega arith);
      members = each-set (λ (v : Worker). AllMembers t v.log) s.workers w u' idle (read-members t x u.log (i.members w inside)) i.members;
      weighed = λ g. (let e = total-set (weigh g) s.workers w u' idle inside in let e' = read-weigh g x u.log in let old = i.weighed g in omega arith);
      reads = each-set (λ (v : Worker). ReadsFit t s.loads (λ _. 0) v.log) s.workers w u' idle
          (read-fits t s.loads u.log legal.1
          (let few : next_cell u.log < cell_count t = next_inside t u.log legal.1 in
          let sum = i.sums (next_cell u.log) few in let part = total-at (added_u t (next_cell u.log)) s.workers w idle inside in omega arith)
          (i.reads w inside)) i.reads;
    }
  where
    next_inside : (t : Terms) (log : List Entry) → LastIsReading t log → next_cell log < cell_count t
    next_inside t [] l = absurd l
    next_inside t (e ∷ es) l = l.0

adds_kept : (t : Terms) (s : State) (w k c : ℕ) → Inv t s → IsLegal t s (add w k c) → Inv t (after_event t s (add w k c))
adds_kept t s w k c i legal =
    let u = worker_at s w in
    let u' : Worker = has_added k c (get_or s.loads c 0) u in
    let loads' : List ℕ = set s.loads c (get_or s.loads c 0 + amount_of t k) in
    let inside = legal.0 in
    let there : c < length s.loads = (let a = legal.1 in let b = i.cells in omega arith) in
    let grows : (j : ℕ) → get_or loads' j 0 ≡ get_or s.loads j 0 + gain t k c j = λ j. grown s.loads c (amount_of t k) j there in
    record {
      workers = length-set s.workers w _ ∙ i.workers;
      claims = (let e = total-set entries_of s.workers w u' idle inside in let e' = add-length k c u.log in let f = total-set stops_of s.workers w u' idle inside in let old = i.claims in omega arith);
      entries = (let e = total-set entries_of s.workers w u' idle inside in let e' = add-length k c u.log in let old = i.entries in omega arith);
      stop_once = λ n past. (let e = total-set (stops_at n) s.workers w u' idle inside in let old = i.stop_once n past in omega arith);
      once = λ n. (let e = total-set (times n) s.workers w u' idle inside in let e' = add-times k c n u.log in let old = i.once n in omega arith);
      falling = each-set (λ (v : Worker). IsFalling (given t s) v.log) s.workers w u' idle (add-falls k c (given t s) u.log (i.falling w inside)) i.falling;
      past = each-set (λ (v : Worker). PastIsComplete t v.log) s.workers w u' idle (add-past t k c u.log (i.past w inside)) i.past;
      cells = length-set s.loads c _ ∙ i.cells;
      sums = λ j few. (let e = total-set (added_u t j) s.workers w u' idle inside in let e' = add-added t k c j u.log legal.2 in let g = grows j in let old = i.sums j few in omega arith);
      members = each-set (λ (v : Worker). AllMembers t v.log) s.workers w u' idle (add-members t k c u.log legal.2 (i.members w inside)) i.members;
      weighed = λ g. (let e = total-set (weigh g) s.workers w u' idle inside in let e' = add-weigh g k c u.log in let old = i.weighed g in omega arith);
      reads = each-set (λ (v : Worker). ReadsFit t loads' (λ _. 0) v.log) s.workers w u' idle
          (add-fits t s.loads loads' k c u.log legal.2 grows (i.reads w inside))
          (λ j here. fits-more t s.loads loads' (λ _. 0) (λ _. 0) (worker_at s j).log (λ m. let g = grows m in omega arith) (i.reads j here));
    }

-- a claim that gives a ticket, and one past the end

none-below : (n m : ℕ) → m ≤ n → one_if (nat_lt n m) ≡ 0
none-below n m l = grind (arith, nat_tests)

new_times : (n k : ℕ) (u : Worker) → total (λ (e : Entry). one_if (nat_eq n e.ticket)) (entry k [] [] ∷ u.log) ≡ one_if (nat_eq n k) + times n u
new_times n k u = refl

gives_ticket : (t : Terms) (s : State) (w : ℕ) → Inv t s → IsLegal t s (claim w) → s.claims < ticket_count t
    → Inv t record { claims = s.claims + 1; loads = s.loads; workers = set s.workers w (worker (entry s.claims [] [] ∷ (worker_at s w).log) (worker_at s w).stopped s.claims (worker_at s w).found) }
gives_ticket t s w i legal more =
    let u = worker_at s w in
    let u' : Worker = worker (entry s.claims [] [] ∷ u.log) u.stopped s.claims u.found in
    let inside = legal.0 in
    let now : min s.claims (ticket_count t) ≡ s.claims = omega arith in
    let next : min (s.claims + 1) (ticket_count t) ≡ s.claims + 1 = omega arith in
    record {
      workers = length-set s.workers w _ ∙ i.workers;
      claims = (let e = total-set entries_of s.workers w u' idle inside in let f = total-set stops_of s.workers w u' idle inside in let old = i.claims in omega arith);
      entries = (let e = total-set entries_of s.workers w u' idle inside in let old = i.entries in omega arith);
      stop_once = λ n past. (let e = total-set (stops_at n) s.workers w u' idle inside in let old = i.stop_once n past in
          let before : stops_at n u ≡ 0 = ap (λ (b : Bool). one_if (b && nat_eq n u.ticket)) legal.1 in
          let after : stops_at n u' ≡ 0 = ap (λ (b : Bool). one_if (b && nat_eq n s.claims)) legal.1 in
          let none_now = none-below n s.claims (omega arith) in
          let none_next = none-below n (s.claims + 1) (omega arith) in
          omega arith);
      once = λ n. (let e = total-set (times n) s.workers w u' idle inside in
          let old : total (times n) s.workers ≡ one_if (nat_lt n s.claims) = i.once n ∙ ap (λ (m : ℕ). one_if (nat_lt n m)) now in
          let more_once = once-more n s.claims in
          let goal : total (times n) (set s.workers w u') ≡ one_if (nat_lt n (s.claims + 1)) = omega arith in
          goal ∙ ap (λ (m : ℕ). one_if (nat_lt n m)) (sym next));
      falling = each-set (λ (v : Worker). IsFalling (min (s.claims + 1) (ticket_count t)) v.log) s.workers w u' idle
          (omega arith, falls-more (given t s) s.claims u.log (omega arith) (i.falling w inside))
          (λ j here. falls-more (given t s) (min (s.claims + 1) (ticket_count t)) (worker_at s j).log (omega arith) (i.falling j here));
      past = each-set (λ (v : Worker). PastIsComplete t v.log) s.workers w u' idle (completes t u.log legal.2 (i.past w inside)) i.past;
      cells = i.cells;
      sums = λ c few. (let e = total-set (added_u t c) s.workers w u' idle inside in let old = i.sums c few in omega arith);
      members = each-set (λ (v : Worker). AllMembers t v.log) s.workers w u' idle ((tt, λ k c. omega arith), i.members w inside) i.members;
      weighed = λ g. (let e = total-set (weigh g) s.workers w u' idle inside in
          let old : total (weigh g) s.workers ≡ below g s.claims = i.weighed g ∙ ap (below g) now in
          let m = below-more g s.claims in
          let goal : total (weigh g) (set s.workers w u') ≡ below g (s.claims + 1) = omega arith in
          goal ∙ ap (below g) (sym next));
      reads = each-set (λ (v : Worker). ReadsFit t s.loads (λ _. 0) v.log) s.workers w u' idle ((λ c x at. absurd (some-ne-none x (sym at))), i.reads w inside) i.reads;
    }

gives_none : (t : Terms) (s : State) (w : ℕ) → Inv t s → IsLegal t s (claim w) → ticket_count t ≤ s.claims
    → Inv t record { claims = s.claims + 1; loads = s.loads; workers = set s.workers w (worker (worker_at s w).log true s.claims (worker_at s w).found) }
gives_none t s w i legal past_end =
    let u = worker_at s w in
    let u' : Worker = worker u.log true s.claims u.found in
    let inside = legal.0 in
    let same : min s.claims (ticket_count t) ≡ min (s.claims + 1) (ticket_count t) = omega arith in
    let went_on : stops_of u ≡ 0 = ap one_if legal.1 in
    record {
      workers = length-set s.workers w _ ∙ i.workers;
      claims = (let e = total-set entries_of s.workers w u' idle inside in let f = total-set stops_of s.workers w u' idle inside in let old = i.claims in omega arith);
      entries = (let e = total-set entries_of s.workers w u' idle inside in let old = i.entries in omega arith);
      stop_once = λ n past. (let e = total-set (stops_at n) s.workers w u' idle inside in let old = i.stop_once n past in
          let before : stops_at n u ≡ 0 = ap (λ (b : Bool). one_if (b && nat_eq n u.ticket)) legal.1 in
          let more_once = once-more n s.claims in
          omega arith);
      once = λ n. (let e = total-set (times n) s.workers w u' idle inside in
          let old = i.once n in
          let goal : total (times n) (set s.workers w u') ≡ one_if (nat_lt n (given t s)) = omega arith in
          goal ∙ ap (λ (m : ℕ). one_if (nat_lt n m)) same);
      falling = each-set (λ (v : Worker). IsFalling (min (s.claims + 1) (ticket_count t)) v.log) s.workers w u' idle
          (falls-more (given t s) (min (s.claims + 1) (ticket_count t)) u.log (omega arith) (i.falling w inside))
          (λ j here. falls-more (given t s) (min (s.claims + 1) (ticket_count t)) (worker_at s j).log (omega arith) (i.falling j here));
      past = each-set (λ (v : Worker). PastIsComplete t v.log) s.workers w u' idle (i.past w inside) i.past;
      cells = i.cells;
      sums = λ c few. (let e = total-set (added_u t c) s.workers w u' idle inside in let old = i.sums c few in omega arith);
      members = each-set (λ (v : Worker). AllMembers t v.log) s.workers w u' idle (i.members w inside) i.members;
      weighed = λ g. (let e = total-set (weigh g) s.workers w u' idle inside in
          let old = i.weighed g in
          let goal : total (weigh g) (set s.workers w u') ≡ below g (given t s) = omega arith in
          goal ∙ ap (below g) same);
      reads = each-set (λ (v : Worker). ReadsFit t s.loads (λ _. 0) v.log) s.workers w u' idle (i.reads w inside) i.reads;
    }

claims_kept : (t : Terms) (s : State) (w : ℕ) → Inv t s → IsLegal t s (claim w) → Inv t (after_event t s (claim w))
claims_kept t s w i legal = by_test (nat_lt s.claims (ticket_count t)) refl
  where
    by_test : (b : Bool) → nat_lt s.claims (ticket_count t) ≡ b
        → Inv t record { claims = s.claims + 1; loads = s.loads; workers = set s.workers w (if b then worker (entry s.claims [] [] ∷ (worker_at s w).log) (worker_at s w).stopped s.claims (worker_at s w).found else worker (worker_at s w).log true s.claims (worker_at s w).found) }
    by_test true e = gives_ticket t s w i legal (grind (arith, nat_tests))
    by_test false e = gives_none t s w i legal (grind (arith, nat_tests))

step_kept : (t : Terms) (s : State) (e : Event) → Inv t s → IsLegal t s e → Inv t (after_event t s e)
step_kept t s (claim w) i legal = claims_kept t s w i legal
step_kept t s (read w) i legal = reads_kept t s w i legal
step_kept t s (add w k c) i legal = adds_kept t s w k c i legal

pub Inv-schedule : (t : Terms) (s : State) (es : List Event) → Inv t s → AreLegal t s es → Inv t (after_schedule t s es)
Inv-schedule t s [] i legal = i
Inv-schedule t s (e ∷ es) i legal = Inv-schedule t (after_event t s e) es (step_kept t s e i legal.0) legal.1

pub Inv-start : (t : Terms) → IsStart t → Inv t (start t)
Inv-start t h = record {
  workers = length-replicate t.workers idle;
  claims = (let a = total-replicate entries_of t.workers idle refl in let b = total-replicate stops_of t.workers idle refl in omega arith);
  entries = (let a = total-replicate entries_of t.workers idle refl in omega arith);
  stop_once = λ n _. (let a = total-replicate (stops_at n) t.workers idle refl in a ∙ none n 0 refl);
  once = λ n. (let a = total-replicate (times n) t.workers idle refl in a ∙ none n (min 0 (ticket_count t)) (omega arith));
  falling = λ w _. subst (λ (v : Worker). IsFalling (given t (start t)) v.log) (sym (get_or-replicate t.workers w idle)) tt;
  past = λ w _. subst (λ (v : Worker). PastIsComplete t v.log) (sym (get_or-replicate t.workers w idle)) tt;
  cells = h.base;
  sums = λ c _. (let a = total-replicate (added_u t c) t.workers idle refl in omega arith);
  members = λ w _. subst (λ (v : Worker). AllMembers t v.log) (sym (get_or-replicate t.workers w idle)) tt;
  weighed = λ g. total-replicate (weigh g) t.workers idle refl ∙ ap (below g) (let z : 0 ≡ min 0 (ticket_count t) = omega arith in z);
  reads = λ w _. subst (λ (v : Worker). ReadsFit t t.base (λ _. 0) v.log) (sym (get_or-replicate t.workers w idle)) tt;
}
  where
    none : (n m : ℕ) → m ≡ 0 → 0 ≡ one_if (nat_lt n m)
    none n m z = grind (arith, nat_tests)

-- the laws

pub counts_of : (t : Terms) (s : State) → Inv t s → Counts t s
counts_of t s i =
    let most = stops-le s.workers in
    let all = i.workers in
    let sum = i.claims in
    let some_of = i.entries in
    record { workers = i.workers; claims = i.claims; entries = i.entries; few = omega arith; stop_past_end = λ stop. omega arith; stop_once = i.stop_once }
  where
    stop-le : (u : Worker) → stops_of u ≤ 1
    stop-le u = elim u.stopped as (λ b. one_if b ≤ 1) [ true ↦ omega arith | false ↦ omega arith ]

    stops-le : (l : List Worker) → total stops_of l ≤ length l
    stops-le [] = omega arith
    stops-le (u ∷ us) = let a = stop-le u in let b = stops-le us in omega arith

pub tickets_of : (t : Terms) (s : State) → Inv t s → Tickets t s
tickets_of t s i = record { weighed = i.weighed; once = i.once; falling = i.falling; past = i.past }

pub loads_of : (t : Terms) (s : State) → IsStart t → Inv t s → Loads t s
loads_of t s h i = record {
  cells = i.cells;
  sums = i.sums;
  members = i.members;
  within = λ c few. (
      let sum = i.sums c few in
      let all = added-all t c s.workers i.members in
      let once : (k : ℕ) → total (λ (u : Worker). pairs k c u.log) s.workers ≤ 1 = λ k. (let a = all-pairs-times t k c s.workers i.members in let b = i.once (group_of t k) in let d = one-le (nat_lt (group_of t k) (given t s)) in omega arith) in
      let most = below-once (amount_of t) (λ k. total (λ (u : Worker). pairs k c u.log) s.workers) once (commodity_count t) in
      let upto_all : below (amount_of t) (commodity_count t) ≡ upto (commodity_count t) (amounts t) = below-upto (amounts t) (commodity_count t) in
      let some_of = upto-le (commodity_count t) (amounts t) in
      let room = h.room c in
      omega arith);
}

pub laws : (t : Terms) (es : List Event) → IsStart t → AreLegal t (start t) es → Inv t (after_schedule t (start t) es)
laws t es h legal = Inv-schedule t (start t) es (Inv-start t h) legal
