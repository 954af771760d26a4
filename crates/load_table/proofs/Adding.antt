-- How the one worker of a view adds along a path.
use Rattle.std.proofs.Common.{◌≡◌, ◌≢◌, ◌⊎◌, inl, inr, ℕ, zero, suc, ◌+◌, ◌%◌, ◌<◌, ◌≤◌, Bool, true, false, ◌||◌, ◌&&◌, nat_eq, List, [], ◌∷◌, ◌++◌, take, length, get_or, set, refl, sym, ap, ◌∙◌, subst, arith, append_assoc, append-nil, ne_eqb, length-append, length-set, get_or-set_same, get_or-set_other}
use mathlib.Core.Logic.{dite}
use native.Mathlib.Decide.{ℕ_discrete}
use Rattle.std.specs.Prelude.{All}
use Rattle.std.proofs.lemmas.List.{take_more, map_push, get_or-take, get_or_default, length-take}
use Rattle.flow_model.specs.Least.{AreDifferent}
use Rattle.flow_core.specs.declared.state.Entry.{Entry}
use Rattle.flow_core.specs.declared.state.Worker.{Worker}
use Rattle.flow_core.specs.Core.{Terms, entry, worker, has, is_pair, cell_count, NotBelowLast, LastMayAdd, with_add, has_added}
use Rattle.load_table.specs.declared.view.View.{View}
use Rattle.load_table.specs.declared.view.Hand.{Hand}
use Rattle.load_table.specs.Views.{hand, view_of, first_works, with_work}
use Rattle.load_table.specs.Rule.{MayAdd}
use Rattle.load_table.specs.Reading.{LastWhere, OneWhere}
use Rattle.load_table.specs.Adding.{IsReadyFor, more_adds, adds_all, HasAddedAll, adds_along, AreMoreAlong}
use Rattle.load_table.proofs.Works.{with-with}
use Rattle.load_table.proofs.Totals.{same_lists}

adds-more : (k c x : ℕ) (ps : List (ℕ × ℕ)) (xs : List ℕ) (u : Worker) → has_added k c x (adds_all ps xs u) ≡ adds_all (ps ++ (k, c) ∷ []) (xs ++ x ∷ []) u
adds-more k c x ps xs u = λ i. worker (log u.log i) u.stopped u.ticket (append_assoc u.found xs (x ∷ []) i)
  where
    log : (l : List Entry) → with_add k c (more_adds ps l) ≡ more_adds (ps ++ (k, c) ∷ []) l
    log [] = refl
    log (e ∷ es) = ap (λ (qs : List (ℕ × ℕ)). entry e.ticket e.reads qs ∷ es) (append_assoc e.adds ps ((k, c) ∷ []))

adds-nothing : (u : Worker) → u ≡ adds_all [] [] u
adds-nothing u = λ i. worker (log u.log i) u.stopped u.ticket (sym (append-nil u.found) i)
  where
    log : (l : List Entry) → l ≡ more_adds [] l
    log [] = refl
    log (e ∷ es) = ap (λ (xs : List (ℕ × ℕ)). entry e.ticket e.reads xs ∷ es) (sym (append-nil e.adds))

pub adds_none : (v : View) → HasAddedAll [] v v
adds_none v = ([], refl, ap (view_of v.terms v.left v.made) (hands v.hands))
  where
    hands : (hs : List Hand) → hs ≡ first_works (adds_all [] []) hs
    hands [] = refl
    hands (x ∷ xs) = ap (λ (u : Worker). hand x.number u ∷ xs) (adds-nothing x.work)

pub adds_one : (k c x : ℕ) (ps : List (ℕ × ℕ)) (v w y : View) → HasAddedAll ps v w → y ≡ with_work (has_added k c x) w → HasAddedAll (ps ++ (k, c) ∷ []) v y
adds_one k c x ps v w y h now =
    let xs = h.0 in
    (xs ++ x ∷ [], length-append xs (x ∷ []) ∙ (ap (λ (n : ℕ). n + 1) h.1 ∙ sym (length-append ps ((k, c) ∷ []))), now ∙ (ap (with_work (has_added k c x)) h.2 ∙ with-with (has_added k c x) (adds_all ps xs) (adds_all (ps ++ (k, c) ∷ []) (xs ++ x ∷ [])) (adds-more k c x ps xs) v))

-- whether an add may come

has-append : (k c : ℕ) (xs ys : List (ℕ × ℕ)) → has k c xs ≡ false → has k c ys ≡ false → has k c (xs ++ ys) ≡ false
has-append k c [] ys a b = b
has-append k c (x ∷ xs) ys a b = both (is_pair k c x) (has k c xs) a (λ r. has-append k c xs ys r b)
  where
    both : (p q : Bool) → (p || q) ≡ false → (q ≡ false → has k c (xs ++ ys) ≡ false) → (p || has k c (xs ++ ys)) ≡ false
    both true q h f = h
    both false q h f = f h

pub head-all : {A : Type 0} (P : A → Type 0) (x : A) (xs : List A) → All P (x ∷ xs) → P x
head-all P x xs h = h 0 x (omega arith)

pub tail-all : {A : Type 0} (P : A → Type 0) (x : A) (xs : List A) → All P (x ∷ xs) → All P xs
tail-all P x xs h = λ j d l. h (suc j) d (omega arith)

no-pair : (k c : ℕ) (x : ℕ × ℕ) → k ≢ x.0 → is_pair k c x ≡ false
no-pair k c x n = ap (λ (b : Bool). b && nat_eq c x.1) (ne_eqb k x.0 n)

has-below : (k c : ℕ) (xs : List (ℕ × ℕ)) → All (λ (x : ℕ × ℕ). x.0 < k) xs → has k c xs ≡ false
has-below k c [] h = refl
has-below k c (x ∷ xs) h =
    let less : x.0 < k = head-all (λ (x : ℕ × ℕ). x.0 < k) x xs h in
    ap (λ (b : Bool). b || has k c xs) (no-pair k c x (λ e. omega arith)) ∙ has-below k c xs (tail-all (λ (x : ℕ × ℕ). x.0 < k) x xs h)

has-along : (k c : ℕ) (path : List ℕ) → ((j : ℕ) → j < length path → get_or path j 0 ≢ c) → has k c (adds_along k path) ≡ false
has-along k c [] h = refl
has-along k c (x ∷ xs) h =
    let off : nat_eq c x ≡ false = ne_eqb c x (λ e. h 0 (omega arith) (sym e)) in
    ap (λ (b : Bool). (nat_eq k k && b) || has k c (adds_along k xs)) off ∙ (ap (λ (b : Bool). b || has k c (adds_along k xs)) (and-false (nat_eq k k)) ∙ has-along k c xs (λ j l. h (suc j) (omega arith)))
  where
    and-false : (b : Bool) → (b && false) ≡ false
    and-false true = refl
    and-false false = refl

not-below : (k : ℕ) (xs : List (ℕ × ℕ)) → All (λ (x : ℕ × ℕ). x.0 ≤ k) xs → NotBelowLast k xs
not-below k [] h = tt
not-below k (x ∷ []) h = head-all (λ (x : ℕ × ℕ). x.0 ≤ k) x [] h
not-below k (x ∷ y ∷ xs) h = not-below k (y ∷ xs) (tail-all (λ (x : ℕ × ℕ). x.0 ≤ k) x (y ∷ xs) h)

all-cons : {A : Type 0} (P : A → Type 0) (x : A) (xs : List A) → P x → All P xs → All P (x ∷ xs)
all-cons P x xs p h zero d l = p
all-cons P x xs p h (suc j) d l = h j d (omega arith)

pub all-nil : {A : Type 0} (P : A → Type 0) → All P []
all-nil P = λ j d l. absurd (omega arith)

first-all : {A : Type 0} (P : A → Type 0) (xs ys : List A) → All P (xs ++ ys) → All P xs
first-all P [] ys h = all-nil P
first-all P (x ∷ xs) ys h = all-cons P x xs (head-all P x (xs ++ ys) h) (first-all P xs ys (tail-all P x (xs ++ ys) h))

last-all : {A : Type 0} (P : A → Type 0) (xs : List A) (y : A) → All P (xs ++ y ∷ []) → P y
last-all P [] y h = head-all P y [] h
last-all P (x ∷ xs) y h = last-all P xs y (tail-all P x (xs ++ y ∷ []) h)

pub all-append : {A : Type 0} (P : A → Type 0) (xs ys : List A) → All P xs → All P ys → All P (xs ++ ys)
all-append P [] ys a b = b
all-append P (x ∷ xs) ys a b = all-cons P x (xs ++ ys) (head-all P x xs a) (all-append P xs ys (tail-all P x xs a) b)

all-weaker : {A : Type 0} (P Q : A → Type 0) → ((x : A) → P x → Q x) → (xs : List A) → All P xs → All Q xs
all-weaker P Q f [] h = all-nil Q
all-weaker P Q f (x ∷ xs) h = all-cons Q x xs (f x (head-all P x xs h)) (all-weaker P Q f xs (tail-all P x xs h))

pub all-along : (P : ℕ × ℕ → Type 0) (k : ℕ) (path : List ℕ) → ((c : ℕ) → P (k, c)) → All P (adds_along k path)
all-along P k [] f = all-nil P
all-along P k (c ∷ cs) f = all-cons P (k, c) (adds_along k cs) (f c) (all-along P k cs f)

pub may_add : (t : Terms) (k c : ℕ) (path : List ℕ) (v w : View) → OneWhere (IsReadyFor t k) v.hands → HasAddedAll (adds_along k path) v w → c < cell_count t → ((j : ℕ) → j < length path → get_or path j 0 ≢ c) → MayAdd t k c w.hands
may_add t k c path v w one is few new = subst (λ (x : View). MayAdd t k c x.hands) (sym is.2) (hands v.hands one)
  where
    log : (l : List Entry) → LastWhere (IsReadyFor t k) l → LastMayAdd t k c (more_adds (adds_along k path) l)
    log [] h = absurd h
    log (e ∷ es) h = (
      h.0,
      h.1,
      h.2,
      not-below k (e.adds ++ adds_along k path) (all-append (λ (x : ℕ × ℕ). x.0 ≤ k) e.adds (adds_along k path)
          (all-weaker (λ (x : ℕ × ℕ). x.0 < k) (λ (x : ℕ × ℕ). x.0 ≤ k) (λ x less. omega arith) e.adds h.3) (all-along (λ (x : ℕ × ℕ). x.0 ≤ k) k path (λ c. omega arith))),
      has-append k c e.adds (adds_along k path) (has-below k c e.adds h.3) (has-along k c path new),
    )

    hands : (hs : List Hand) → OneWhere (IsReadyFor t k) hs → MayAdd t k c (first_works (adds_all (adds_along k path) is.0) hs)
    hands [] h = absurd h
    hands (x ∷ []) h = (few, log x.work.log h)
    hands (x ∷ y ∷ xs) h = absurd h

pub along-more : (k : ℕ) (path : List ℕ) (i : ℕ) → i < length path → adds_along k (take (i + 1) path) ≡ adds_along k (take i path) ++ (k, get_or path i 0) ∷ []
along-more k path i l = ap (adds_along k) (take_more path i 0 l) ∙ map_push (λ (c : ℕ). (k, c)) (take i path) (get_or path i 0)

-- a cell of a path of different cells isn't among those before it
pub fresh-at : (path : List ℕ) (i : ℕ) → i < length path → AreDifferent path → (j : ℕ) → j < length (take i path) → get_or (take i path) j 0 ≢ get_or path i 0
fresh-at path i l d j inside e =
    let less : j < i = omega (arith, length-take i path) in
    d j i less l (sym (get_or-take i path j 0 less) ∙ e)

-- the words along a path

pub more_none : (a : ℕ) (ws : List ℕ) → AreMoreAlong a [] ws ws
more_none a ws = record { count = refl; on = all-nil (λ (c : ℕ). get_or ws (c + 1) 0 ≡ (get_or ws (c + 1) 0 + a) % 18446744073709551616); off = λ i h. refl }

-- and one cell more
pub more_next : (a : ℕ) (path : List ℕ) (i : ℕ) (old mid : List ℕ) → i < length path → AreDifferent path → get_or path i 0 + 1 < length old → AreMoreAlong a (take i path) old mid
    → AreMoreAlong a (take (i + 1) path) old (set mid (get_or path i 0 + 1) ((get_or mid (get_or path i 0 + 1) 0 + a) % 18446744073709551616))
more_next a path i old mid l different inside m =
    let c = get_or path i 0 in
    let x : ℕ = (get_or mid (c + 1) 0 + a) % 18446744073709551616 in
    let new = set mid (c + 1) x in
    let was : get_or mid (c + 1) 0 ≡ get_or old (c + 1) 0 = m.off (c + 1) (λ j d k e. fresh-at path i l different j k (let f : get_or (take i path) j d + 1 ≡ c + 1 = e in let g : get_or (take i path) j d ≡ get_or (take i path) j 0 = get_or_default (take i path) j d 0 k in omega arith)) in
    let P : ℕ → Type 0 = λ d. get_or new (d + 1) 0 ≡ (get_or old (d + 1) 0 + a) % 18446744073709551616 in
    let here : P c = get_or-set_same mid (c + 1) x 0 (let n = m.count in omega arith) ∙ ap (λ (y : ℕ). (y + a) % 18446744073709551616) was in
    let before : All P (take i path) = λ j d k. get_or-set_other mid (c + 1) (get_or (take i path) j d + 1) x 0 (λ e. fresh-at path i l different j k (let g : get_or (take i path) j d ≡ get_or (take i path) j 0 = get_or_default (take i path) j d 0 k in let f : get_or (take i path) j d + 1 ≡ c + 1 = e in omega arith)) ∙ m.on j d k in
    let more = take_more path i 0 l in
    record {
      count = length-set mid (c + 1) x ∙ m.count;
      on = subst (All P) (sym more) (all-append P (take i path) (c ∷ []) before (all-cons P c [] here (all-nil P)));
      off = λ n h.
          let parts : All (λ (d : ℕ). d + 1 ≢ n) (take i path ++ c ∷ []) = subst (All (λ (d : ℕ). d + 1 ≢ n)) more h in
          let apart : n ≢ c + 1 = λ e. last-all (λ (d : ℕ). d + 1 ≢ n) (take i path) c parts (sym e) in
          get_or-set_other mid (c + 1) n x 0 apart ∙ m.off n (first-all (λ (d : ℕ). d + 1 ≢ n) (take i path) (c ∷ []) parts);
    }

-- whether some cell of the path has this word
on-path : (path : List ℕ) (n : ℕ) → ((j : ℕ) × (j < length path) × (get_or path j 0 + 1 ≡ n)) ⊎ All (λ c. c + 1 ≢ n) path
on-path [] n = inr (all-nil (λ c. c + 1 ≢ n))
on-path (x ∷ xs) n = dite (ℕ_discrete (x + 1) n)
    (λ same. inl (0, omega arith, same))
    (λ apart. elim (on-path xs n) as (λ _. ((j : ℕ) × (j < length (x ∷ xs)) × (get_or (x ∷ xs) j 0 + 1 ≡ n)) ⊎ All (λ c. c + 1 ≢ n) (x ∷ xs)) [
      | inl h ↦ inl (suc h.0, (let l = h.1 in omega arith), h.2)
      | inr h ↦ inr (all-cons (λ c. c + 1 ≢ n) x xs apart h)
    ])

-- these are no others
pub more_same : (a : ℕ) (path old xs ys : List ℕ) → AreMoreAlong a path old xs → AreMoreAlong a path old ys → xs ≡ ys
more_same a path old xs ys m o = same_lists xs ys (m.count ∙ sym o.count) (λ n inside. elim (on-path path n) as (λ _. get_or xs n 0 ≡ get_or ys n 0) [
  | inl h ↦ subst (λ (w : ℕ). get_or xs w 0 ≡ get_or ys w 0) h.2 (m.on h.0 0 h.1 ∙ sym (o.on h.0 0 h.1))
  | inr h ↦ m.off n h ∙ sym (o.off n h)
])
