-- A table that gives, for each number, the index of the only row with that number.
use Rattle.std.proofs.Common.{◌≡◌, ◌≢◌, ℕ, ◌+◌, ◌<◌, ◌≤◌, Bool, true, false, cond, eqb, List, [], ◌∷◌, length, get_or, set, take, Option, Some, None, inl, inr, sym, ap, subst, ◌∙◌, arith, refl}
use Rattle.std.specs.Prelude.{count_by, find}
use Rattle.std.specs.Option.{option_or}
use Rattle.std.proofs.lemmas.Bool.Decides.{eqb_tells}
use Rattle.std.proofs.lemmas.List.{get_or-set_same, get_or-set_other, take_more}
use Rattle.std.proofs.lemmas.List.Folds.{find-append}
use Rattle.std.proofs.lemmas.List.Sums.{sum_by-cons, count_by_more_yes, count_by_more_no, sum_by-take-le}

pub set_here : (table : List ℕ) (at n k : ℕ) → at < length table → at ≡ k → get_or (set table at n) k 0 ≡ n
set_here table at n k inside e = subst (λ (j : ℕ). get_or (set table at n) j 0 ≡ n) e (get_or-set_same table at n 0 inside)

pub set_there : (table : List ℕ) (at n k : ℕ) → at ≢ k → get_or (set table at n) k 0 ≡ get_or table k 0
set_there table at n k ne = get_or-set_other table at k n 0 (λ e. ne (sym e))

none_of_count : {X : Type 0} (p : X → Bool) (xs : List X) → count_by p xs ≡ 0 → find p xs ≡ None
none_of_count p [] e = refl
none_of_count p (x ∷ xs) e = step p x xs (p x) (none_of_count p xs) (sym (sum_by-cons (λ y. cond (p y) 1 0) x xs) ∙ e)
  where
    step : {X : Type 0} (p : X → Bool) (x : X) (xs : List X) (b : Bool) → (count_by p xs ≡ 0 → find p xs ≡ None) → cond b 1 0 + count_by p xs ≡ 0 → cond b (Some x) (find p xs) ≡ None
    step p x xs true rest e = absurd (omega arith)
    step p x xs false rest e = rest (omega arith)

or_none : {X : Type 0} (o : Option X) → option_or o None ≡ o
or_none None = refl
or_none (Some x) = refl

find_more : {X : Type 0} (p : X → Bool) (xs : List X) (i : ℕ) (d : X) → i < length xs → find p (take (i + 1) xs) ≡ option_or (find p (take i xs)) (cond (p (get_or xs i d)) (Some (get_or xs i d)) None)
find_more p xs i d lt = ap (find p) (take_more xs i d lt) ∙ find-append p (take i xs) (get_or xs i d ∷ [])

pub find_more_yes : {X : Type 0} (p : X → Bool) (xs : List X) (i : ℕ) (d : X) → i < length xs → p (get_or xs i d) ≡ true → count_by p xs ≤ 1 → find p (take (i + 1) xs) ≡ Some (get_or xs i d)
find_more_yes p xs i d lt passes once =
    let more = count_by_more_yes p xs i d lt passes in
    let whole = sum_by-take-le (λ x. cond (p x) 1 0) xs (i + 1) in
    let none = none_of_count p (take i xs) (omega arith) in
    find_more p xs i d lt ∙ rw (none, passes) refl

pub find_more_no : {X : Type 0} (p : X → Bool) (xs : List X) (i : ℕ) (d : X) → i < length xs → p (get_or xs i d) ≡ false → find p (take (i + 1) xs) ≡ find p (take i xs)
find_more_no p xs i d lt fails = find_more p xs i d lt ∙ rw fails (or_none (find p (take i xs)))

-- one more row's number, where no number names two rows
pub numbered : {X : Type 0} (f : X → ℕ) (rows : List X) (d : X) (table : List ℕ) (i at c : ℕ) → i < length rows → at ≡ f (get_or rows i d) → at < length table → count_by (λ r. eqb (f r) at) rows ≤ 1
    → (1 ≤ count_by (λ r. eqb (f r) c) (take i rows) → (get_or table c 0 < i) × (find (λ r. eqb (f r) c) (take i rows) ≡ Some (get_or rows (get_or table c 0) d)))
    → 1 ≤ count_by (λ r. eqb (f r) c) (take (i + 1) rows) → (get_or (set table at i) c 0 < i + 1) × (find (λ r. eqb (f r) c) (take (i + 1) rows) ≡ Some (get_or rows (get_or (set table at i) c 0) d))
numbered f rows d table i at c lt is inside once h some = elim (eqb_tells (f (get_or rows i d)) c) as (λ _. (get_or (set table at i) c 0 < i + 1) × (find (λ r. eqb (f r) c) (take (i + 1) rows) ≡ Some (get_or rows (get_or (set table at i) c 0) d))) [
  | inl p ↦
      let here : at ≡ c = is ∙ p.1 in
      let once_here : count_by (λ r. eqb (f r) c) rows ≤ 1 = subst (λ (j : ℕ). count_by (λ r. eqb (f r) j) rows ≤ 1) here once in
      let now : get_or (set table at i) c 0 ≡ i = set_here table at i c inside here in
      (omega arith, find_more_yes (λ r. eqb (f r) c) rows i d lt p.0 once_here ∙ ap (λ j. Some (get_or rows j d)) (sym now))
  | inr p ↦
      let now : get_or (set table at i) c 0 ≡ get_or table c 0 = set_there table at i c (λ e. p.1 (sym is ∙ e)) in
      let before = h (subst (λ (m : ℕ). 1 ≤ m) (count_by_more_no (λ r. eqb (f r) c) rows i d lt p.0) some) in
      (omega arith, find_more_no (λ r. eqb (f r) c) rows i d lt p.0 ∙ before.1 ∙ ap (λ j. Some (get_or rows j d)) (sym now))
]
