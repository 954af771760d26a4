-- Lists in which one item counts.
use Rattle.std.proofs.Common.{◌≡◌, ◌≢◌, ℕ, zero, suc, ◌<◌, ◌≤◌, List, [], ◌∷◌, ◌++◌, length, get_or, refl, sym, ap, subst, arith, length-append}
use Rattle.std.proofs.lemmas.List.{get_or_append_left}
use Rattle.std.proofs.Math.Seq.{get_or-append_seam}
use mathlib.Core.Logic.{dite}
use native.Mathlib.Decide.{ℕ_discrete}
use Rattle.flow_core.specs.Core.{total}
use Rattle.flow_core.proofs.Sums.{total-at}

-- the one item at which f is 1, where it is 0 at all others
pub record OnePlace {A : Type 0} (f : A → ℕ) (l : List A) (d : A) : Type 0 where
  pub at : ℕ
  pub inside : at < length l
  pub one : f (get_or l at d) ≡ 1
  pub others : (j : ℕ) → j < length l → j ≢ at → f (get_or l j d) ≡ 0

module _ {A : Type 0} where
  pub total-none : (f : A → ℕ) (l : List A) (d : A) → ((j : ℕ) → j < length l → f (get_or l j d) ≡ 0) → total f l ≡ 0
  total-none f [] d h = refl
  total-none f (x ∷ xs) d h = let a = h 0 (omega arith) in let r = total-none f xs d (λ j l. h (suc j) (omega arith)) in omega arith

  pub total-only : (f : A → ℕ) (l : List A) (i : ℕ) (d : A) → i < length l → ((j : ℕ) → j < length l → j ≢ i → f (get_or l j d) ≡ 0) → total f l ≡ f (get_or l i d)
  total-only f [] i d inside h = absurd (omega arith)
  total-only f (x ∷ xs) zero d inside h = let r = total-none f xs d (λ j l. h (suc j) (omega arith) (λ e. omega arith)) in omega arith
  total-only f (x ∷ xs) (suc i) d inside h =
      let a = h 0 (omega arith) (λ e. omega arith) in
      let r = total-only f xs i d (omega arith) (λ j l n. h (suc j) (omega arith) (λ e. n (omega arith))) in
      omega arith

  later : (f : A → ℕ) (x : A) (xs : List A) (d : A) (at : ℕ) → f x ≡ 0 → ((j : ℕ) → j < length xs → j ≢ at → f (get_or xs j d) ≡ 0) → (j : ℕ) → j < length (x ∷ xs) → j ≢ suc at → f (get_or (x ∷ xs) j d) ≡ 0
  later f x xs d at here h zero l n = here
  later f x xs d at here h (suc j) l n = h j (omega arith) (λ e. n (ap suc e))

  none-later : (f : A → ℕ) (x : A) (xs : List A) (d : A) → total f xs ≡ 0 → (j : ℕ) → j < length (x ∷ xs) → j ≢ 0 → f (get_or (x ∷ xs) j d) ≡ 0
  none-later f x xs d h zero l n = absurd (n refl)
  none-later f x xs d h (suc j) l n = let a = total-at f xs j d (omega arith) in omega arith

  pub one-place : (f : A → ℕ) (l : List A) (d : A) → total f l ≡ 1 → OnePlace f l d
  one-place f [] d h = absurd (omega arith)
  one-place f (x ∷ xs) d h = dite (ℕ_discrete (f x) 0)
      (λ none. let r = one-place f xs d (omega arith) in
      let inside = r.inside in
      record { at = suc r.at; inside = omega arith; one = r.one; others = later f x xs d r.at none r.others })
      (λ some. let one : f x ≡ 1 = more (f x) some (omega arith) in
      record { at = 0; inside = omega arith; one = one; others = none-later f x xs d (omega arith) })
    where
      more : (n : ℕ) → n ≢ 0 → n ≤ 1 → n ≡ 1
      more zero n l = absurd (n refl)
      more (suc m) n l = omega arith

  -- a list of items, one chosen for each number below n
  pub choose : (P : ℕ → A → Type 0) (d : A) (n : ℕ) → ((k : ℕ) → k < n → (a : A) × P k a) → (xs : List A) × (length xs ≡ n) × ((k : ℕ) → k < n → P k (get_or xs k d))
  choose P d zero f = ([], refl, λ k l. absurd (omega arith))
  choose P d (suc n) f =
      let r = choose P d n (λ k l. f k (omega arith)) in
      let a = f n (omega arith) in
      let long : length r.0 ≡ n = r.1 in
      (r.0 ++ a.0 ∷ [], omega (arith, length-append r.0 (a.0 ∷ [])), all r.0 long r.2 a.0 a.1)
    where
      all : (xs : List A) → length xs ≡ n → ((k : ℕ) → k < n → P k (get_or xs k d)) → (x : A) → P n x → (k : ℕ) → k < suc n → P k (get_or (xs ++ x ∷ []) k d)
      all xs e h x last k l = dite (ℕ_discrete k n)
          (λ same. let seam : get_or (xs ++ x ∷ []) n d ≡ x = subst (λ (m : ℕ). get_or (xs ++ x ∷ []) m d ≡ x) e (get_or-append_seam xs x [] d) in
          subst (λ (m : ℕ). P m (get_or (xs ++ x ∷ []) m d)) (sym same) (subst (P n) (sym seam) last))
          (λ apart. let less : k < n = omega arith in subst (P k) (sym (get_or_append_left xs (x ∷ []) d k (omega arith))) (h k less))
