-- Sums over what a test keeps, and over equal numbers.
use Rattle.std.proofs.Common.{◌≡◌, ℕ, suc, ◌+◌, ◌*◌, Bool, true, false, cond, List, [], ◌∷◌, refl, ◌∙◌, arith}
use Rattle.std.specs.Prelude.{All, IfOk, Result, Ok, Err}
use Rattle.std.specs.List.{filter, sum_by}
use Rattle.std.proofs.lemmas.List.Sums.{sum_by-cons}

-- what is not kept counts as 0
pub sum-kept : {X : Type 0} (f : X → ℕ) (p : X → Bool) (xs : List X) → sum_by (λ x. f x * cond (p x) 1 0) xs ≡ sum_by f (filter p xs)
sum-kept f p [] = refl
sum-kept f p (x ∷ xs) = sum_by-cons (λ y. f y * cond (p y) 1 0) x xs ∙ step f p x xs (p x) (sum-kept f p xs)
  where
    step : {X : Type 0} (f : X → ℕ) (p : X → Bool) (x : X) (xs : List X) (b : Bool) → sum_by (λ y. f y * cond (p y) 1 0) xs ≡ sum_by f (filter p xs)
        → f x * cond b 1 0 + sum_by (λ y. f y * cond (p y) 1 0) xs ≡ sum_by f (cond b (x ∷ filter p xs) (filter p xs))
    step f p x xs true rest = omega (arith, sum_by-cons f x (filter p xs), rest)
    step f p x xs false rest = omega (arith, rest)

-- equal at each item
pub sum-same : {X : Type 0} (f g : X → ℕ) (xs : List X) → All (λ x. f x ≡ g x) xs → sum_by f xs ≡ sum_by g xs
sum-same f g [] h = refl
sum-same f g (x ∷ xs) h =
    let here : f x ≡ g x = h 0 x (omega arith) in
    let rest : sum_by f xs ≡ sum_by g xs = sum-same f g xs (λ i d lt. h (suc i) d (omega arith)) in
    omega (arith, sum_by-cons f x xs, sum_by-cons g x xs)

-- both facts of a result
pub if-both : {X E : Type 0} (r : Result X E) (P Q : X → Type 0) → IfOk r P → IfOk r Q → IfOk r (λ x. P x × Q x)
if-both (Ok x) P Q p q = (p, q)
if-both (Err e) P Q p q = tt
