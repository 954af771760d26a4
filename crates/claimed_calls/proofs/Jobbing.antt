-- Jobs at the front of a list, and the rest.
use Rattle.std.proofs.Common.{◌≡◌, ◌⊎◌, inl, inr, ℕ, suc, ◌+◌, ◌<◌, List, ◌∷◌, Contains, length, slice_index_or, subst, sym, ap, arith}

module _ {X : Type 0} (P : X → Type 0) where
  -- what holds of each holds of each of the rest
  pub of_rest : (xs : List X) (x : X) (rest : List X) → xs ≡ x ∷ rest → length rest + 1 ≡ length xs
      → ((k : ℕ) (d : X) → k < length xs → P (slice_index_or xs k d)) → (k : ℕ) (d : X) → k < length rest → P (slice_index_or rest k d)
  of_rest xs x rest is long each k d l = subst (λ (ys : List X). P (slice_index_or ys (suc k) d)) is (each (suc k) d (omega arith))

  -- what holds of each holds of the first
  pub of_first : (xs : List X) (x : X) (rest : List X) → xs ≡ x ∷ rest → ((k : ℕ) (d : X) → k < length xs → P (slice_index_or xs k d)) → P x
  of_first xs x rest is each = subst (λ (ys : List X). P (slice_index_or ys 0 x)) is (each 0 x (omega (arith, ap (λ (ys : List X). length ys) is)))

module _ {X : Type 0} where
  -- an item that is the first one or one of the rest is one of all
  pub of_first_or_rest : (xs : List X) (x : X) (rest : List X) (y : X) → xs ≡ x ∷ rest → (x ≡ y) ⊎ Contains rest y → Contains xs y
  of_first_or_rest xs x rest y is (inl e) = (0, omega (arith, ap (λ (ys : List X). length ys) is), subst (λ (ys : List X). slice_index_or ys 0 y ≡ y) (sym is) e)
  of_first_or_rest xs x rest y is (inr h) = (suc h.0, omega (arith, h.1, ap (λ (ys : List X). length ys) is), subst (λ (ys : List X). slice_index_or ys (suc h.0) y ≡ y) (sym is) h.2)
