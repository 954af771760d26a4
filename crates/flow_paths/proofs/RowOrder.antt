-- The order of rows is one: of two that differ one comes first, and what comes before a second comes before what that one precedes.
use Rattle.std.proofs.Common.{◌≡◌, ◌≢◌, ℕ, zero, suc, ◌+◌, ◌<◌, ◌≤◌, Bool, true, false, List, [], ◌∷◌, refl, sym, ap, ◌∙◌, subst, arith, inl, inr}
use Rattle.std.specs.Prelude.{◌⊎◌, ◌||◌, ◌&&◌, ◌==◌, nat_lt}
use Rattle.std.proofs.lemmas.Bool.{cases_lt}
use Rattle.std.proofs.lemmas.Bool.Decides.{nat_tests}
use Rattle.flow_model.specs.Routing.{Row}
use Rattle.flow_paths.specs.PathRows.{HasPath}
use Rattle.flow_paths.specs.RowOrder.{list_lt, row_lt}

lex_less : (x y : ℕ) (l : Bool) → x < y → (nat_lt x y || ((x == y) && l)) ≡ true
lex_less x y l h = grind (arith, nat_tests)

lex_same : (x y : ℕ) (l : Bool) → x ≡ y → l ≡ true → (nat_lt x y || ((x == y) && l)) ≡ true
lex_same x y l e t = grind (arith, nat_tests)

lex_true : (x y : ℕ) (l : Bool) → (nat_lt x y || ((x == y) && l)) ≡ true → (x < y) ⊎ ((x ≡ y) × (l ≡ true))
lex_true x y l h = grind (arith, nat_tests)

lex_false_le : (x y : ℕ) (l : Bool) → (nat_lt x y || ((x == y) && l)) ≡ false → y ≤ x
lex_false_le x y l h = grind (arith, nat_tests)

lex_false_same : (x y : ℕ) (l : Bool) → (nat_lt x y || ((x == y) && l)) ≡ false → x ≡ y → l ≡ false
lex_false_same x y l h e = grind (arith, nat_tests)

lists_differ : (xs ys : List ℕ) → list_lt ys xs ≡ false → xs ≢ ys → list_lt xs ys ≡ true
lists_differ [] [] h ne = absurd (ne refl)
lists_differ [] (y ∷ ys) h ne = refl
lists_differ (x ∷ xs) [] h ne = absurd (cc)
lists_differ (x ∷ xs) (y ∷ ys) h ne =
    let le = lex_false_le y x (list_lt ys xs) h in
    elim (cases_lt x y) as (λ _. list_lt (x ∷ xs) (y ∷ ys) ≡ true) [
      | inl lt ↦ lex_less x y (list_lt xs ys) lt
      | inr ge ↦
          let e : x ≡ y = omega (arith, le, ge) in
          lex_same x y (list_lt xs ys) e (lists_differ xs ys (lex_false_same y x (list_lt ys xs) h (sym e)) (λ same. ne (ap (λ z. z ∷ xs) e ∙ ap (λ (t : List ℕ). y ∷ t) same)))
    ]

pub rows_differ : (a b : Row) → row_lt b a ≡ false → ¬ (HasPath a.commodity a.walk b) → row_lt a b ≡ true
rows_differ a b h ne =
    let le = lex_false_le b.commodity a.commodity (list_lt b.walk a.walk) h in
    elim (cases_lt a.commodity b.commodity) as (λ _. row_lt a b ≡ true) [
      | inl lt ↦ lex_less a.commodity b.commodity (list_lt a.walk b.walk) lt
      | inr ge ↦
          let e : a.commodity ≡ b.commodity = omega (arith, le, ge) in
          lex_same a.commodity b.commodity (list_lt a.walk b.walk) e (lists_differ a.walk b.walk (lex_false_same b.commodity a.commodity (list_lt b.walk a.walk) h (sym e)) (λ same. ne (sym e, sym same)))
    ]

lists_chain : (xs ys zs : List ℕ) → list_lt xs ys ≡ true → list_lt ys zs ≡ true → list_lt xs zs ≡ true
lists_chain xs [] zs p q = absurd (cc)
lists_chain xs (y ∷ ys) [] p q = absurd (cc)
lists_chain [] (y ∷ ys) (z ∷ zs) p q = refl
lists_chain (x ∷ xs) (y ∷ ys) (z ∷ zs) p q =
    elim (lex_true x y (list_lt xs ys) p) as (λ _. list_lt (x ∷ xs) (z ∷ zs) ≡ true) [
      | inl lt ↦ elim (lex_true y z (list_lt ys zs) q) as (λ _. list_lt (x ∷ xs) (z ∷ zs) ≡ true) [
        | inl lt' ↦ lex_less x z (list_lt xs zs) (omega arith)
        | inr same ↦ let e = same.0 in lex_less x z (list_lt xs zs) (omega (arith, e))
      ]
      | inr first ↦ let d = first.0 in elim (lex_true y z (list_lt ys zs) q) as (λ _. list_lt (x ∷ xs) (z ∷ zs) ≡ true) [
        | inl lt' ↦ lex_less x z (list_lt xs zs) (omega (arith, d))
        | inr same ↦ lex_same x z (list_lt xs zs) (first.0 ∙ same.0) (lists_chain xs ys zs first.1 same.1)
      ]
    ]

pub rows_chain : (a b c : Row) → row_lt a b ≡ true → row_lt b c ≡ true → row_lt a c ≡ true
rows_chain a b c p q =
    elim (lex_true a.commodity b.commodity (list_lt a.walk b.walk) p) as (λ _. row_lt a c ≡ true) [
      | inl lt ↦ elim (lex_true b.commodity c.commodity (list_lt b.walk c.walk) q) as (λ _. row_lt a c ≡ true) [
        | inl lt' ↦ lex_less a.commodity c.commodity (list_lt a.walk c.walk) (omega arith)
        | inr same ↦ let e = same.0 in lex_less a.commodity c.commodity (list_lt a.walk c.walk) (omega (arith, e))
      ]
      | inr first ↦ let d = first.0 in elim (lex_true b.commodity c.commodity (list_lt b.walk c.walk) q) as (λ _. row_lt a c ≡ true) [
        | inl lt' ↦ lex_less a.commodity c.commodity (list_lt a.walk c.walk) (omega (arith, d))
        | inr same ↦ lex_same a.commodity c.commodity (list_lt a.walk c.walk) (first.0 ∙ same.0) (lists_chain a.walk b.walk c.walk first.1 same.1)
      ]
    ]

-- where each row comes before its neighbour, it comes before all that follow
pub rows_ascend : (row : ℕ → Row) (n : ℕ) → ((i : ℕ) → i + 1 < n → row_lt (row i) (row (i + 1)) ≡ true) → (i j : ℕ) → i + (j + 1) < n → row_lt (row i) (row (i + (j + 1))) ≡ true
rows_ascend row n next i zero l = let e : i + 1 ≡ i + (zero + 1) = omega arith in subst (λ k. row_lt (row i) (row k) ≡ true) e (next i (omega arith))
rows_ascend row n next i (suc j) l =
    let before = rows_ascend row n next i j (omega arith) in
    let last = next (i + (j + 1)) (omega arith) in
    let e : (i + (j + 1)) + 1 ≡ i + (suc j + 1) = omega arith in
    subst (λ k. row_lt (row i) (row k) ≡ true) e (rows_chain (row i) (row (i + (j + 1))) (row ((i + (j + 1)) + 1)) before last)
