-- A list with each number below its length once, and the way back.
use Rattle.std.proofs.Common.{◌≡◌, ◌≢◌, ℕ, ◌+◌, ◌<◌, eqb, List, length, get_or, set, sym, ap, ◌∙◌, subst, arith, inl, inr}
use Rattle.std.specs.Prelude.{All, Contains}
use Rattle.std.specs.List.{range_with_len}
use Rattle.std.proofs.lemmas.Bool.{cases_lt, ne_eqb, eqb-false}
use Rattle.std.proofs.lemmas.Bool.Decides.{nat_tests}
use Rattle.std.proofs.lemmas.List.{get_or-set_same, get_or-set_other}
use Rattle.std.proofs.lemmas.List.Elements.{All-get_or, All-from_get_or, Contains-get_or, at_from_Contains}
use Rattle.std.proofs.lemmas.List.FromFn.{length-range_with_len, get_or-range_with_len}
use Rattle.std.proofs.lemmas.List.Sorted.{All-permutation, Contains-permutation}
use Rattle.std.proofs.lemmas.Map.Keys.{IsDistinct-IsPermutation, IsDistinct-from_apart, apart_from_distinct}
use Rattle.flow_paths.specs.Ordering.{IsOfAll, AreNumbersOf}

pub below_of_all : (order : List ℕ) (i : ℕ) → IsOfAll order → i < length order → get_or order i 0 < length order
below_of_all order i all l =
    let n = length order in
    let range = range_with_len 0 n in
    let each : All (λ m. m < n) range = All-from_get_or (λ m. m < n) range 0 (λ k h.
    let k_in : k < n = let long = length-range_with_len 0 n in omega (arith, long, h) in
    let is = get_or-range_with_len 0 n k 0 k_in in omega (arith, is)) in
    All-get_or (λ m. m < n) order i 0 l (All-permutation (λ m. m < n) range order all each)

flips : (x y : ℕ) → eqb x y ≡ eqb y x
flips x y = grind (arith, nat_tests)

pub apart_of_all : (order : List ℕ) (i j : ℕ) → IsOfAll order → i < j → j < length order → get_or order i 0 ≢ get_or order j 0
apart_of_all order i j all below l =
    let n = length order in
    let range = range_with_len 0 n in
    let distinct = IsDistinct-from_apart eqb range (λ a b d ab h.
    let b_in : b < n = let long = length-range_with_len 0 n in omega (arith, long, h) in
    let x = get_or-range_with_len 0 n a d (omega arith) in
    let y = get_or-range_with_len 0 n b d b_in in
    ne_eqb (get_or range a d) (get_or range b d) (λ e. omega (arith, x, y, e))) in
    eqb-false (get_or order i 0) (get_or order j 0) (apart_from_distinct eqb order i j 0 (IsDistinct-IsPermutation eqb flips range order all distinct) below l)

-- each number has a place
pub place_of_all : (order : List ℕ) (m : ℕ) → IsOfAll order → m < length order → (i : ℕ) × (i < length order) × (get_or order i 0 ≡ m)
place_of_all order m all l =
    let n = length order in
    let range = range_with_len 0 n in
    let there : Contains range m = subst (Contains range) (get_or-range_with_len 0 n m 0 l ∙ omega arith) (Contains-get_or range m 0 (let long = length-range_with_len 0 n in omega (arith, long))) in
    let at = at_from_Contains order m (Contains-permutation range order m all there) in
    (at.0, at.1, at.2 0)

-- one place more is noted
pub back_more : (order numbers : List ℕ) (n : ℕ) → IsOfAll order → length numbers ≡ length order → n < length order → ((i : ℕ) → i < n → get_or numbers (get_or order i 0) 0 ≡ i)
    → (i : ℕ) → i < n + 1 → get_or (set numbers (get_or order n 0) n) (get_or order i 0) 0 ≡ i
back_more order numbers n all count l back i h =
    elim (cases_lt i n) as (λ _. get_or (set numbers (get_or order n 0) n) (get_or order i 0) 0 ≡ i) [
      | inl lt ↦ get_or-set_other numbers (get_or order n 0) (get_or order i 0) n 0 (apart_of_all order i n all lt l) ∙ back i lt
      | inr ge ↦
          let e : i ≡ n = omega arith in
          let in' : get_or order n 0 < length numbers = let b = below_of_all order n all l in omega (arith, b, count) in
          ap (λ k. get_or (set numbers (get_or order n 0) n) (get_or order k 0) 0) e ∙ get_or-set_same numbers (get_or order n 0) n 0 in' ∙ sym e
    ]

-- the number of a row leads to the row
pub to_place : (order numbers : List ℕ) (m : ℕ) → IsOfAll order → AreNumbersOf order numbers → m < length order → (get_or numbers m 0 < length order) × (get_or order (get_or numbers m 0) 0 ≡ m)
to_place order numbers m all are l =
    let p = place_of_all order m all l in
    let is : get_or numbers m 0 ≡ p.0 = ap (λ k. get_or numbers k 0) (sym p.2) ∙ are.back p.0 p.1 in
    let at = p.1 in
    (omega (arith, is, at), ap (λ k. get_or order k 0) is ∙ p.2)
