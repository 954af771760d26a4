-- Rows in ascending order, from rows in any order.
use Rattle.std.proofs.Common.{◌≡◌, ℕ, suc, ◌+◌, ◌-◌, ◌<◌, true, false, List, [], ◌∷◌, length, get_or, map, refl, sym, ap, ◌∙◌, subst, arith, inl, inr}
use Rattle.std.specs.Prelude.{AllPairs, IsTrue}
use Rattle.std.specs.List.{range_with_len, list_any}
use Rattle.std.specs.List.Sorted.{IsPermutation}
use Rattle.std.proofs.lemmas.Bool.{cases_eq, cases_lt, both_ways}
use Rattle.std.proofs.lemmas.List.{get_or-map, length-map}
use Rattle.std.proofs.lemmas.List.Elements.{All-weaker}
use Rattle.std.proofs.lemmas.List.Sorted.{IsPermutation-map, list_any-IsPermutation, All-permutation}
use Rattle.flow_model.specs.Routing.{Row}
use Rattle.flow_paths.specs.PathRows.{row_at, no_row, HasPath}
use Rattle.flow_paths.specs.RowOrder.{row_lt}
use Rattle.flow_paths.specs.Ordering.{IsOrderOf}
use Rattle.flow_paths.proofs.Numbers.{below_of_all, apart_of_all}
use Rattle.flow_paths.proofs.RowOrder.{rows_differ, rows_ascend}
use Rattle.route_tally.specs.Tally.{same_path, routed_along, IsCollected, IsTally}
use Rattle.route_tally.proofs.SamePaths.{same_from}

-- the rows in the order
abbrev pub in_order : List Row → List ℕ → List Row
in_order rows order = map (row_at rows) order

-- the numbers of all rows give the rows
map_rows : (rows : List Row) (f : ℕ → Row) (a : ℕ) → ((i : ℕ) → i < length rows → f (a + i) ≡ row_at rows i) → map f (range_with_len a (length rows)) ≡ rows
map_rows [] f a h = refl
map_rows (r ∷ rows) f a h =
    let here : a + 0 ≡ a = omega arith in
    let first : f a ≡ r = subst (λ k. f k ≡ r) here (h 0 (omega arith)) in
    let rest : map f (range_with_len (a + 1) (length rows)) ≡ rows = map_rows rows f (a + 1) (λ i l.
    let e : a + suc i ≡ (a + 1) + i = omega arith in
    subst (λ k. f k ≡ row_at rows i) e (h (suc i) (omega arith))) in
    ap (λ x. x ∷ map f (range_with_len (a + 1) (length rows))) first ∙ ap (λ (t : List Row). r ∷ t) rest

pub moved : (rows : List Row) (order : List ℕ) → IsOrderOf rows order → IsPermutation rows (in_order rows order)
moved rows order is =
    let all : IsPermutation (range_with_len 0 (length rows)) order = subst (λ n. IsPermutation (range_with_len 0 n) order) is.count is.all in
    let same : map (row_at rows) (range_with_len 0 (length rows)) ≡ rows = map_rows rows (row_at rows) 0 (λ i l. let e : 0 + i ≡ i = omega arith in ap (row_at rows) e) in
    subst (λ (t : List Row). IsPermutation t (in_order rows order)) same (IsPermutation-map (row_at rows) (range_with_len 0 (length rows)) order all)

-- no two rows are of one path, in either order
unlike_rows : (rows : List Row) → AllPairs (λ a b. same_path a b ≡ false) rows → (i j : ℕ) → i < j → j < length rows → ¬ (HasPath (row_at rows i).commodity (row_at rows i).walk (row_at rows j))
unlike_rows rows apart i j below l has = both_ways (same_path (row_at rows i) (row_at rows j)) (apart i j no_row below l) (same_from (row_at rows i) (row_at rows j) (sym has.0) (sym has.1))

-- each row in the order comes before the next
next_ascends : (rows : List Row) (order : List ℕ) → IsOrderOf rows order → AllPairs (λ a b. same_path a b ≡ false) rows → (i : ℕ) → i + 1 < length order → row_lt (row_at rows (get_or order i 0)) (row_at rows (get_or order (i + 1) 0)) ≡ true
next_ascends rows order is apart i l =
    let a = get_or order i 0 in
    let b = get_or order (i + 1) 0 in
    let count = is.count in
    let la = below_of_all order i is.all (omega arith) in
    let lb = below_of_all order (i + 1) is.all l in
    rows_differ (row_at rows a) (row_at rows b) (is.ascending i l) (λ same.
    elim (cases_lt a b) as (λ _. ⊥) [
      | inl lt ↦ unlike_rows rows apart a b lt (omega (arith, lb, count)) same
      | inr ge ↦
          let ne = apart_of_all order i (i + 1) is.all (omega arith) l in
          let lt : b < a = elim (cases_eq a b) as (λ _. b < a) [ inl e ↦ absurd (ne e) | inr other ↦ omega (arith, ge, other) ] in
          unlike_rows rows apart b a lt (omega (arith, la, count)) (sym same.0, sym same.1)
    ])

ascends : (rows : List Row) (order : List ℕ) → IsOrderOf rows order → AllPairs (λ a b. same_path a b ≡ false) rows → AllPairs (λ a b. IsTrue (row_lt a b)) (in_order rows order)
ascends rows order is apart i j d below l =
    let long : length (in_order rows order) ≡ length order = length-map order (row_at rows) in
    let lj : j < length order = omega (arith, l, long) in
    let li : i < length order = omega (arith, lj, below) in
    let row : ℕ → Row = λ k. row_at rows (get_or order k 0) in
    let e : i + ((j - (i + 1)) + 1) ≡ j = omega (arith, below) in
    let chain : row_lt (row i) (row (i + ((j - (i + 1)) + 1))) ≡ true = rows_ascend row (length order) (next_ascends rows order is apart) i (j - (i + 1)) (omega (arith, e, lj)) in
    let lt : row_lt (row i) (row j) ≡ true = subst (λ k. row_lt (row i) (row k) ≡ true) e chain in
    let a : row i ≡ get_or (in_order rows order) i d = sym (get_or-map (row_at rows) order i 0 d li) in
    let b : row j ≡ get_or (in_order rows order) j d = sym (get_or-map (row_at rows) order j 0 d lj) in
    subst (λ r. row_lt r (get_or (in_order rows order) j d) ≡ true) a (subst (λ r. row_lt (row i) r ≡ true) b lt)

-- what was collected, in order, is the tally
pub tally_in_order : (turns rows : List Row) (order : List ℕ) → IsOrderOf rows order → IsCollected turns rows → IsTally turns (in_order rows order)
tally_in_order turns rows order is from =
    let new = in_order rows order in
    let perm : IsPermutation rows new = moved rows order is in
    record {
      ascending = ascends rows order is from.apart;
      each = All-weaker (λ (t : Row). IsTrue (list_any (same_path t) rows)) (λ (t : Row). IsTrue (list_any (same_path t) new)) (λ t h. sym (list_any-IsPermutation (same_path t) rows new perm) ∙ h) turns from.each;
      no_other = All-permutation (λ (r : Row). IsTrue (list_any (same_path r) turns)) rows new perm from.no_other;
      weights = All-permutation (λ (r : Row). r.weight ≡ routed_along turns r) rows new perm from.weights;
    }
