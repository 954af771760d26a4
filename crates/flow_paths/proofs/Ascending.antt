-- Rows in ascending order.
use Rattle.std.proofs.Common.{◌≡◌, ℕ, zero, suc, ◌+◌, ◌<◌, ◌≤◌, Bool, true, false, cond, List, [], ◌∷◌, ◌++◌, length, get_or, refl, sym, ap, ◌∙◌, subst, arith, Less, Equal, Greater, Ordering, is_lt, nat_cmp, add-one}
use Rattle.std.specs.Prelude.{All, ◌||◌, ◌&&◌, ◌==◌, nat_lt}
use Rattle.std.specs.Ordering.{ordering_then}
use Rattle.std.specs.Cmp.Lexicographic.{slice_cmp}
use Rattle.std.specs.List.{range_with_len}
use Rattle.std.specs.List.Sorted.{IsPermutation}
use Rattle.std.proofs.lemmas.Cmp.{same_from_slice_cmp}
use Rattle.std.proofs.lemmas.Bool.Decides.{nat_tests}
use Rattle.std.proofs.lemmas.List.{get_or-map, length-map, map-append}
use Rattle.std.proofs.lemmas.List.Elements.{All-get_or}
use Rattle.std.proofs.lemmas.List.Sorted.{IsPermutation-map, length_permutation, All-permutation}
use Rattle.std.proofs.lemmas.List.FromFn.{length-range_with_len}
use Rattle.flow_model.specs.Routing.{Row}
use Rattle.flow_paths.specs.PathRows.{row_at}
use Rattle.flow_paths.specs.RowOrder.{list_lt, row_lt}
use Rattle.flow_paths.specs.declared.ordering.OrderedRow.{OrderedRow}
use Rattle.flow_paths.specs.Sorted.{IsOrderedRow, numbers_of}
use Rattle.flow_paths.specs.Ordering.{IsOrderOf}

-- the order of lists is that of their comparison
list_lt-is : (xs ys : List ℕ) → is_lt (slice_cmp nat_cmp xs ys) ≡ list_lt xs ys
list_lt-is xs ys = same_from_slice_cmp nat_cmp is_lt list_lt refl (λ y ys. refl) (λ x xs. refl) (λ x y xs ys o h. grind (arith, nat_tests)) xs ys (slice_cmp nat_cmp xs ys) refl

pub not_less : (t e l : Bool) (o p : Ordering) → is_lt o ≡ l → is_lt (ordering_then (cond t Less (cond e Equal Greater)) (ordering_then o p)) ≡ false → (t || (e && l)) ≡ false
not_less true e l o p is h = absurd (cc)
not_less false false l o p is h = refl
not_less false true l Less p is h = absurd (cc)
not_less false true l Equal p is h = sym is
not_less false true l Greater p is h = sym is

-- what a sort says of neighbours
abbrev pub AreInOrder : List OrderedRow → Type 0
AreInOrder rows = (k : ℕ) (d : OrderedRow) → 0 ≤ k → k + 1 < length rows →
    is_lt (ordering_then (nat_cmp (get_or rows (k + 1) d).commodity (get_or rows k d).commodity) (ordering_then (slice_cmp nat_cmp (get_or rows (k + 1) d).path.now (get_or rows k d).path.now) (nat_cmp (get_or rows (k + 1) d).row (get_or rows k d).row))) ≡ false

neighbours : (rows : List Row) (a b : OrderedRow) → IsOrderedRow rows a → IsOrderedRow rows b → is_lt (ordering_then (nat_cmp a.commodity b.commodity) (ordering_then (slice_cmp nat_cmp a.path.now b.path.now) (nat_cmp a.row b.row))) ≡ false
    → row_lt (row_at rows a.row) (row_at rows b.row) ≡ false
neighbours rows a b p q h =
    let plain = not_less (nat_lt a.commodity b.commodity) (a.commodity == b.commodity) (list_lt a.path.now b.path.now) (slice_cmp nat_cmp a.path.now b.path.now) (nat_cmp a.row b.row) (list_lt-is a.path.now b.path.now) h in
    rw (← p.commodity, ← q.commodity, ← p.path, ← q.path) plain

ascending_from : (rows : List Row) (after : List OrderedRow) → All (IsOrderedRow rows) after → AreInOrder after → (i : ℕ) → i + 1 < length (numbers_of after) → row_lt (row_at rows (get_or (numbers_of after) (i + 1) 0)) (row_at rows (get_or (numbers_of after) i 0)) ≡ false
ascending_from rows [] all sorted i l = absurd (omega arith)
ascending_from rows (x ∷ xs) all sorted i l =
    let after = x ∷ xs in
    let long = length-map after (λ (r : OrderedRow). r.row) in
    let l1 : i + 1 < length after = omega (arith, long, l) in
    let l0 : i < length after = omega (arith, l1) in
    let a = get_or after (i + 1) x in
    let b = get_or after i x in
    let ea : get_or (numbers_of after) (i + 1) 0 ≡ a.row = get_or-map (λ (r : OrderedRow). r.row) after (i + 1) x 0 l1 in
    let eb : get_or (numbers_of after) i 0 ≡ b.row = get_or-map (λ (r : OrderedRow). r.row) after i x 0 l0 in
    let pa = All-get_or (IsOrderedRow rows) after (i + 1) x l1 all in
    let pb = All-get_or (IsOrderedRow rows) after i x l0 all in
    let h = neighbours rows a b pa pb (sorted i x (omega arith) l1) in
    ap (λ n. row_lt (row_at rows n) (row_at rows (get_or (numbers_of after) i 0))) ea ∙ ap (λ n. row_lt (row_at rows a.row) (row_at rows n)) eb ∙ h

pub order_from : (rows : List Row) (before after : List OrderedRow) → numbers_of before ≡ range_with_len 0 (length rows) → All (IsOrderedRow rows) before → IsPermutation before after → AreInOrder after → IsOrderOf rows (numbers_of after)
order_from rows before after are all moved sorted =
    let f : OrderedRow → ℕ = λ r. r.row in
    let long : length (numbers_of after) ≡ length rows =
    length-map after f ∙ length_permutation before after moved ∙ sym (length-map before f) ∙ ap (λ (t : List ℕ). length t) are ∙ length-range_with_len 0 (length rows) in
    record {
      count = long;
      all = rw long (subst (λ (t : List ℕ). IsPermutation t (numbers_of after)) are (IsPermutation-map f before after moved));
      ascending = ascending_from rows after (All-permutation (IsOrderedRow rows) before after moved all) sorted;
    }

range_push : (a n : ℕ) → range_with_len a (suc n) ≡ range_with_len a n ++ (a + n) ∷ []
range_push a zero = let e : a ≡ a + 0 = omega arith in ap (λ k. k ∷ []) e
range_push a (suc n) = let e : (a + 1) + n ≡ a + suc n = omega arith in
    let step = range_push (a + 1) n in
    ap (λ (t : List ℕ). a ∷ t) (step ∙ ap (λ k. range_with_len (a + 1) n ++ k ∷ []) e)

-- the rows taken in the order of their numbers, and one more
pub numbered_more : (items : List OrderedRow) (r : OrderedRow) (n : ℕ) → numbers_of items ≡ range_with_len 0 n → r.row ≡ n → numbers_of (items ++ r ∷ []) ≡ range_with_len 0 (n + 1)
numbered_more items r n are is =
    map-append (λ (r : OrderedRow). r.row) items (r ∷ []) ∙ ap (λ (t : List ℕ). t ++ r.row ∷ []) are ∙ ap (λ k. range_with_len 0 n ++ k ∷ []) (is ∙ omega arith) ∙ sym (range_push 0 n) ∙ ap (range_with_len 0) (sym (add-one n))
