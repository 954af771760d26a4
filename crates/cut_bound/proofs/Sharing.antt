-- The first of the least cuts of a row is as good as all of them, and so are those of all rows.
use Rattle.std.proofs.Common.{◌≡◌, ℕ, zero, suc, ◌+◌, ◌<◌, ◌≤◌, Bool, true, false, cond, ltb, List, [], ◌∷◌, ◌++◌, Option, None, Some, length, get_or, map, take, refl, sym, ap, subst, ◌∙◌, arith}
use Rattle.std.specs.Prelude.{IfSome, OnOk, Result, Ok, Err}
use Rattle.std.specs.List.{fold}
use Rattle.std.proofs.lemmas.Bool.Decides.{nat_tests}
use Rattle.std.proofs.lemmas.List.{get_or-map, length-map, map_push, take_all, take_more}
use Rattle.std.proofs.lemmas.List.Sums.{fold-append}
use Rattle.flow_model.specs.declared.net.Cell.{Cell}
use Rattle.flow_paths.specs.DualRows.{DualRows}
use Rattle.flow_paths.specs.Evaluation.{fraction_le}
use Rattle.cut_bound.specs.declared.choice.Best.{Best}
use Rattle.cut_bound.specs.declared.choice.Choice.TheVariants.{Cut as ByCut}
use Rattle.cut_bound.specs.declared.choice.RowPlace.{RowPlace}
use Rattle.cut_bound.specs.declared.choice.SummedCut.{SummedCut}
use Rattle.cut_bound.specs.declared.fronts.RowLeast.{RowLeast}
use Rattle.cut_bound.specs.Search.{kept, level_cut, row_at, value_of, Went}
use Rattle.cut_bound.specs.Slots.{kept_least, kept_some, least_and, least_of, least_with, lesser, place_in, AreConsidered, IsCrossed, IsFilled, IsLeastFront}
use Rattle.cut_bound.proofs.Choosing.{went-more, went-none}
use Rattle.cut_bound.proofs.Leasts.{pick, pick-assoc, fraction-le, fraction-gt}

-- ---- the cuts of one row

best-of : SummedCut → Best
best-of cut = record { value = value_of cut; choice = ByCut cut.place }

not-above : Best → Best → Bool
not-above x y = fraction_le x.value y.value

-- a cut that some commodity crosses
kept-is : (b : Best) (c : SummedCut) → ltb 0 c.crossing ≡ true → kept b c ≡ pick not-above b (best-of c)
unfolding pick not-above best-of
kept-is b c t = rw t refl

best-of-lesser : (c d : SummedCut) → best-of (lesser c d) ≡ pick not-above (best-of c) (best-of d)
unfolding pick not-above best-of
best-of-lesser c d = by_test (fraction_le (value_of c) (value_of d))
  where
    by_test : (t : Bool) → best-of (cond t c d) ≡ cond t (best-of c) (best-of d)
    by_test true = refl
    by_test false = refl

below-of : (n : ℕ) → ltb 0 n ≡ true → 0 < n
below-of n t = grind (arith, nat_tests)

of-below : (n : ℕ) → 0 < n → ltb 0 n ≡ true
of-below n l = grind (arith, nat_tests)

lesser-crossed : (c d : SummedCut) → IsCrossed c → IsCrossed d → IsCrossed (lesser c d)
lesser-crossed c d x y = by_test (fraction_le (value_of c) (value_of d))
  where
    by_test : (t : Bool) → IsCrossed (cond t c d)
    by_test true = x
    by_test false = y

-- the lesser of two is as good as both
two-kept : (b : Best) (c d : SummedCut) → IsCrossed c → IsCrossed d → kept b (lesser c d) ≡ kept (kept b c) d
unfolding not-above best-of
two-kept b c d x y =
    kept-is b (lesser c d) (of-below (lesser c d).crossing (lesser-crossed c d x y))
    ∙ (ap (pick not-above b) (best-of-lesser c d)
    ∙ (pick-assoc not-above b (best-of c) (best-of d)
    (λ p q. fraction-le b.value (value_of c) (value_of d) x p q)
    (λ q p. fraction-gt b.value (value_of c) (value_of d) y q p)
    ∙ (ap (λ (k : Best). pick not-above k (best-of d)) (sym (kept-is b c (of-below c.crossing x)))
    ∙ sym (kept-is (kept b c) d (of-below d.crossing y)))))

with-crossed : (least : Option SummedCut) (cut : SummedCut) → IfSome least IsCrossed → IfSome (least_with least cut) IsCrossed
with-crossed least cut h = by_test least h (ltb 0 cut.crossing) refl
  where
    by_test : (o : Option SummedCut) → IfSome o IsCrossed → (t : Bool) → ltb 0 cut.crossing ≡ t → IfSome (cond t (Some (least_and o cut)) o) IsCrossed
    by_test o h false e = h
    by_test None h true e = below-of cut.crossing e
    by_test (Some c) h true e = lesser-crossed c cut h (below-of cut.crossing e)

-- one cut more
more-kept : (b : Best) (least : Option SummedCut) (cut : SummedCut) → IfSome least IsCrossed → kept_some b (least_with least cut) ≡ kept (kept_some b least) cut
more-kept b least cut h = by_test least h (ltb 0 cut.crossing) refl
  where
    by_test : (o : Option SummedCut) → IfSome o IsCrossed → (t : Bool) → ltb 0 cut.crossing ≡ t → kept_some b (cond t (Some (least_and o cut)) o) ≡ kept (kept_some b o) cut
    by_test o h false e = rw e refl
    by_test None h true e = refl
    by_test (Some c) h true e = two-kept b c cut h (below-of cut.crossing e)

all-kept : (b : Best) (least : Option SummedCut) (cuts : List SummedCut) → IfSome least IsCrossed → kept_some b (fold least_with least cuts) ≡ fold kept (kept_some b least) cuts
all-kept b least [] h = refl
all-kept b least (c ∷ cs) h = all-kept b (least_with least c) cs (with-crossed least c h) ∙ ap (λ (k : Best). fold kept k cs) (more-kept b least c h)

-- the first of the least of several cuts is as good as all of them
pub least-kept : (b : Best) (cuts : List SummedCut) → kept_some b (least_of cuts) ≡ fold kept b cuts
least-kept b cuts = all-kept b None cuts tt

-- ---- the rows

-- the least front of one row more
row-more : (cells demands : List Cell) (own : List DualRows) (rows : List RowPlace) (i : ℕ) (old now : Best) (least : RowLeast) → i < length rows → IsLeastFront cells demands own (place_in rows i) least
    → Went cells demands own (take i rows) old now → Went cells demands own (take (i + 1) rows) old (kept_least now least)
row-more cells demands own rows i old now least l is w =
    let row = place_in rows i in
    let cuts : List SummedCut = map (level_cut cells demands row (row_at own row).values) is.levels in
    went-more cells demands own rows i old now (kept_least now least) cuts row (record { dual = 0; row = 0 }) is.levels (row_at own row).values l refl refl is.are_levels refl
    (ap (kept_some now) is.cut ∙ least-kept now cuts) w

rows-up-to : (cells demands : List Cell) (own : List DualRows) (rows : List RowPlace) (leasts : List RowLeast) (old : Best) (i : ℕ) → i ≤ length rows → length leasts ≡ length rows
    → ((k : ℕ) (d : RowLeast) → k < length rows → IsLeastFront cells demands own (place_in rows k) (get_or leasts k d))
    → Went cells demands own (take i rows) old (fold kept_least old (take i leasts))
rows-up-to cells demands own rows leasts old zero l same h = went-none cells demands own old
rows-up-to cells demands own rows leasts old (suc i) l same h =
    let d : RowLeast = record { cut = None } in
    let rest = rows-up-to cells demands own rows leasts old i (omega arith) same h in
    let more = row-more cells demands own rows i old (fold kept_least old (take i leasts)) (get_or leasts i d) (omega arith) (h i d (omega arith)) rest in
    let is : fold kept_least old (take (i + 1) leasts) ≡ kept_least (fold kept_least old (take i leasts)) (get_or leasts i d)
    = ap (fold kept_least old) (take_more leasts i d (omega arith)) ∙ fold-append kept_least old (take i leasts) (get_or leasts i d ∷ []) in
    subst (λ (n : ℕ). Went cells demands own (take n rows) old (fold kept_least old (take n leasts))) (next i)
    (subst (λ (b : Best). Went cells demands own (take (i + 1) rows) old b) (sym is) more)
  where
    next : (n : ℕ) → n + 1 ≡ suc n
    next n = omega arith

-- one slot more was considered
pub considered-more : (slots : List (Option RowLeast)) (i : ℕ) (least : RowLeast) (d : Option RowLeast) (old now new : Best) → i < length slots → get_or slots i d ≡ Some least → new ≡ kept_some now least.cut
    → AreConsidered (take i slots) old now → AreConsidered (take (i + 1) slots) old new
considered-more slots i least d old now new l at is c = record {
  leasts = c.leasts ++ least ∷ [];
  are_all = map_push Some c.leasts least
      ∙ (ap (λ (xs : List (Option RowLeast)). xs ++ Some least ∷ []) c.are_all ∙ (ap (λ (s : Option RowLeast). take i slots ++ s ∷ []) (sym at) ∙ sym (take_more slots i d l)));
  new_is = is ∙ (ap (λ (b : Best). kept_some b least.cut) c.new_is ∙ sym (fold-append kept_least old c.leasts (least ∷ [])));
}

-- those of all rows
pub rows-went : (cells demands : List Cell) (own : List DualRows) (rows : List RowPlace) (slots : List (Option RowLeast)) (old new : Best) → length slots ≡ length rows
    → ((i : ℕ) → i < length slots → IsFilled cells demands own rows i (get_or slots i None)) → AreConsidered slots old new → Went cells demands own rows old new
rows-went cells demands own rows slots old new same h c =
    let count : length c.leasts ≡ length rows = sym (length-map c.leasts Some) ∙ (ap length c.are_all ∙ same) in
    let whole = rows-up-to cells demands own rows c.leasts old (length rows) (omega arith) count at in
    let is : fold kept_least old (take (length rows) c.leasts) ≡ new = ap (fold kept_least old) (take_all (length rows) c.leasts (omega arith)) ∙ sym c.new_is in
    subst (λ (rs : List RowPlace). Went cells demands own rs old new) (take_all (length rows) rows (omega arith))
    (subst (λ (b : Best). Went cells demands own (take (length rows) rows) old b) is whole)
  where
    at : (k : ℕ) (d : RowLeast) → k < length rows → IsLeastFront cells demands own (place_in rows k) (get_or c.leasts k d)
    at k d l =
        let slot : get_or slots k None ≡ Some (get_or c.leasts k d)
        = ap (λ (xs : List (Option RowLeast)). get_or xs k None) (sym c.are_all) ∙ get_or-map Some c.leasts k d None (omega (arith, length-map c.leasts Some, ap length c.are_all)) in
        subst (λ (s : Option RowLeast). IfSome s (IsLeastFront cells demands own (place_in rows k))) slot (h k (omega arith)).least

-- what follows where it is done
pub on-ok : {X E : Type 0} (r : Result X E) (P Q : Type 0) → (P → Q) → OnOk r P → OnOk r Q
on-ok (Ok x) P Q f h = f h
on-ok (Err e) P Q f h = tt
