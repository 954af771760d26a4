-- The fullest cell is the first of those with a load at which capacity over load is least.
use Rattle.std.proofs.Common.{◌≡◌, ℕ, suc, ◌+◌, ◌*◌, ◌<◌, ◌≤◌, Bool, true, false, eqb, nat_lt, not, cond, List, [], ◌∷◌, length, get_or, map, refl, sym, ap, ◌∙◌, arith}
use Rattle.std.specs.Prelude.{All, filter}
use Rattle.std.specs.List.{range_with_len}
use Rattle.std.proofs.lemmas.Bool.{eq-eqb}
use Rattle.std.proofs.lemmas.Bool.Decides.{nat_tests}
use Rattle.std.proofs.lemmas.List.Elements.{All-head, All-tail, All-weaker, filter_passes}
use Rattle.flow_model.specs.declared.net.Cell.{Cell}
use Rattle.gap_fraction.specs.Fraction.{Fraction}
use Rattle.flow_paths.specs.Evaluation.{fill, fraction_le}
use Rattle.flow_paths.specs.Least.{least_by}
use Rattle.flow_paths.specs.Fullest.{loaded_cells, ratio_at, IsFirstFullest}
use Rattle.flow_paths.proofs.FillLimits.{fill-positive}
use Rattle.flow_paths.proofs.Least.{of-le, least-first}

abbrev no_ratio : Fraction
no_ratio = record { num = 1; den = 0 }

own : Fraction → Fraction
own f = f

-- capacity over load of each cell with a load
ratios : List Cell → List ℕ → List Fraction
ratios [] loads = []
ratios (x ∷ xs) [] = []
ratios (x ∷ xs) (y ∷ ys) = cond (eqb y 0) (ratios xs ys) (record { num = x.cap; den = y } ∷ ratios xs ys)

least-cons : (f : Fraction) (fs : List Fraction) → cond (fraction_le f (least_by own no_ratio fs)) f (least_by own no_ratio fs) ≡ least_by own no_ratio (f ∷ fs)
unfolding own
least-cons f [] = let t : fraction_le f no_ratio ≡ true = of-le (f.num * 0) (1 * f.den) (omega arith) in rw t refl
least-cons f (g ∷ fs) = refl

fill-least : (cells : List Cell) (loads : List ℕ) → fill cells loads ≡ least_by own no_ratio (ratios cells loads)
unfolding ratios
fill-least [] loads = refl
fill-least (x ∷ xs) [] = refl
fill-least (x ∷ xs) (y ∷ ys) = by_test (eqb y 0) (fill-least xs ys)
  where
    here : Fraction
    here = record { num = x.cap; den = y }

    by_test : (t : Bool) → fill xs ys ≡ least_by own no_ratio (ratios xs ys)
        → cond t (fill xs ys) (cond (fraction_le here (fill xs ys)) here (fill xs ys)) ≡ least_by own no_ratio (cond t (ratios xs ys) (here ∷ ratios xs ys))
    by_test true rest = rest
    by_test false rest = ap (λ (f : Fraction). cond (fraction_le here f) here f) rest ∙ least-cons here (ratios xs ys)

least-map : {X : Type 0} (value : X → Fraction) (none : X) (x : X) (xs : List X) → least_by own no_ratio (map value (x ∷ xs)) ≡ value (least_by value none (x ∷ xs))
unfolding own
least-map {X = X} value none x [] = refl
least-map {X = X} value none x (y ∷ ys) =
    ap (λ (f : Fraction). cond (fraction_le (value x) f) (value x) f) (least-map value none y ys) ∙ by_test (fraction_le (value x) (value (least_by value none (y ∷ ys))))
  where
    by_test : (t : Bool) → cond t (value x) (value (least_by value none (y ∷ ys))) ≡ value (cond t x (least_by value none (y ∷ ys)))
    by_test true = refl
    by_test false = refl

flips : (n : ℕ) → nat_lt 0 n ≡ not (eqb n 0)
flips n = grind (arith, nat_tests)

-- the values of the numbers from a on that pass are the ratios
ratios-are : (value : ℕ → Fraction) (test : ℕ → Bool) (a : ℕ) (cells : List Cell) (loads : List ℕ) → length loads ≡ length cells
    → ((i : ℕ) → i < length loads → test (a + i) ≡ nat_lt 0 (get_or loads i 0))
    → ((i : ℕ) → i < length loads → value (a + i) ≡ record { num = get_or (map (λ (cell : Cell). cell.cap) cells) i 0; den = get_or loads i 0 })
    → map value (filter test (range_with_len a (length loads))) ≡ ratios cells loads
unfolding ratios
ratios-are value test a [] [] e ts vs = refl
ratios-are value test a [] (y ∷ ys) e ts vs = absurd (omega arith)
ratios-are value test a (x ∷ xs) [] e ts vs = absurd (omega arith)
ratios-are value test a (x ∷ xs) (y ∷ ys) e ts vs =
    let start : a ≡ a + 0 = omega arith in
    let next : (i : ℕ) → (a + 1) + i ≡ a + suc i = λ i. omega arith in
    let rest = ratios-are value test (a + 1) xs ys (omega arith) (λ i l. ap test (next i) ∙ ts (suc i) (omega arith)) (λ i l. ap value (next i) ∙ vs (suc i) (omega arith)) in
    by_test (eqb y 0) (ap test start ∙ ts 0 (omega arith) ∙ flips y) (ap value start ∙ vs 0 (omega arith)) rest
  where
    passed : List ℕ
    passed = filter test (range_with_len (a + 1) (length ys))

    here : Fraction
    here = record { num = x.cap; den = y }

    by_test : (t : Bool) → test a ≡ not t → value a ≡ here → map value passed ≡ ratios xs ys → map value (cond (test a) (a ∷ passed) passed) ≡ cond t (ratios xs ys) (here ∷ ratios xs ys)
    by_test true t v rest = rw t rest
    by_test false t v rest = rw t (ap (λ (f : Fraction). f ∷ map value passed) v ∙ ap (λ (fs : List Fraction). here ∷ fs) rest)

some-lt : (n : ℕ) → nat_lt 0 n ≡ true → 1 ≤ n
some-lt n e = grind (arith, nat_tests)

pub first-fullest : (cells : List Cell) (loads : List ℕ) (c : ℕ) → length loads ≡ length cells → c < length cells → 1 ≤ get_or loads c 0 → IsFirstFullest cells loads (fill cells loads)
first-fullest cells loads c e inside some = by_list (loaded_cells loads) refl
  where
    value : ℕ → Fraction
    value = ratio_at cells loads

    passes : ℕ → Bool
    passes c = nat_lt 0 (get_or loads c 0)

    same : (i : ℕ) → i ≡ 0 + i
    same i = omega arith

    are : map value (loaded_cells loads) ≡ ratios cells loads
    are = ratios-are value passes 0 cells loads e (λ i l. ap passes (sym (same i))) (λ i l. ap value (sym (same i)))

    divides : All (λ n. 1 ≤ (value n).den) (loaded_cells loads)
    divides = All-weaker (λ n. passes n ≡ true) (λ n. 1 ≤ (value n).den) (λ n t. some-lt (get_or loads n 0) t) (loaded_cells loads) (filter_passes passes (range_with_len 0 (length loads)))

    by_list : (ns : List ℕ) → loaded_cells loads ≡ ns → IsFirstFullest cells loads (fill cells loads)
    by_list [] z =
        let none : fill cells loads ≡ no_ratio = fill-least cells loads ∙ ap (least_by own no_ratio) (sym are ∙ ap (map value) z) in
        let zero : (fill cells loads).den ≡ 0 = ap (λ (f : Fraction). f.den) none in
        let positive = fill-positive cells loads c e inside some in
        absurd (omega arith)
    by_list (n ∷ ns) z = record {
      cell = least_by value 0 (loaded_cells loads);
      first = least-first value 0 (loaded_cells loads) (let long : length (loaded_cells loads) ≡ length (n ∷ ns) = ap (λ (xs : List ℕ). length xs) z in omega arith) divides;
      value = fill-least cells loads ∙ ap (least_by own no_ratio) (sym are ∙ ap (map value) z) ∙ least-map value 0 n ns ∙ ap (λ (xs : List ℕ). value (least_by value 0 xs)) (sym z);
    }

pub none-loaded : (cells : List Cell) (loads : List ℕ) → All (λ (n : ℕ). n ≡ 0) loads → fill cells loads ≡ record { num = 1; den = 0 }
none-loaded [] loads h = refl
none-loaded (x ∷ xs) [] h = refl
none-loaded (x ∷ xs) (y ∷ ys) h = rw (eq-eqb y 0 (All-head (λ (n : ℕ). n ≡ 0) y ys h)) (none-loaded xs ys (All-tail (λ (n : ℕ). n ≡ 0) y ys h))
