-- The fullest cell where some cell has a load.
use Rattle.std.proofs.Common.{◌≡◌, ℕ, zero, suc, ◌*◌, ◌<◌, ◌≤◌, Bool, true, false, nat_eq, nat_le, cond, List, [], ◌∷◌, length, get_or, refl, arith}
use Rattle.std.specs.Prelude.{All}
use Rattle.std.proofs.lemmas.Bool.Decides.{nat_tests}
use Rattle.flow_model.specs.declared.net.Cell.{Cell}
use Rattle.gap_fraction.specs.Fraction.{Fraction}
use Rattle.flow_paths.specs.Evaluation.{fill, fraction_le}

by-cases : (P : Fraction → Type 0) (x y : Fraction) (none less : Bool) → (none ≡ false → less ≡ true → P x) → (none ≡ true → P y) → (none ≡ false → less ≡ false → P y) → P (cond none y (cond less x y))
by-cases P x y true less a b c = b refl
by-cases P x y false true a b c = a refl refl
by-cases P x y false false a b c = c refl refl

nonzero : (n : ℕ) → nat_eq n 0 ≡ false → 1 ≤ n
nonzero n e = grind (arith, nat_tests)

is-zero : (n : ℕ) → nat_eq n 0 ≡ true → n ≡ 0
is-zero n e = grind (arith, nat_tests)

-- nothing is above 1/0
den-of : (a b c n : ℕ) → nat_le (a * n) (b * c) ≡ false → 1 ≤ n
den-of a b c zero e = let l : b * c < a * 0 = grind (arith, nat_tests) in absurd (omega arith)
den-of a b c (suc n) e = omega arith

-- where some cell has a load, the fullest cell's is positive
pub fill-positive : (cells : List Cell) (loads : List ℕ) (c : ℕ) → length loads ≡ length cells → c < length cells → 1 ≤ get_or loads c 0 → 1 ≤ (fill cells loads).den
fill-positive [] loads c same inside some = absurd (omega arith)
fill-positive (x ∷ xs) [] c same inside some = absurd (omega arith)
fill-positive (x ∷ xs) (y ∷ ys) zero same inside some =
    let here : Fraction = record { num = x.cap; den = y } in
    by-cases (λ (f : Fraction). 1 ≤ f.den) here (fill xs ys) (nat_eq y 0) (fraction_le here (fill xs ys))
    (λ n l. some) (λ z. let e = is-zero y z in absurd (omega arith)) (λ n l. den-of x.cap (fill xs ys).num y (fill xs ys).den l)
fill-positive (x ∷ xs) (y ∷ ys) (suc c) same inside some =
    let here : Fraction = record { num = x.cap; den = y } in
    by-cases (λ (f : Fraction). 1 ≤ f.den) here (fill xs ys) (nat_eq y 0) (fraction_le here (fill xs ys))
    (λ n l. nonzero y n) (λ z. fill-positive xs ys c (omega arith) (omega arith) some) (λ n l. den-of x.cap (fill xs ys).num y (fill xs ys).den l)

-- its capacity is within the limit of the cells'
pub fill-cap : (m : ℕ) (cells : List Cell) (loads : List ℕ) → 1 ≤ m → All (λ (x : Cell). x.cap ≤ m) cells → (fill cells loads).num ≤ m
fill-cap m [] loads some h = some
fill-cap m (x ∷ xs) [] some h = some
fill-cap m (x ∷ xs) (y ∷ ys) some h =
    let here : Fraction = record { num = x.cap; den = y } in
    let rest = fill-cap m xs ys some (λ j d l. h (suc j) d (omega arith)) in
    by-cases (λ (f : Fraction). f.num ≤ m) here (fill xs ys) (nat_eq y 0) (fraction_le here (fill xs ys)) (λ n l. h 0 x (omega arith)) (λ z. rest) (λ n l. rest)

-- its load is within that of the loads
pub fill-load : (m : ℕ) (cells : List Cell) (loads : List ℕ) → All (λ (x : ℕ). x ≤ m) loads → (fill cells loads).den ≤ m
fill-load m [] loads h = omega arith
fill-load m (x ∷ xs) [] h = omega arith
fill-load m (x ∷ xs) (y ∷ ys) h =
    let here : Fraction = record { num = x.cap; den = y } in
    let rest = fill-load m xs ys (λ j d l. h (suc j) d (omega arith)) in
    by-cases (λ (f : Fraction). f.den ≤ m) here (fill xs ys) (nat_eq y 0) (fraction_le here (fill xs ys)) (λ n l. h 0 0 (omega arith)) (λ z. rest) (λ n l. rest)
