-- The first of the least, and one item more.
use Rattle.std.proofs.Common.{◌≡◌, ℕ, zero, suc, ◌*◌, ◌<◌, ◌≤◌, Bool, true, false, nat_le, cond, List, [], ◌∷◌, ◌++◌, length, get_or, refl, sym, ap, ◌∙◌, arith}
use Rattle.std.specs.Prelude.{All, Some, slice_get}
use Rattle.std.proofs.lemmas.Option.{same_Some}
use Rattle.std.proofs.Math.Nat.{mul_right_comm, mul-le-mul_right, le_of_mul-le-mul_right}
use Rattle.std.proofs.lemmas.Bool.Decides.{nat_tests}
use Rattle.gap_fraction.specs.Fraction.{Fraction, FractionLe}
use Rattle.flow_paths.specs.Evaluation.{fraction_le}
use Rattle.flow_paths.specs.Least.{least_by, IsFirstLeast}

-- the order of fractions

le-of : (a b : ℕ) → nat_le a b ≡ true → a ≤ b
le-of a b e = grind (arith, nat_tests)

of-le : (a b : ℕ) → a ≤ b → nat_le a b ≡ true
of-le a b h = grind (arith, nat_tests)

gt-of : (a b : ℕ) → nat_le a b ≡ false → b < a
gt-of a b e = grind (arith, nat_tests)

products-le : (a b c d e f : ℕ) → 0 < d → a * d ≤ c * b → c * f ≤ e * d → a * f ≤ e * b
products-le a b c d e f some x y =
    let p : a * d * f ≤ c * b * f = mul-le-mul_right f x in
    let q : c * f * b ≤ e * d * b = mul-le-mul_right b y in
    let l : a * f * d ≡ a * d * f = mul_right_comm a f d in
    let m : c * b * f ≡ c * f * b = mul_right_comm c b f in
    let r : e * d * b ≡ e * b * d = mul_right_comm e d b in
    le_of_mul-le-mul_right {m = a * f} {n = e * b} {k = d} (omega arith) some

pub le-trans : (x y z : Fraction) → 1 ≤ y.den → FractionLe x y → FractionLe y z → FractionLe x z
le-trans x y z some a b = products-le x.num x.den y.num y.den z.num z.den some a b

pub test-le : (x y : Fraction) → fraction_le x y ≡ true → FractionLe x y
test-le x y e = le-of (x.num * y.den) (y.num * x.den) e

pub le-test : (x y : Fraction) → FractionLe x y → fraction_le x y ≡ true
le-test x y h = of-le (x.num * y.den) (y.num * x.den) h

pub test-gt : (x y : Fraction) → fraction_le x y ≡ false → FractionLe y x
test-gt x y e = let l = gt-of (x.num * y.den) (y.num * x.den) e in omega arith

pub fraction-le : (x y z : Fraction) → 1 ≤ y.den → fraction_le x y ≡ true → fraction_le y z ≡ true → fraction_le x z ≡ true
fraction-le x y z some a b = le-test x z (le-trans x y z some (test-le x y a) (test-le y z b))

pub fraction-gt : (x y z : Fraction) → 1 ≤ z.den → fraction_le y z ≡ false → fraction_le x y ≡ false → fraction_le x z ≡ false
fraction-gt x y z some a b = by_test (fraction_le x z) refl
  where
    by_test : (t : Bool) → fraction_le x z ≡ t → fraction_le x z ≡ false
    by_test false e = e
    by_test true e = let c : true ≡ false = sym (fraction-le x z y some e (le-test z y (test-gt y z a))) ∙ b in cc

-- the first where it is at most the second

unfoldable pub pick : {X : Type 0} → (X → X → Bool) → X → X → X
pick le x y = cond (le x y) x y

pub pick-assoc : {X : Type 0} (le : X → X → Bool) (x y z : X) → (le x y ≡ true → le y z ≡ true → le x z ≡ true) → (le y z ≡ false → le x y ≡ false → le x z ≡ false) → pick le x (pick le y z) ≡ pick le (pick le x y) z
unfolding pick
pick-assoc {X = X} le x y z up down = by_tests (le x y) (le y z) refl refl
  where
    by_tests : (a b : Bool) → le x y ≡ a → le y z ≡ b → cond (le x (cond b y z)) x (cond b y z) ≡ cond (le (cond a x y) z) (cond a x y) z
    by_tests true true a b = rw (a, up a b) refl
    by_tests true false a b = refl
    by_tests false true a b = rw (a, b) refl
    by_tests false false a b = rw (down b a, b) refl

module _ {X : Type 0} (value : X → Fraction) (none : X) where
  -- the first of the least is one of them
  pub least-one : (P : X → Type 0) (d : X) (ds : List X) → All P (d ∷ ds) → P (least_by value none (d ∷ ds))
  least-one P d [] h = h 0 d (omega arith)
  least-one P d (e ∷ ds) h = by_test (fraction_le (value d) (value (least_by value none (e ∷ ds)))) (least-one P e ds (λ j x l. h (suc j) x (omega arith)))
    where
      by_test : (t : Bool) → P (least_by value none (e ∷ ds)) → P (cond t d (least_by value none (e ∷ ds)))
      by_test true rest = h 0 d (omega arith)
      by_test false rest = rest

  le_in : X → X → Bool
  le_in x y = fraction_le (value x) (value y)

  -- of one item more: the least so far, where the new one is not below it
  least-more : (d : X) (ds : List X) (new : X) → All (λ x. 1 ≤ (value x).den) (d ∷ ds) → 1 ≤ (value new).den
      → least_by value none ((d ∷ ds) ++ new ∷ []) ≡ cond (fraction_le (value (least_by value none (d ∷ ds))) (value new)) (least_by value none (d ∷ ds)) new
  unfolding pick le_in
  least-more d [] new h some = refl
  least-more d (e ∷ ds) new h some =
      let rest : All (λ x. 1 ≤ (value x).den) (e ∷ ds) = λ j x l. h (suc j) x (omega arith) in
      let low : 1 ≤ (value (least_by value none (e ∷ ds))).den = least-one (λ x. 1 ≤ (value x).den) e ds rest in
      let tail = least-more e ds new rest some in
      ap (pick le_in d) tail
      ∙ pick-assoc le_in d (least_by value none (e ∷ ds)) new
      (λ a b. fraction-le (value d) (value (least_by value none (e ∷ ds))) (value new) low a b)
      (λ b a. fraction-gt (value d) (value (least_by value none (e ∷ ds))) (value new) some b a)

  pub least-push : (ds : List X) (new : X) → 1 ≤ length ds → All (λ x. 1 ≤ (value x).den) ds → 1 ≤ (value new).den
      → least_by value none (ds ++ new ∷ []) ≡ cond (fraction_le (value (least_by value none ds)) (value new)) (least_by value none ds) new
  least-push [] new some h fits = absurd (omega arith)
  least-push (d ∷ ds) new some h fits = least-more d ds new h fits

  -- none is below the least
  pub least-below : (xs : List X) → All (λ x. 1 ≤ (value x).den) xs → All (λ x. FractionLe (value (least_by value none xs)) (value x)) xs
  least-below [] h = λ i x l. absurd (omega arith)
  least-below (d ∷ []) h = λ i x l. one i x (omega arith)
    where
      one : (i : ℕ) (x : X) → i < 1 → FractionLe (value d) (value (get_or (d ∷ []) i x))
      one zero x l = omega arith
      one (suc i) x l = absurd (omega arith)
  least-below (d ∷ e ∷ ds) h =
      let rest : All (λ x. 1 ≤ (value x).den) (e ∷ ds) = λ j x l. h (suc j) x (omega arith) in
      let low : 1 ≤ (value (least_by value none (e ∷ ds))).den = least-one (λ x. 1 ≤ (value x).den) e ds rest in
      let below = least-below (e ∷ ds) rest in
      by_test (fraction_le (value d) (value (least_by value none (e ∷ ds)))) refl low below
    where
      by_test : (t : Bool) → fraction_le (value d) (value (least_by value none (e ∷ ds))) ≡ t → 1 ≤ (value (least_by value none (e ∷ ds))).den
          → All (λ x. FractionLe (value (least_by value none (e ∷ ds))) (value x)) (e ∷ ds)
          → All (λ x. FractionLe (value (cond t d (least_by value none (e ∷ ds)))) (value x)) (d ∷ e ∷ ds)
      by_test true is low below zero x l = omega arith
      by_test true is low below (suc i) x l = le-trans (value d) (value (least_by value none (e ∷ ds))) (value (get_or (e ∷ ds) i x)) low (test-le (value d) (value (least_by value none (e ∷ ds))) is) (below i x (omega arith))
      by_test false is low below zero x l = test-gt (value d) (value (least_by value none (e ∷ ds))) is
      by_test false is low below (suc i) x l = below i x (omega arith)

  -- the first of the least is what its name says
  pub least-first : (xs : List X) → 1 ≤ length xs → All (λ x. 1 ≤ (value x).den) xs → IsFirstLeast value xs (least_by value none xs)
  least-first [] some h = absurd (omega arith)
  least-first (d ∷ []) some h = record { place = 0; here = refl; least = least-below (d ∷ []) h; before = λ i y l. absurd (omega arith) }
  least-first (d ∷ e ∷ ds) some h =
      by_test (fraction_le (value d) (value (least_by value none (e ∷ ds)))) refl (least-first (e ∷ ds) (omega arith) (λ j x l. h (suc j) x (omega arith))) (least-below (d ∷ e ∷ ds) h)
    where
      above : fraction_le (value d) (value (least_by value none (e ∷ ds))) ≡ false → (y : X) → Some d ≡ Some y → FractionLe (value y) (value (least_by value none (e ∷ ds))) → ⊥
      above is y at le =
          let same : d ≡ y = same_Some d y at in
          let test : true ≡ false = sym (ap (λ (z : X). fraction_le (value z) (value (least_by value none (e ∷ ds)))) same ∙ le-test (value y) (value (least_by value none (e ∷ ds))) le) ∙ is in
          cc

      by_test : (t : Bool) → fraction_le (value d) (value (least_by value none (e ∷ ds))) ≡ t → IsFirstLeast value (e ∷ ds) (least_by value none (e ∷ ds))
          → All (λ x. FractionLe (value (cond t d (least_by value none (e ∷ ds)))) (value x)) (d ∷ e ∷ ds) → IsFirstLeast value (d ∷ e ∷ ds) (cond t d (least_by value none (e ∷ ds)))
      by_test true is rest all = record { place = 0; here = refl; least = all; before = λ i y l. absurd (omega arith) }
      by_test false is rest all = record { place = suc rest.place; here = rest.here; least = all; before = earlier }
        where
          earlier : (i : ℕ) (y : X) → i < suc rest.place → slice_get (d ∷ e ∷ ds) i ≡ Some y → FractionLe (value y) (value (least_by value none (e ∷ ds))) → ⊥
          earlier zero y l at = above is y at
          earlier (suc i) y l at = rest.before i y (omega arith) at
