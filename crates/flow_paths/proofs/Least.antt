-- Of several the first of the least value: what it is, and what it is with one item more.
use Rattle.std.proofs.Common.{◌≡◌, ℕ, zero, suc, ◌*◌, ◌<◌, ◌≤◌, Bool, true, false, nat_le, cond, List, [], ◌∷◌, ◌++◌, Some, length, refl, sym, ap, ◌∙◌, subst, arith}
use Rattle.std.specs.Prelude.{All, slice_get}
use Rattle.std.proofs.Math.Nat.{mul_right_comm, mul-le-mul_right, le_of_mul-le-mul_right}
use Rattle.std.proofs.lemmas.Bool.Decides.{nat_tests}
use Rattle.std.proofs.lemmas.List.Elements.{All-cons, All-nil, All-tail, All-weaker}
use Rattle.gap_fraction.specs.Fraction.{Fraction, FractionLe}
use Rattle.flow_paths.specs.Evaluation.{fraction_le}
use Rattle.flow_paths.specs.Least.{least_by, IsFirstLeast}

-- the order of fractions

le-of : (a b : ℕ) → nat_le a b ≡ true → a ≤ b
le-of a b e = grind (arith, nat_tests)

pub of-le : (a b : ℕ) → a ≤ b → nat_le a b ≡ true
of-le a b h = grind (arith, nat_tests)

gt-of : (a b : ℕ) → nat_le a b ≡ false → b < a
gt-of a b e = grind (arith, nat_tests)

products-le : (a b c d e f : ℕ) → 0 < d → a * d ≤ c * b → c * f ≤ e * d → a * f ≤ e * b
products-le a b c d e f some x y =
    let p : a * d * f ≤ c * b * f = mul-le-mul_right f x in
    let q : c * f * b ≤ e * d * b = mul-le-mul_right b y in
    let l : a * f * d ≡ a * d * f = mul_right_comm a f d in
    let m : c * b * f ≡ c * f * b = mul_right_comm c b f in
    let r : e * d * b ≡ e * b * d = mul_right_comm e d b in
    le_of_mul-le-mul_right {m = a * f} {n = e * b} {k = d} (omega arith) some

pub fraction-le : (x y z : Fraction) → 1 ≤ y.den → fraction_le x y ≡ true → fraction_le y z ≡ true → fraction_le x z ≡ true
fraction-le x y z some a b =
    of-le (x.num * z.den) (z.num * x.den)
    (products-le x.num x.den y.num y.den z.num z.den (omega arith) (le-of (x.num * y.den) (y.num * x.den) a) (le-of (y.num * z.den) (z.num * y.den) b))

pub fraction-turns : (x y : Fraction) → fraction_le x y ≡ false → fraction_le y x ≡ true
fraction-turns x y e = let l = gt-of (x.num * y.den) (y.num * x.den) e in of-le (y.num * x.den) (x.num * y.den) (omega arith)

fraction-gt : (x y z : Fraction) → 1 ≤ z.den → fraction_le y z ≡ false → fraction_le x y ≡ false → fraction_le x z ≡ false
fraction-gt x y z some a b = by_test (fraction_le x z) refl
  where
    by_test : (t : Bool) → fraction_le x z ≡ t → fraction_le x z ≡ false
    by_test false e = e
    by_test true e = let c : true ≡ false = sym (fraction-le x z y some e (fraction-turns y z a)) ∙ b in cc

-- the first where it is at most the second

pick : {X : Type 0} → (X → X → Bool) → X → X → X
pick le x y = cond (le x y) x y

pick-assoc : {X : Type 0} (le : X → X → Bool) (x y z : X) → (le x y ≡ true → le y z ≡ true → le x z ≡ true) → (le y z ≡ false → le x y ≡ false → le x z ≡ false) → pick le x (pick le y z) ≡ pick le (pick le x y) z
unfolding pick
pick-assoc {X = X} le x y z up down = by_tests (le x y) (le y z) refl refl
  where
    by_tests : (a b : Bool) → le x y ≡ a → le y z ≡ b → cond (le x (cond b y z)) x (cond b y z) ≡ cond (le (cond a x y) z) (cond a x y) z
    by_tests true true a b = rw (a, up a b) refl
    by_tests true false a b = refl
    by_tests false true a b = rw (a, b) refl
    by_tests false false a b = rw (down b a, b) refl

module _ {X : Type 0} (value : X → Fraction) (none : X) where
  -- no item divides by 0
  abbrev pub AllDivide : List X → Type 0
  AllDivide xs = All (λ x. 1 ≤ (value x).den) xs

  le_in : X → X → Bool
  le_in x y = fraction_le (value x) (value y)

  -- the first of the least is one of them
  pub least-one : (P : X → Type 0) (x : X) (xs : List X) → All P (x ∷ xs) → P (least_by value none (x ∷ xs))
  least-one P x [] h = h 0 x (omega arith)
  least-one P x (y ∷ ys) h = by_test (fraction_le (value x) (value (least_by value none (y ∷ ys)))) (least-one P y ys (All-tail P x (y ∷ ys) h))
    where
      by_test : (t : Bool) → P (least_by value none (y ∷ ys)) → P (cond t x (least_by value none (y ∷ ys)))
      by_test true rest = h 0 x (omega arith)
      by_test false rest = rest

  -- of one item more: the least so far, where the new one is not below it
  least-more : (x : X) (xs : List X) (new : X) → AllDivide (x ∷ xs) → 1 ≤ (value new).den
      → least_by value none ((x ∷ xs) ++ new ∷ []) ≡ cond (fraction_le (value (least_by value none (x ∷ xs))) (value new)) (least_by value none (x ∷ xs)) new
  unfolding pick le_in
  least-more x [] new h some = refl
  least-more x (y ∷ ys) new h some =
      let rest = All-tail (λ (x : X). 1 ≤ (value x).den) x (y ∷ ys) h in
      let low = least-one (λ (x : X). 1 ≤ (value x).den) y ys rest in
      let tail = least-more y ys new rest some in
      ap (pick le_in x) tail
      ∙ pick-assoc le_in x (least_by value none (y ∷ ys)) new
      (λ a b. fraction-le (value x) (value (least_by value none (y ∷ ys))) (value new) low a b)
      (λ b a. fraction-gt (value x) (value (least_by value none (y ∷ ys))) (value new) some b a)

  pub least-push : (xs : List X) (new : X) → 1 ≤ length xs → AllDivide xs → 1 ≤ (value new).den
      → least_by value none (xs ++ new ∷ []) ≡ cond (fraction_le (value (least_by value none xs)) (value new)) (least_by value none xs) new
  least-push [] new some h fits = absurd (omega arith)
  least-push (x ∷ xs) new some h fits = least-more x xs new h fits

  -- the first of the least is what its name says
  pub least-first : (xs : List X) → 1 ≤ length xs → AllDivide xs → IsFirstLeast value xs (least_by value none xs)
  least-first [] some h = absurd (omega arith)
  least-first (x ∷ []) some h = record {
    place = 0;
    here = refl;
    least = All-cons (λ y. FractionLe (value x) (value y)) x [] (omega arith) (All-nil (λ y. FractionLe (value x) (value y)));
    before = λ i y below at. absurd (omega arith);
  }
  least-first (x ∷ y ∷ ys) some h =
      let divides = All-tail (λ (x : X). 1 ≤ (value x).den) x (y ∷ ys) h in
      by_test (fraction_le (value x) (value (least_by value none (y ∷ ys)))) refl (least-one (λ (x : X). 1 ≤ (value x).den) y ys divides) (least-first (y ∷ ys) (omega arith) divides)
    where
      rest : X
      rest = least_by value none (y ∷ ys)

      up : fraction_le (value x) (value rest) ≡ true → 1 ≤ (value rest).den → (z : X) → FractionLe (value rest) (value z) → FractionLe (value x) (value z)
      up t low z l =
          products-le (value x).num (value x).den (value rest).num (value rest).den (value z).num (value z).den low
          (le-of ((value x).num * (value rest).den) ((value rest).num * (value x).den) t) l

      below : fraction_le (value x) (value rest) ≡ false → (value rest).num * (value x).den < (value x).num * (value rest).den
      below t = gt-of ((value x).num * (value rest).den) ((value rest).num * (value x).den) t

      earlier : fraction_le (value x) (value rest) ≡ false → (r : IsFirstLeast value (y ∷ ys) rest) → (i : ℕ) (z : X) → i < suc r.place → slice_get (x ∷ y ∷ ys) i ≡ Some z → ¬ (FractionLe (value z) (value rest))
      earlier t r zero z l at = let same : x ≡ z = cc in subst (λ (w : X). ¬ (FractionLe (value w) (value rest))) same (λ le. let far = below t in omega arith)
      earlier t r (suc i) z l at = r.before i z (omega arith) at

      by_test : (t : Bool) → fraction_le (value x) (value rest) ≡ t → 1 ≤ (value rest).den → IsFirstLeast value (y ∷ ys) rest → IsFirstLeast value (x ∷ y ∷ ys) (cond t x rest)
      by_test true t low r = record {
        place = 0;
        here = refl;
        least = All-cons (λ z. FractionLe (value x) (value z)) x (y ∷ ys) (omega arith) (All-weaker (λ z. FractionLe (value rest) (value z)) (λ z. FractionLe (value x) (value z)) (up t low) (y ∷ ys) r.least);
        before = λ i z l at. absurd (omega arith);
      }
      by_test false t low r = record {
        place = suc r.place;
        here = r.here;
        least = All-cons (λ z. FractionLe (value rest) (value z)) x (y ∷ ys) (let far = below t in omega arith) r.least;
        before = earlier t r;
      }
