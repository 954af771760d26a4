-- The fullest of two lists of cells, one after the other.
use Rattle.std.proofs.Common.{◌≡◌, ℕ, zero, suc, ◌+◌, ◌*◌, ◌<◌, ◌≤◌, Bool, true, false, nat_eq, nat_le, cond, List, [], ◌∷◌, ◌++◌, length, get_or, sym, ap, ◌∙◌, arith, refl}
use Rattle.std.specs.Prelude.{All}
use Rattle.std.proofs.lemmas.Bool.Decides.{nat_tests}
use Rattle.std.proofs.lemmas.List.{length-append, get_or-append-add}
use Rattle.std.proofs.lemmas.List.Elements.{All-append}
use Rattle.mcf_limits.specs.declared.TheConstants.{MAX_LENGTH, MAX_UNITS}
use Rattle.flow_model.specs.declared.net.Cell.{Cell}
use Rattle.flow_model.specs.Network.{Network}
use Rattle.gap_fraction.specs.Fraction.{Fraction}
use Rattle.flow_paths.specs.declared.fill.Fill.{Fill}
use Rattle.flow_paths.specs.Evaluation.{fill, fraction_le}
use Rattle.flow_paths.specs.Fullness.{IsFill, fullness}
use Rattle.flow_paths.proofs.Least.{of-le, fraction-le, fraction-turns}
use Rattle.flow_paths.proofs.FillLimits.{fill-positive, fill-cap, fill-load}
use Rattle.throughput.specs.declared.loaded.Loaded.{Loaded}
use Rattle.throughput.specs.Loaded.{HasLoaded, IsPrepared}
use Rattle.throughput.proofs.Loading.{cells-long, gates-long, cells-small, gates-small}

le-of : (a b : ℕ) → nat_le a b ≡ true → a ≤ b
le-of a b e = grind (arith, nat_tests)

gt-of : (a b : ℕ) → nat_le a b ≡ false → b < a
gt-of a b e = grind (arith, nat_tests)

nonzero : (n : ℕ) → nat_eq n 0 ≡ false → 1 ≤ n
nonzero n e = grind (arith, nat_tests)

-- without a load it is 1/0
pub fill-none : (cells : List Cell) (loads : List ℕ) → (fill cells loads).den ≡ 0 → fill cells loads ≡ record { num = 1; den = 0 }
fill-none [] loads e = refl
fill-none (x ∷ xs) [] e = refl
fill-none (x ∷ xs) (y ∷ ys) e = by_tests (fill-none xs ys) (nat_eq y 0) (fraction_le (record { num = x.cap; den = y }) (fill xs ys)) refl e
  where
    by_tests : ((fill xs ys).den ≡ 0 → fill xs ys ≡ record { num = 1; den = 0 }) → (none less : Bool) → nat_eq y 0 ≡ none → (cond none (fill xs ys) (cond less (record { num = x.cap; den = y }) (fill xs ys))).den ≡ 0
        → cond none (fill xs ys) (cond less (record { num = x.cap; den = y }) (fill xs ys)) ≡ record { num = 1; den = 0 }
    by_tests rest true less z h = rest h
    by_tests rest false true z h = let some = nonzero y z in absurd (omega arith)
    by_tests rest false false z h = rest h

-- the order goes through the fullest of some cells
up : (h : Fraction) (xs ys : List Cell) (l m : List ℕ) → fraction_le h (fill xs l) ≡ true → fraction_le (fill xs l) (fill ys m) ≡ true → fraction_le h (fill ys m) ≡ true
up h xs ys l m a b = by_den (fill xs l).den refl
  where
    by_den : (d : ℕ) → (fill xs l).den ≡ d → fraction_le h (fill ys m) ≡ true
    by_den zero e =
        let is = fill-none xs l e in
        let num : (fill xs l).num ≡ 1 = ap (λ (f : Fraction). f.num) is in
        let le = le-of ((fill xs l).num * (fill ys m).den) ((fill ys m).num * (fill xs l).den) b in
        let left : (fill xs l).num * (fill ys m).den ≡ 1 * (fill ys m).den = ap (λ (n : ℕ). n * (fill ys m).den) num in
        let right : (fill ys m).num * (fill xs l).den ≡ (fill ys m).num * 0 = ap (λ (n : ℕ). (fill ys m).num * n) e in
        let none : (fill ys m).den ≡ 0 = omega arith in
        let product : h.num * (fill ys m).den ≡ h.num * 0 = ap (λ (n : ℕ). h.num * n) none in
        of-le (h.num * (fill ys m).den) ((fill ys m).num * h.den) (omega arith)
    by_den (suc d) e = fraction-le h (fill xs l) (fill ys m) (omega arith) a b

some-den : (a b c n : ℕ) → nat_le (a * n) (b * c) ≡ false → 1 ≤ n
some-den a b c zero e = let l = gt-of (a * 0) (b * c) e in absurd (omega arith)
some-den a b c (suc n) e = omega arith

down : (h x y : Fraction) → fraction_le x y ≡ false → fraction_le h x ≡ false → fraction_le h y ≡ false
down h x y a b = by_test (fraction_le h y) refl
  where
    by_test : (t : Bool) → fraction_le h y ≡ t → fraction_le h y ≡ false
    by_test false e = e
    by_test true e = let c : true ≡ false = sym (fraction-le h y x (some-den x.num y.num x.den y.den a) e (fraction-turns x y a)) ∙ b in cc

pub fill-append : (xs ys : List Cell) (l m : List ℕ) → length l ≡ length xs → fill (xs ++ ys) (l ++ m) ≡ cond (fraction_le (fill xs l) (fill ys m)) (fill xs l) (fill ys m)
fill-append [] ys [] m e = by_test (fraction_le (record { num = 1; den = 0 }) (fill ys m)) refl
  where
    by_test : (t : Bool) → fraction_le (record { num = 1; den = 0 }) (fill ys m) ≡ t → fill ys m ≡ cond t (record { num = 1; den = 0 }) (fill ys m)
    by_test false t = refl
    by_test true t = fill-none ys m (let le = le-of (1 * (fill ys m).den) ((fill ys m).num * 0) t in omega arith)
fill-append [] ys (y ∷ l) m e = absurd (omega arith)
fill-append (x ∷ xs) ys [] m e = absurd (omega arith)
fill-append (x ∷ xs) ys (y ∷ l) m e = by_load (fill-append xs ys l m (omega arith)) (nat_eq y 0)
  where
    h : Fraction
    h = record { num = x.cap; den = y }

    by_tests : (a b : Bool) → fraction_le h (fill xs l) ≡ a → fraction_le (fill xs l) (fill ys m) ≡ b
        → cond (fraction_le h (cond b (fill xs l) (fill ys m))) h (cond b (fill xs l) (fill ys m)) ≡ cond (fraction_le (cond a h (fill xs l)) (fill ys m)) (cond a h (fill xs l)) (fill ys m)
    by_tests true true a b = rw (a, up h xs ys l m a b) refl
    by_tests true false a b = refl
    by_tests false true a b = rw (a, b) refl
    by_tests false false a b = rw (down h (fill xs l) (fill ys m) b a, b) refl

    by_load : fill (xs ++ ys) (l ++ m) ≡ cond (fraction_le (fill xs l) (fill ys m)) (fill xs l) (fill ys m) → (none : Bool) → cond none (fill (xs ++ ys) (l ++ m)) (cond (fraction_le (record { num = x.cap; den = y }) (fill (xs ++ ys) (l ++ m))) (record { num = x.cap; den = y }) (fill (xs ++ ys) (l ++ m)))
        ≡ cond (fraction_le (cond none (fill xs l) (cond (fraction_le (record { num = x.cap; den = y }) (fill xs l)) (record { num = x.cap; den = y }) (fill xs l))) (fill ys m)) (cond none (fill xs l) (cond (fraction_le (record { num = x.cap; den = y }) (fill xs l)) (record { num = x.cap; den = y }) (fill xs l))) (fill ys m)
    by_load rest true = rest
    by_load rest false = ap (λ (f : Fraction). cond (fraction_le (record { num = x.cap; den = y }) f) (record { num = x.cap; den = y }) f) rest ∙ by_tests (fraction_le h (fill xs l)) (fraction_le (fill xs l) (fill ys m)) refl refl

pub fullness-of : (b : Bool) (x y : Fill) → fullness (cond b x y) ≡ cond b (fullness x) (fullness y)
fullness-of true x y = refl
fullness-of false x y = refl

-- it is within the limits
pub fill-fits : (net : Network) (gates : List Cell) (least : ℕ) (s : Loaded) (f : Fill) → IsPrepared net gates least → HasLoaded net s → s.total ≤ MAX_LENGTH → (k : ℕ) → k < length net.commodities → 1 ≤ get_or s.gates.items k 0
    → fullness f ≡ fill (net.cells ++ gates) (s.cells.items ++ s.gates.items) → IsFill f
fill-fits net gates least s f on has few k inside some same =
    let long = cells-long net has.0 s has.1 in
    let wide = gates-long net has.0 s has.1 in
    let count = on.gates_are.count in
    let both = s.cells.items ++ s.gates.items in
    let all = net.cells ++ gates in
    let sizes : length both ≡ length all = length-append s.cells.items s.gates.items ∙ omega (arith, length-append net.cells gates) in
    let at : get_or both (length net.cells + k) 0 ≡ get_or s.gates.items k 0 = ap (λ (n : ℕ). get_or both (n + k) 0) (sym long) ∙ get_or-append-add s.cells.items s.gates.items k 0 in
    let positive = fill-positive all both (length net.cells + k) sizes (omega (arith, length-append net.cells gates)) (omega arith) in
    let own : All (λ (x : Cell). x.cap ≤ MAX_UNITS) net.cells = λ j d l. (on.network.cells j d l).cap in
    let caps = fill-cap MAX_UNITS all both (omega arith) (All-append (λ (x : Cell). x.cap ≤ MAX_UNITS) net.cells gates own on.caps) in
    let loads = fill-load MAX_LENGTH all both (All-append (λ (x : ℕ). x ≤ MAX_LENGTH) s.cells.items s.gates.items (cells-small net s MAX_LENGTH has few) (gates-small net s MAX_LENGTH has few)) in
    let cap = ap (λ (x : Fraction). x.num) same in
    let load = ap (λ (x : Fraction). x.den) same in
    record { some = omega arith; load = omega arith; cap = omega arith }
