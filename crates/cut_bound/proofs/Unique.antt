-- Of certificates there is one best one.
use Rattle.std.proofs.Common.{◌≡◌, ◌⊎◌, inl, inr, ℕ, zero, suc, ◌<◌, ◌≤◌, List, [], ◌∷◌, Bool, true, false, get_or, refl, sym, ap, ap₂, subst, ◌∙◌, arith}
use Rattle.std.specs.Prelude.{Contains, IsTrue, ◌↔◌}
use Rattle.std.specs.List.{AllPairs, AllZip}
use Rattle.std.proofs.lemmas.List.Kept.{AllPairs-from_increasing}
use Rattle.gap_fraction.specs.Fraction.{Fraction, IsWithinGap}
use Rattle.gap_fraction.specs.Decimals.{millionths_down, millionths_up}
use Rattle.flow_model.specs.Network.{Network}
use Rattle.flow_paths.specs.DualRows.{Potential, DualRows}
use Rattle.flow_paths.specs.declared.certificate.Printed.{Printed}
use Rattle.flow_paths.specs.declared.certificate.Routing.{Routing}
use Rattle.flow_paths.specs.declared.certificate.Proof.{Proof}
use Rattle.flow_paths.specs.Certificate.{lower_of, upper_of, IsPrinted}
use Rattle.flow_paths.specs.Least.{least_by}
use Rattle.cut_bound.specs.Candidates.{candidates, no_dual, rows_in, AreLevels, IsBestDual}
use Rattle.cut_bound.specs.Tightened.{duals, greatest_routing, routings, IsMadeOf, IsTightened}

-- ---- lists that rise

in-cons : (x t : ℕ) (xs : List ℕ) → Contains (x ∷ xs) t → (t ≡ x) ⊎ Contains xs t
in-cons x t xs (zero, l, e) = inl (sym e)
in-cons x t xs (suc i, l, e) = inr (i, omega arith, e)

later : (x t : ℕ) (xs : List ℕ) → Contains xs t → Contains (x ∷ xs) t
later x t xs (i, l, e) = (suc i, omega arith, e)

abbrev Rises : List ℕ → Type 0
Rises xs = AllPairs (λ x y. x < y) xs

above : (x t : ℕ) (xs : List ℕ) → Rises (x ∷ xs) → Contains xs t → x < t
above x t xs h (i, l, e) = let q : x < get_or xs i t = h 0 (suc i) t (omega arith) (omega arith) in omega (arith, e, q)

rest : (x : ℕ) (xs : List ℕ) → Rises (x ∷ xs) → Rises xs
rest x xs h = λ i j d lt l. h (suc i) (suc j) d (omega arith) (omega arith)

from-head : (x t : ℕ) (xs : List ℕ) → Rises (x ∷ xs) → Contains (x ∷ xs) t → x ≤ t
from-head x t xs h c = elim (in-cons x t xs c) [ inl e ↦ omega (arith, e) | inr d ↦ (let lt = above x t xs h d in omega arith) ]

-- what stands in one of them behind its head stands in the other behind its
behind : (x y t : ℕ) (xs ys : List ℕ) → x ≡ y → Rises (x ∷ xs) → Contains xs t → Contains (y ∷ ys) t → Contains ys t
behind x y t xs ys e h c d = elim (in-cons y t ys d) [ inl same ↦ (let lt = above x t xs h c in absurd (omega (arith, same, e))) | inr found ↦ found ]

rising-same : (xs ys : List ℕ) → Rises xs → Rises ys → ((t : ℕ) → Contains xs t → Contains ys t) → ((t : ℕ) → Contains ys t → Contains xs t) → xs ≡ ys
rising-same [] [] a b f g = refl
rising-same [] (y ∷ ys) a b f g = let h = g y (0, omega arith, refl) in absurd (omega (arith, h.1))
rising-same (x ∷ xs) [] a b f g = let h = f x (0, omega arith, refl) in absurd (omega (arith, h.1))
rising-same (x ∷ xs) (y ∷ ys) a b f g =
    let low = from-head y x ys b (f x (0, omega arith, refl)) in
    let high = from-head x y xs a (g y (0, omega arith, refl)) in
    let e : x ≡ y = omega arith in
    let tails = rising-same xs ys (rest x xs a) (rest y ys b)
    (λ t c. behind x y t xs ys e a c (f t (later x t xs c)))
    (λ t c. behind y x t ys xs (sym e) b c (g t (later y t ys c))) in
    ap₂ (λ (n : ℕ) (ns : List ℕ). n ∷ ns) e tails

pub levels-one : (values a b : List ℕ) → AreLevels values a → AreLevels values b → a ≡ b
levels-one values a b p q = rising-same a b (AllPairs-from_increasing a p.ascending) (AllPairs-from_increasing b q.ascending)
    (λ t c. (q.each t).1 ((p.each t).0 c)) (λ t c. (p.each t).1 ((q.each t).0 c))

levels-all : (rows : List Potential) (a b : List (List ℕ)) → AllZip (λ (row : Potential) (ts : List ℕ). AreLevels row.values ts) rows a
    → AllZip (λ (row : Potential) (ts : List ℕ). AreLevels row.values ts) rows b → a ≡ b
levels-all [] [] [] p q = refl
levels-all [] (x ∷ a) b p q = absurd p
levels-all [] [] (y ∷ b) p q = absurd q
levels-all (r ∷ rows) [] b p q = absurd p
levels-all (r ∷ rows) (x ∷ a) [] p q = absurd q
levels-all (r ∷ rows) (x ∷ a) (y ∷ b) p q = ap₂ (λ (n : List ℕ) (ns : List (List ℕ)). n ∷ ns) (levels-one r.values x y p.0 q.0) (levels-all rows a b p.1 q.1)

pub best-one : (net : Network) (both : Bool) (own : List DualRows) (a b : DualRows) → IsBestDual net both own a → IsBestDual net both own b → a ≡ b
best-one net both own a b p q =
    p.best_is ∙ ap (λ (ls : List (List ℕ)). least_by (upper_of net) no_dual (candidates net both own ls)) (levels-all (rows_in own) p.levels q.levels p.are_levels q.are_levels) ∙ sym q.best_is

-- ---- what is printed, and the verdict

made : ℕ → ℕ → ℕ → ℕ → Printed
made num den whole micro = record { num = num; den = den; whole = whole; micro = micro }

printed-one : (a b : Printed) (f : Fraction) (n : ℕ) → IsPrinted a f n → IsPrinted b f n → a.micro < 1000000 → b.micro < 1000000 → a ≡ b
unfolding made
printed-one a b f n p q l m =
    let whole : a.whole ≡ b.whole = omega (arith, p.decimals, q.decimals) in
    let micro : a.micro ≡ b.micro = omega (arith, p.decimals, q.decimals) in
    let num : a.num ≡ b.num = p.num ∙ sym q.num in
    let den : a.den ≡ b.den = p.den ∙ sym q.den in
    ap (λ (x : ℕ). made x a.den a.whole a.micro) num
    ∙ ap (λ (x : ℕ). made b.num x a.whole a.micro) den
    ∙ ap (λ (x : ℕ). made b.num b.den x a.micro) whole
    ∙ ap (made b.num b.den b.whole) micro

true-one : (a b : Bool) (P : Type 0) → (IsTrue a ↔ P) → (IsTrue b ↔ P) → a ≡ b
true-one true true P p q = refl
true-one false false P p q = refl
true-one true false P p q = absurd (let no : false ≡ true = q.1 (p.0 refl) in cc)
true-one false true P p q = absurd (let no : false ≡ true = p.1 (q.0 refl) in cc)

whole-proof : Bool → ℕ → Routing → Printed → Printed → DualRows → Proof
whole-proof closed gap routing lower upper dual = record { closed = closed; gap = gap; routing = routing; lower = lower; upper = upper; dual = dual }

pub made-one : (net : Network) (gap : ℕ) (routing : Routing) (dual : DualRows) (a b : Proof) → IsMadeOf net gap routing dual a → IsMadeOf net gap routing dual b → a ≡ b
unfolding whole-proof
made-one net gap routing dual a b p q =
    let g : a.gap ≡ b.gap = p.gap ∙ sym q.gap in
    let r : a.routing ≡ b.routing = p.routing ∙ sym q.routing in
    let d : a.dual ≡ b.dual = p.dual ∙ sym q.dual in
    let low : a.lower ≡ b.lower = printed-one a.lower b.lower (lower_of a.routing) (millionths_down (lower_of a.routing)) p.printed.lower
    (subst (λ (x : Routing). IsPrinted b.lower (lower_of x) (millionths_down (lower_of x))) (sym r) q.printed.lower) p.fits.lower_micro q.fits.lower_micro in
    let high : a.upper ≡ b.upper = printed-one a.upper b.upper (upper_of net a.dual) (millionths_up (upper_of net a.dual)) p.printed.upper
    (subst (λ (x : DualRows). IsPrinted b.upper (upper_of net x) (millionths_up (upper_of net x))) (sym d) q.printed.upper) p.fits.upper_micro q.fits.upper_micro in
    let other : IsTrue b.closed ↔ IsWithinGap (lower_of a.routing) (upper_of net a.dual) a.gap =
    subst (λ (x : ℕ). IsTrue b.closed ↔ IsWithinGap (lower_of a.routing) (upper_of net a.dual) x) (sym g)
    (subst (λ (x : DualRows). IsTrue b.closed ↔ IsWithinGap (lower_of a.routing) (upper_of net x) b.gap) (sym d)
    (subst (λ (x : Routing). IsTrue b.closed ↔ IsWithinGap (lower_of x) (upper_of net b.dual) b.gap) (sym r) q.verdict.closed)) in
    let closed : a.closed ≡ b.closed = true-one a.closed b.closed (IsWithinGap (lower_of a.routing) (upper_of net a.dual) a.gap) p.verdict.closed other in
    ap (λ (x : Bool). whole-proof x a.gap a.routing a.lower a.upper a.dual) closed
    ∙ ap (λ (x : ℕ). whole-proof b.closed x a.routing a.lower a.upper a.dual) g
    ∙ ap (λ (x : Routing). whole-proof b.closed b.gap x a.lower a.upper a.dual) r
    ∙ ap (λ (x : Printed). whole-proof b.closed b.gap b.routing x a.upper a.dual) low
    ∙ ap (λ (x : Printed). whole-proof b.closed b.gap b.routing b.lower x a.dual) high
    ∙ ap (whole-proof b.closed b.gap b.routing b.lower b.upper) d

pub tightened-one : (net : Network) (both : Bool) (first : Proof) (others : List Proof) (a b : Proof) → IsTightened net both first others a → IsTightened net both first others b → a ≡ b
tightened-one net both first others a b p q =
    let d : p.dual ≡ q.dual = best-one net both (duals (first ∷ others)) p.dual q.dual p.best_dual q.best_dual in
    made-one net first.gap (greatest_routing first.routing (routings others)) p.dual a b p.made
    (subst (λ (x : DualRows). IsMadeOf net first.gap (greatest_routing first.routing (routings others)) x b) (sym d) q.made)
