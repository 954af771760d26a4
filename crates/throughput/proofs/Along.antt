-- An amount along a path, cell by cell, and the greatest exponent then.
use Rattle.std.proofs.Common.{◌≡◌, ℕ, zero, suc, ◌+◌, ◌*◌, ◌/◌, ◌<◌, ◌≤◌, Bool, true, false, max, eqb, cond, List, [], ◌∷◌, length, get_or, set, drop, add-one, inl, inr, sym, ap, subst, ◌∙◌, arith, refl, eq-eqb, ne_eqb}
use Rattle.std.proofs.Math.Nat.{mul-le-mul_left, mul-le-mul_right, div-mul-le_self}
use Rattle.std.proofs.Math.Seq.{drop-cons}
use Rattle.std.proofs.lemmas.Nat.{le-div}
use Rattle.std.proofs.lemmas.Bool.{cases_eq}
use Rattle.std.proofs.lemmas.List.{get_or-set_same, get_or-set_other}
use Rattle.std.proofs.lemmas.List.Sums.{sum_by-cons}
use Rattle.flow_model.specs.declared.net.Cell.{Cell}
use Rattle.flow_model.specs.declared.setting.Setting.{Setting}
use Rattle.flow_model.specs.Walk.{times}
use Rattle.flow_model.specs.Lengths.{IsSetting, exponent, greatest_exponent}
use Rattle.fixed_exp.specs.Kept.{cell_at}

times-cons : (c x : ℕ) (xs : List ℕ) → times c (x ∷ xs) ≡ cond {A = ℕ} (eqb x c) 1 0 + times c xs
times-cons c x xs = sum_by-cons (λ (y : ℕ). cond {A = ℕ} (eqb y c) 1 0) x xs

-- what is left of the path gives the same after a step
pub along-more : (now path : List ℕ) (i a c : ℕ) → i < length path → get_or path i 0 < length now
    → get_or (set now (get_or path i 0) (get_or now (get_or path i 0) 0 + a)) c 0 + a * times c (drop (i + 1) path) ≡ get_or now c 0 + a * times c (drop i path)
along-more now path i a c lt inside =
    let x = get_or path i 0 in
    let rest = drop (i + 1) path in
    let front : drop i path ≡ x ∷ rest = drop-cons path i 0 lt ∙ ap (λ (n : ℕ). x ∷ drop n path) (sym (add-one i)) in
    let split : times c (drop i path) ≡ cond {A = ℕ} (eqb x c) 1 0 + times c rest = ap (times c) front ∙ times-cons c x rest in
    elim (cases_eq x c) as (λ _. get_or (set now x (get_or now x 0 + a)) c 0 + a * times c rest ≡ get_or now c 0 + a * times c (drop i path)) [
      | inl e ↦
          let one : times c (drop i path) ≡ 1 + times c rest = split ∙ ap (λ (b : Bool). cond {A = ℕ} b 1 0 + times c rest) (eq-eqb x c e) in
          let here : get_or (set now x (get_or now x 0 + a)) c 0 ≡ get_or now c 0 + a =
          subst (λ (j : ℕ). get_or (set now x (get_or now x 0 + a)) j 0 ≡ get_or now j 0 + a) e (get_or-set_same now x (get_or now x 0 + a) 0 inside) in
          let product : a * times c (drop i path) ≡ a * (1 + times c rest) = ap (λ (n : ℕ). a * n) one in
          omega arith
      | inr n ↦
          let none : times c (drop i path) ≡ 0 + times c rest = split ∙ ap (λ (b : Bool). cond {A = ℕ} b 1 0 + times c rest) (ne_eqb x c n) in
          let here : get_or (set now x (get_or now x 0 + a)) c 0 ≡ get_or now c 0 = get_or-set_other now x c (get_or now x 0 + a) 0 (λ e. n (sym e)) in
          let product : a * times c (drop i path) ≡ a * (0 + times c rest) = ap (λ (n : ℕ). a * n) none in
          omega arith
    ]

-- the load that a step makes is within what the whole path makes
pub along-within : (path : List ℕ) (i : ℕ) → i < length path → 1 ≤ times (get_or path i 0) (drop i path)
along-within path i lt =
    let x = get_or path i 0 in
    let rest = drop (i + 1) path in
    let front : drop i path ≡ x ∷ rest = drop-cons path i 0 lt ∙ ap (λ (n : ℕ). x ∷ drop n path) (sym (add-one i)) in
    let split : times x (drop i path) ≡ cond {A = ℕ} (eqb x x) 1 0 + times x rest = ap (times x) front ∙ times-cons x x rest in
    let one : times x (drop i path) ≡ 1 + times x rest = split ∙ ap (λ (b : Bool). cond {A = ℕ} b 1 0 + times x rest) (eq-eqb x x refl) in
    omega arith

quotient-grows : (a b d : ℕ) → 1 ≤ d → a ≤ b → a / d ≤ b / d
quotient-grows a b d some h = le-div (a / d) b d some (omega (arith, div-mul-le_self a d))

by_first : (b : Bool) (x y d : ℕ) → x / d ≤ y / d → cond {A = ℕ} b 0 (x / d) ≤ cond {A = ℕ} b 0 (y / d)
by_first true x y d h = omega arith
by_first false x y d h = h

exponent-grows : (s : Setting) (cell : Cell) (x y : ℕ) → IsSetting s → x ≤ y → exponent s cell x ≤ exponent s cell y
exponent-grows s cell x y fits h = elim (cases_eq cell.cap 0) [
  | inl e ↦ rw (eq-eqb cell.cap 0 e) (omega arith)
  | inr n ↦ rw (ne_eqb cell.cap 0 n) (
      let one : x * s.ref_cap * s.step ≤ y * s.ref_cap * s.step = mul-le-mul_right s.step (mul-le-mul_right s.ref_cap h) in
      let positive : cell.cap * 1 ≤ cell.cap * s.ref_load = mul-le-mul_left cell.cap fits.load in
      let some : 1 ≤ cell.cap = omega arith in
      by_first s.first (x * s.ref_cap * s.step) (y * s.ref_cap * s.step) (cell.cap * s.ref_load)
      (quotient-grows (x * s.ref_cap * s.step) (y * s.ref_cap * s.step) (cell.cap * s.ref_load) (omega arith) one)
      )
]

-- one load grows
pub greatest-set : (s : Setting) (cells : List Cell) (loads : List ℕ) (i x : ℕ) → IsSetting s → length loads ≡ length cells → i < length loads → get_or loads i 0 ≤ x
    → greatest_exponent s cells (set loads i x) ≡ max (exponent s (cell_at cells i) x) (greatest_exponent s cells loads)
greatest-set s [] [] i x fits e l h = absurd (omega arith)
greatest-set s [] (y ∷ loads) i x fits e l h = absurd (omega arith)
greatest-set s (cell ∷ cells) [] i x fits e l h = absurd (omega arith)
greatest-set s (cell ∷ cells) (y ∷ loads) zero x fits e l h =
    let more = exponent-grows s cell y x fits h in
    omega (arith, more)
greatest-set s (cell ∷ cells) (y ∷ loads) (suc i) x fits e l h =
    let rest = greatest-set s cells loads i x fits (omega arith) (omega arith) h in
    omega (arith, rest)
