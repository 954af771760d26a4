-- A quotient by a power of ten is what stands before so many digits.
use Rattle.std.proofs.Common.{◌≡◌, inl, inr, ℕ, ◌+◌, ◌*◌, ◌/◌, ◌^◌, ◌-◌, ◌<◌, ◌≤◌, List, ◌++◌, length, take, drop, sym, ap, ◌∙◌, arith, append_assoc, length-append, length-drop}
use Rattle.std.specs.Str.Parse.{AllDigits, digits_value}
use Rattle.std.proofs.Math.Nat.{mul-add-div_right, div-eq_of_lt, mul-div_cancel, mul-div-mul_right, mul_assoc, pow-le-pow_right, one-le-pow}
use Rattle.std.proofs.lemmas.Nat.{pow-add}
use Rattle.std.proofs.lemmas.Bool.{cases_lt}
use Rattle.std.proofs.lemmas.List.{take-append-drop}
use Rattle.std.proofs.lemmas.Int.Digits.{digits_value-lt}
use Rattle.unit_scale.proofs.DigitLaws.{after-append, after-value, AllDigits-drop, AllDigits-append}

ten : (n : ℕ) → 1 ≤ 10 ^ n
ten n = one-le-pow n 10 (omega arith)

-- digits behind others are the rest
whole-cut : (xs ys : List ℕ) (cut : ℕ) → AllDigits 10 ys → length ys ≡ cut → digits_value 10 (xs ++ ys) / 10 ^ cut ≡ digits_value 10 xs
whole-cut xs ys cut all e =
    let parts : digits_value 10 (xs ++ ys) ≡ digits_value 10 xs * 10 ^ length ys + digits_value 10 ys = after-append 0 xs ys ∙ after-value (digits_value 10 xs) ys in
    let same : digits_value 10 (xs ++ ys) ≡ digits_value 10 xs * 10 ^ cut + digits_value 10 ys = parts ∙ ap (λ (k : ℕ). digits_value 10 xs * 10 ^ k + digits_value 10 ys) e in
    let less : digits_value 10 ys < 10 ^ cut = omega (arith, digits_value-lt 10 ys all, ap (λ (k : ℕ). 10 ^ k) e) in
    let pos : 0 < 10 ^ cut = omega (arith, ten cut) in
    let none : digits_value 10 ys / 10 ^ cut ≡ 0 = div-eq_of_lt less in
    ap (λ (k : ℕ). k / 10 ^ cut) same ∙ mul-add-div_right pos (digits_value 10 xs) (digits_value 10 ys) ∙ omega arith

all-cut : (ys : List ℕ) (cut : ℕ) → AllDigits 10 ys → length ys ≤ cut → digits_value 10 ys / 10 ^ cut ≡ 0
all-cut ys cut all l =
    let most : 10 ^ length ys ≤ 10 ^ cut = pow-le-pow_right (omega arith) l in
    let less : digits_value 10 ys < 10 ^ cut = omega (arith, digits_value-lt 10 ys all, most) in
    div-eq_of_lt less

-- some digits behind the point are kept
pub cut-behind : (w f : List ℕ) (cut : ℕ) → AllDigits 10 f → cut < length f → digits_value 10 (w ++ f) / 10 ^ cut ≡ digits_value 10 (w ++ take (length f - cut) f)
cut-behind w f cut all less =
    let k = length f - cut in
    let whole : (w ++ take k f) ++ drop k f ≡ w ++ f = append_assoc w (take k f) (drop k f) ∙ ap (λ (xs : List ℕ). w ++ xs) (take-append-drop k f) in
    let many : length (drop k f) ≡ cut = omega (arith, length-drop k f) in
    ap (λ (xs : List ℕ). digits_value 10 xs / 10 ^ cut) (sym whole) ∙ whole-cut (w ++ take k f) (drop k f) cut (AllDigits-drop k f all) many

-- none is, and maybe not all of those before it
pub cut-front : (w f : List ℕ) (cut : ℕ) → AllDigits 10 w → AllDigits 10 f → length f ≤ cut → digits_value 10 (w ++ f) / 10 ^ cut ≡ digits_value 10 (take (length w - (cut - length f)) w)
cut-front w f cut all_w all_f l =
    let k = length w - (cut - length f) in
    let ys = drop k w ++ f in
    let whole : take k w ++ ys ≡ w ++ f = sym (append_assoc (take k w) (drop k w) f) ∙ ap (λ (xs : List ℕ). xs ++ f) (take-append-drop k w) in
    let digits = AllDigits-append (drop k w) f (AllDigits-drop k w all_w) all_f in
    let many = length-append (drop k w) f in
    let left = length-drop k w in
    elim (cases_lt (length w) (cut - length f)) [
      | inl short ↦
          let none : k ≡ 0 = omega arith in
          let all : digits_value 10 (w ++ f) / 10 ^ cut ≡ 0 = all-cut (w ++ f) cut (AllDigits-append w f all_w all_f) (omega (arith, length-append w f)) in
          all ∙ sym (ap (λ (n : ℕ). digits_value 10 (take n w)) none)
      | inr long ↦ ap (λ (xs : List ℕ). digits_value 10 xs / 10 ^ cut) (sym whole) ∙ whole-cut (take k w) ys cut digits (omega arith)
    ]

-- a power of ten over one that is no greater
pub over-less : (d up places : ℕ) → places ≤ up → d * 10 ^ up / 10 ^ places ≡ d * 10 ^ (up - places)
over-less d up places l =
    let sum : up ≡ (up - places) + places = omega arith in
    let power : 10 ^ up ≡ 10 ^ (up - places) * 10 ^ places = ap (λ (k : ℕ). 10 ^ k) sum ∙ pow-add 10 (up - places) places in
    let pos : 0 < 10 ^ places = omega (arith, ten places) in
    ap (λ (k : ℕ). d * k / 10 ^ places) power ∙ ap (λ (k : ℕ). k / 10 ^ places) (sym (mul_assoc d (10 ^ (up - places)) (10 ^ places))) ∙ mul-div_cancel (d * 10 ^ (up - places)) pos

-- and over a greater one
pub over-more : (d up places : ℕ) → up ≤ places → d * 10 ^ up / 10 ^ places ≡ d / 10 ^ (places - up)
over-more d up places l =
    let sum : places ≡ (places - up) + up = omega arith in
    let power : 10 ^ places ≡ 10 ^ (places - up) * 10 ^ up = ap (λ (k : ℕ). 10 ^ k) sum ∙ pow-add 10 (places - up) up in
    let pos : 0 < 10 ^ up = omega (arith, ten up) in
    ap (λ (k : ℕ). d * 10 ^ up / k) power ∙ mul-div-mul_right d (10 ^ (places - up)) pos
