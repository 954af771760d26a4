-- Digits without the zeros at their end.
use Rattle.std.proofs.Common.{◌≡◌, ◌⊎◌, inl, inr, ℕ, ◌+◌, ◌*◌, ◌^◌, ◌-◌, ◌≤◌, ◌<◌, min, List, [], ◌++◌, length, take, drop, Some, None, arith, sym, ◌∙◌, ap, refl, true, false, Bool, ◌==◌, ◌&&◌, append_assoc, length-append, length-drop}
use Rattle.std.specs.List.{list_all}
use Rattle.std.specs.Str.Parse.{AllDigits, digits_value}
use Rattle.std.proofs.lemmas.List.{append-nil, take-append-drop, drop_all}
use Rattle.std.proofs.lemmas.List.Folds.{list_all-append}
use Rattle.std.proofs.lemmas.Bool.{cases_lt}
use Rattle.std.proofs.lemmas.Int.Digits.{digits_value-lt}
use Rattle.std.proofs.Math.Nat.{pow-le-pow_right}
use Rattle.unit_scale.specs.Units.{quotient}
use Rattle.unit_scale.proofs.DigitLaws.{after-append, after-value, zeros-value, some-value, AllDigits-drop, AllDigits-append}
use Rattle.unit_scale.proofs.Quotients.{quotient_whole, quotient_none, pow-ten}

no_b : (a c d : List ℕ) → (a ++ []) ++ (c ++ d) ≡ (a ++ c) ++ ([] ++ d)
no_b a c d = rw (append-nil a) (sym (append_assoc a c d))

no_c : (a b d : List ℕ) → (a ++ b) ++ ([] ++ d) ≡ (a ++ []) ++ (b ++ d)
no_c a b d = rw (append-nil a) (append_assoc a b d)

untaken : (n : ℕ) (xs : List ℕ) → n ≡ 0 → take n xs ≡ []
untaken n xs h = rw h refl

none_left : (n : ℕ) (xs ys : List ℕ) → ys ≡ [] → digits_value 10 ys ≡ 0
none_left n xs ys h = rw h refl

-- the digits are those that are kept and those that are cut off
joined : (w f : List ℕ) (b h : ℕ) → (length w ≤ b) ⊎ (h ≡ 0) → w ++ f ≡ (take b w ++ take h f) ++ (drop b w ++ drop h f)
joined w f b h (inl all) =
    let e = drop_all b w all in
    let p = no_b (take b w) (take h f) (drop h f) in
    ap (λ x. x ++ f) (sym (take-append-drop b w)) ∙ ap (λ x. (take b w ++ drop b w) ++ x) (sym (take-append-drop h f)) ∙ rw e p
joined w f b h (inr none) =
    let e = untaken h f none in
    let p = no_c (take b w) (drop b w) (drop h f) in
    ap (λ x. x ++ f) (sym (take-append-drop b w)) ∙ ap (λ x. (take b w ++ drop b w) ++ x) (sym (take-append-drop h f)) ∙ rw e p

parts : (xs ys : List ℕ) → digits_value 10 (xs ++ ys) ≡ digits_value 10 xs * 10 ^ length ys + digits_value 10 ys
parts xs ys = after-append 0 xs ys ∙ after-value (digits_value 10 xs) ys

-- what is kept, and what is cut off
pub record IsCut (w f : List ℕ) (cut b h : ℕ) : Type 0 where
  pub before : b ≡ min (length w + length f - cut) (length w)
  pub behind : h ≡ length w + length f - cut - b

cut_length : (w f : List ℕ) (cut b h : ℕ) → IsCut w f cut b h → length (drop b w ++ drop h f) ≡ min cut (length w + length f)
cut_length w f cut b h c = rw (length-append (drop b w) (drop h f), length-drop b w, length-drop h f) (omega arith)

none_kept : (w f : List ℕ) (cut b h : ℕ) → IsCut w f cut b h → length w + length f < cut → digits_value 10 (take b w ++ take h f) ≡ 0
none_kept w f cut b h c over = rw (untaken b w (omega arith), untaken h f (omega arith)) refl

value : (w f : List ℕ) (cut b h : ℕ) → IsCut w f cut b h → digits_value 10 (w ++ f) ≡ digits_value 10 (take b w ++ take h f) * 10 ^ cut + digits_value 10 (drop b w ++ drop h f)
value w f cut b h c =
    let one : (length w ≤ b) ⊎ (h ≡ 0) = elim (cases_lt b (length w)) [ inl some ↦ inr (omega arith) | inr all ↦ inl all ] in
    let e = ap (digits_value 10) (joined w f b h one) ∙ parts (take b w ++ take h f) (drop b w ++ drop h f) in
    let l = cut_length w f cut b h c in
    elim (cases_lt (length w + length f) cut) [
      | inl over ↦
          let z = none_kept w f cut b h c over in
          e ∙ rw z (omega arith)
      | inr within ↦
          let s : length (drop b w ++ drop h f) ≡ cut = omega arith in
          e ∙ rw s refl
    ]

rest_lt : (w f : List ℕ) (cut b h : ℕ) → IsCut w f cut b h → AllDigits 10 w → AllDigits 10 f → digits_value 10 (drop b w ++ drop h f) < 10 ^ cut
rest_lt w f cut b h c p q =
    let ds = drop b w ++ drop h f in
    let a : AllDigits 10 ds = AllDigits-append (drop b w) (drop h f) (AllDigits-drop b w p) (AllDigits-drop h f q) in
    let l = cut_length w f cut b h c in
    let m : 10 ^ length ds ≤ 10 ^ cut = pow-le-pow_right (omega arith) (omega arith) in
    omega (arith, digits_value-lt 10 ds a, m)

pub cut_some : (w f : List ℕ) (cut b h : ℕ) → IsCut w f cut b h → list_all (λ d. d == 48) (drop b w) ≡ true → list_all (λ d. d == 48) (drop h f) ≡ true → quotient (digits_value 10 (w ++ f)) (10 ^ cut) ≡ Some (digits_value 10 (take b w ++ take h f))
cut_some w f cut b h c p q =
    let z : list_all (λ d. d == 48) (drop b w ++ drop h f) ≡ true = rw (list_all-append (λ d. d == 48) (drop b w) (drop h f), p, q) refl in
    let n = zeros-value (drop b w ++ drop h f) z in
    let e : digits_value 10 (w ++ f) ≡ digits_value 10 (take b w ++ take h f) * 10 ^ cut = omega (arith, value w f cut b h c, n) in
    rw e (quotient_whole (digits_value 10 (take b w ++ take h f)) (10 ^ cut) (pow-ten cut))

and_false : (x y : Bool) → (x ≡ false) ⊎ (y ≡ false) → (x && y) ≡ false
and_false true true (inl e) = e
and_false true true (inr e) = e
and_false true false e = refl
and_false false y e = refl

pub cut_none : (w f : List ℕ) (cut b h : ℕ) → IsCut w f cut b h → AllDigits 10 w → AllDigits 10 f → (list_all (λ d. d == 48) (drop b w) ≡ false) ⊎ (list_all (λ d. d == 48) (drop h f) ≡ false) → quotient (digits_value 10 (w ++ f)) (10 ^ cut) ≡ None
cut_none w f cut b h c p q s =
    let ds = drop b w ++ drop h f in
    let a : AllDigits 10 ds = AllDigits-append (drop b w) (drop h f) (AllDigits-drop b w p) (AllDigits-drop h f q) in
    let z : list_all (λ d. d == 48) ds ≡ false = rw (list_all-append (λ d. d == 48) (drop b w) (drop h f)) (and_false _ _ s) in
    rw (value w f cut b h c) (quotient_none (digits_value 10 (take b w ++ take h f)) (10 ^ cut) (digits_value 10 ds) (some-value ds a z) (rest_lt w f cut b h c p q))
