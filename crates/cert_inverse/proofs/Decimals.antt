-- Decimals and fractions: what is read was spelled so, and what is spelled is read.
use Rattle.std.proofs.Common.{◌≡◌, ℕ, suc, ◌+◌, ◌-◌, ◌/◌, ◌%◌, ◌<◌, ◌≤◌, Bool, true, false, cond, eqb, ltb, not, List, [], ◌∷◌, ◌++◌, length, get_or, take, drop, Option, Some, None, Ok, refl, sym, ap, ◌∙◌, arith}
use Rattle.std.specs.Prelude.{position, nat_eq, slice_index, ◌&&◌}
use Rattle.std.specs.List.{list_all, prefix_len, position_or_len}
use Rattle.std.specs.Option.{option_map}
use Rattle.std.specs.Char.{is_ascii_digit}
use Rattle.std.specs.Fmt.{decimal}
use Rattle.std.specs.Str.Parse.{AllDigits}
use Rattle.std.proofs.lemmas.Bool.Decides.{nat_tests}
use Rattle.std.proofs.lemmas.Fmt.{decimal_is_IsNumeral_wide}
use Rattle.std.proofs.lemmas.List.{length-append, take-append-drop, take-append-le, take_all}
use Rattle.std.proofs.lemmas.List.Sums.{split_at_first, passes_at_first}
use Rattle.std.proofs.lemmas.Str.Parse.{digit_from_value}
use Rattle.gap_fraction.specs.declared.fraction.TheConstants.{MAX_PART}
use Rattle.text_lines.specs.Spelling.{fraction_word, six_digits, decimal_word}
use Rattle.cert_lines.specs.declared.refusal.CertKind.{CertKind}
use Rattle.cert_lines.specs.declared.refusal.CertKind.TheVariants.{BadNumber}
use Rattle.cert_lines.specs.Forms.{◌>>=◌, stroke_parts, is_full}
use Rattle.cert_lines.specs.Numbers.{number_within, is_micro, micro_value, decimal_within}
use Rattle.cert_lines.proofs.NumberLaws.{number_takes, number_again}
use Rattle.cert_lines.proofs.NumberSteps.{both_true, digit_at, digits_behind}
use Rattle.cert_text.proofs.Steps.{bind_ok, done, ok_is, passed}
use Rattle.cert_inverse.proofs.Words.{full_word}

pub full_number : (n : ℕ) → n ≤ MAX_PART → is_full (decimal n) ≡ true
full_number n small = full_word (decimal n) (decimal_is_IsNumeral_wide n (omega arith)).0.0

-- ---- six digits

is_digit : (n : ℕ) → n < 10 → is_ascii_digit (48 + n) ≡ true
is_digit n small = grind (arith, nat_tests)

pub six_again : (n : ℕ) → n < 1000000 → is_micro (46 ∷ six_digits n) ≡ true
six_again n small =
    rw (is_digit (n / 100000 % 10) (omega arith), is_digit (n / 10000 % 10) (omega arith), is_digit (n / 1000 % 10) (omega arith), is_digit (n / 100 % 10) (omega arith), is_digit (n / 10 % 10) (omega arith), is_digit (n % 10) (omega arith)) refl

six_value : (n : ℕ) → n < 1000000 → micro_value (46 ∷ six_digits n) ≡ n
six_value n small = omega arith

point : (c : ℕ) → nat_eq c 46 ≡ true → c ≡ 46
point c e = grind (arith, nat_tests)

pub six_takes : (part : List ℕ) → is_micro part ≡ true → part ≡ 46 ∷ six_digits (micro_value part)
six_takes part h =
    let tests = both_true (nat_eq (length part) 7) (nat_eq (slice_index part 0) 46) (both_true (nat_eq (length part) 7 && nat_eq (slice_index part 0) 46) (list_all is_ascii_digit (drop 1 part)) h).0 in
    spelled part (seven (length part) tests.0) (point (slice_index part 0) tests.1) (digits_behind part h)
  where
    seven : (n : ℕ) → nat_eq n 7 ≡ true → n ≡ 7
    seven n e = grind (arith, nat_tests)

    spelled : (part : List ℕ) → length part ≡ 7 → slice_index part 0 ≡ 46 → list_all is_ascii_digit (drop 1 part) ≡ true → part ≡ 46 ∷ six_digits (micro_value part)
    spelled [] e z d = absurd (omega arith)
    spelled (p ∷ []) e z d = absurd (omega arith)
    spelled (p ∷ a ∷ []) e z d = absurd (omega arith)
    spelled (p ∷ a ∷ b ∷ []) e z d = absurd (omega arith)
    spelled (p ∷ a ∷ b ∷ c ∷ []) e z d = absurd (omega arith)
    spelled (p ∷ a ∷ b ∷ c ∷ i ∷ []) e z d = absurd (omega arith)
    spelled (p ∷ a ∷ b ∷ c ∷ i ∷ j ∷ []) e z d = absurd (omega arith)
    spelled (p ∷ a ∷ b ∷ c ∷ i ∷ j ∷ k ∷ []) e z d =
        let ds = a ∷ b ∷ c ∷ i ∷ j ∷ k ∷ [] in
        let n : ℕ = micro_value (p ∷ ds) in
        let ra = digit_at ds 0 d (omega arith) in
        let rb = digit_at ds 1 d (omega arith) in
        let rc = digit_at ds 2 d (omega arith) in
        let ri = digit_at ds 3 d (omega arith) in
        let rj = digit_at ds 4 d (omega arith) in
        let rk = digit_at ds 5 d (omega arith) in
        let ea : a ≡ 48 + n / 100000 % 10 = omega arith in
        let eb : b ≡ 48 + n / 10000 % 10 = omega arith in
        let ec : c ≡ 48 + n / 1000 % 10 = omega arith in
        let ei : i ≡ 48 + n / 100 % 10 = omega arith in
        let ej : j ≡ 48 + n / 10 % 10 = omega arith in
        let ek : k ≡ 48 + n % 10 = omega arith in
        λ x. z x ∷ ea x ∷ eb x ∷ ec x ∷ ei x ∷ ej x ∷ ek x ∷ []
    spelled (p ∷ a ∷ b ∷ c ∷ i ∷ j ∷ k ∷ l ∷ more) e z d = absurd (omega arith)

-- ---- decimals

pub decimal_takes : (most : ℕ) (word : List ℕ) (v : ℕ × ℕ) → most ≤ MAX_PART → decimal_within most word ≡ Ok v → word ≡ decimal_word v.0 v.1
unfolding decimal_within
decimal_takes most word v limit e =
    let at : ℕ = length word - 7 in
    let whole = take at word in
    let part = drop at word in
    let a = passed (is_micro part) (number_within most whole >>= λ n. done (n, micro_value part)) BadNumber v e in
    let b = bind_ok (number_within most whole) (λ n. done (n, micro_value part)) v a.1 in
    let is = ok_is {E = CertKind} (b.0, micro_value part) v b.2 in
    let front : whole ≡ decimal b.0 = (number_takes most whole b.0 limit b.1).0 in
    let back = six_takes part a.0 in
    sym (take-append-drop at word) ∙ ap (λ (l : List ℕ). l ++ part) front ∙ ap (λ (l : List ℕ). decimal b.0 ++ l) back ∙ ap (λ (q : ℕ × ℕ). decimal_word q.0 q.1) is

pub decimal_again : (most whole micro : ℕ) → most ≤ MAX_PART → whole ≤ most → micro < 1000000 → decimal_within most (decimal_word whole micro) ≡ Ok (whole, micro)
unfolding decimal_within
decimal_again most whole micro limit le small =
    let front = decimal whole in
    let part = 46 ∷ six_digits micro in
    let seven : length part ≡ 7 = refl in
    let at : length (front ++ part) - 7 ≡ length front = omega (arith, length-append front part) in
    let first : take (length front) (front ++ part) ≡ front = take-append-le (length front) front part (omega arith) ∙ take_all (length front) front (omega arith) in
    let rest : drop (length front) (front ++ part) ≡ part = drop_at front part in
    rw (at, first, rest, six_again micro small, number_again most whole limit le) (ap (λ (m : ℕ). done {E = CertKind} (whole, m)) (six_value micro small))
  where
    drop_at : (xs ys : List ℕ) → drop (length xs) (xs ++ ys) ≡ ys
    drop_at [] ys = refl
    drop_at (x ∷ xs) ys = drop_at xs ys

-- ---- fractions

no_stroke : (c : ℕ) → 48 ≤ c → eqb c 47 ≡ false
no_stroke c h = grind (arith, nat_tests)

before : (front back : List ℕ) → AllDigits 10 front → prefix_len (λ b. not (eqb b 47)) (front ++ 47 ∷ back) ≡ length front
before [] back d = refl
before (c ∷ cs) back d = rw (no_stroke c (digit_from_value c d.0).0) (omega (arith, before cs back d.1))

cut_front : (xs ys : List ℕ) → take (length xs) (xs ++ ys) ≡ xs
cut_front xs ys = take-append-le (length xs) xs ys (omega arith) ∙ take_all (length xs) xs (omega arith)

cut_back : (xs : List ℕ) (y : ℕ) (ys : List ℕ) → drop (length xs + 1) (xs ++ y ∷ ys) ≡ ys
cut_back [] y ys = refl
cut_back (x ∷ xs) y ys =
    let more : length (x ∷ xs) + 1 ≡ suc (length xs + 1) = omega arith in
    ap (λ (n : ℕ). drop n (x ∷ (xs ++ y ∷ ys))) more ∙ cut_back xs y ys

pub fraction_again : (num den : ℕ) → num ≤ MAX_PART → stroke_parts (fraction_word num den) ≡ Some (decimal num, decimal den)
fraction_again num den small =
    let front = decimal num in
    let word = fraction_word num den in
    let at : position_or_len (λ b. eqb b 47) word ≡ length front = before front (decimal den) (decimal_is_IsNumeral_wide num (omega arith)).0.1 in
    let inside : ltb (length front) (length word) ≡ true = within (length front) (length word) (omega (arith, length-append front (47 ∷ decimal den))) in
    let here : position (λ b. eqb b 47) word ≡ Some (length front) = ap (λ (n : ℕ). cond (ltb n (length word)) (Some n) None) at ∙ ap (λ (b : Bool). cond b (Some (length front)) None) inside in
    ap (option_map (λ i. (take i word, drop (i + 1) word))) here ∙ rw (cut_front front (47 ∷ decimal den), cut_back front 47 (decimal den)) refl
  where
    within : (a b : ℕ) → a < b → ltb a b ≡ true
    within a b lt = grind (arith, nat_tests)

pub fraction_takes : (word : List ℕ) (parts : List ℕ × List ℕ) → stroke_parts word ≡ Some parts → word ≡ parts.0 ++ 47 ∷ parts.1
fraction_takes word parts e = by (ltb n (length word)) refl e
  where
    n : ℕ
    n = position_or_len (λ b. eqb b 47) word

    by : (b : Bool) → ltb n (length word) ≡ b → option_map (λ i. (take i word, drop (i + 1) word)) (cond b (Some n) None) ≡ Some parts → word ≡ parts.0 ++ 47 ∷ parts.1
    by false h k = absurd cc
    by true h k =
        let lt : n < length word = below n (length word) h in
        let stroke : get_or word n 0 ≡ 47 = is_stroke (get_or word n 0) (passes_at_first (λ b. eqb b 47) word 0 lt) in
        let first : take n word ≡ parts.0 = ap (λ (o : Option (List ℕ × List ℕ)). elim o [ Some p ↦ p.0 | None ↦ [] ]) k in
        let second : drop (n + 1) word ≡ parts.1 = ap (λ (o : Option (List ℕ × List ℕ)). elim o [ Some p ↦ p.1 | None ↦ [] ]) k in
        split_at_first (λ b. eqb b 47) word 0 lt ∙ ap (λ (c : ℕ). take n word ++ c ∷ drop (n + 1) word) stroke ∙ ap (λ (l : List ℕ). l ++ 47 ∷ drop (n + 1) word) first ∙ ap (λ (l : List ℕ). parts.0 ++ 47 ∷ l) second
      where
        below : (a b : ℕ) → ltb a b ≡ true → a < b
        below a b t = grind (arith, nat_tests)

        is_stroke : (c : ℕ) → eqb c 47 ≡ true → c ≡ 47
        is_stroke c t = grind (arith, nat_tests)
