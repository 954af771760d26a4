-- Where a text is refused that is read line by line, it stops to be one of its kind.
use Rattle.std.proofs.Common.{◌≡◌, ◌⊎◌, ℕ, ◌+◌, ◌≤◌, Bool, true, false, eqb, List, [], ◌∷◌, ◌++◌, length, Result, Ok, Err, refl, sym, ap, subst, ◌∙◌, append_assoc, inl, inr, arith}
use Rattle.std.specs.Prelude.{map}
use Rattle.std.specs.List.{AllByRecursion}
use Rattle.std.proofs.lemmas.Bool.Decides.{nat_tests}
use Rattle.std.proofs.lemmas.List.{append-nil}
use Rattle.std.proofs.lemmas.List.Concat.{flat_map-cons}
use Rattle.std.proofs.lemmas.List.Elements.{All-from_recursion}
use Rattle.std.proofs.lemmas.List.Splits.{slice_split_at}
use Rattle.text_lines.specs.Lines.{Line, spelled, text_of, words_of, lines_of, IsInside, IsLine}
use Rattle.cert_lines.specs.declared.refusal.CertRefusal.{CertRefusal}
use Rattle.cert_text.specs.Reading.{bytes_of}
use Rattle.cert_text.proofs.LineSteps.{text_bytes, has_line}
use Rattle.cert_inverse.proofs.HeadTakes.{joined}
use Rattle.cli_laws.specs.Lines.{whole_lines, IsOneLine, Begins, IsLineOf, StopsAt}
use Rattle.cli_laws.proofs.Near.{Two}

-- ---- lines and bytes

is_ten : (b : ℕ) → eqb b 10 ≡ true → b ≡ 10
is_ten b h = grind (arith, nat_tests)

no_feed : (word : List ℕ) → AllByRecursion IsInside word → IsOneLine word
no_feed [] h = tt
no_feed (b ∷ word) h = (h.0.1, no_feed word h.1)

both : (xs ys : List ℕ) → IsOneLine xs → IsOneLine ys → IsOneLine (xs ++ ys)
both [] ys h k = k
both (x ∷ xs) ys h k = (h.0, both xs ys h.1 k)

pub one_line : (line : Line) → IsLine line → IsOneLine (joined line)
one_line [] h = absurd h
one_line (word ∷ []) h = no_feed word h.0
one_line (word ∷ next ∷ words) h = both word (32 ∷ joined (next ∷ words)) (no_feed word h.0) (refl, one_line (next ∷ words) h.1)

one_lines : (lines : List Line) → AllByRecursion IsLine lines → AllByRecursion IsOneLine (map joined lines)
one_lines [] h = tt
one_lines (line ∷ lines) h = (one_line line h.0, one_lines lines h.1)

pub clean_front : (front back : List Line) → AllByRecursion IsLine (front ++ back) → AllByRecursion IsLine front
clean_front [] back h = tt
clean_front (line ∷ front) back h = (h.0, clean_front front back h.1)

joined_lines : (lines : List Line) → text_of lines ≡ whole_lines (map joined lines)
joined_lines [] = refl
joined_lines (line ∷ lines) = flat_map-cons spelled line lines ∙ ap (λ (l : List ℕ). spelled line ++ l) (joined_lines lines) ∙ sym (flat_map-cons (λ (l : List ℕ). l ++ 10 ∷ []) (joined line) (map joined lines))

count_joined : (lines : List Line) → length (map joined lines) ≡ length lines
count_joined [] = refl
count_joined (line ∷ lines) = omega (arith, count_joined lines)

count_words : (lines : List (List ℕ)) → length (map words_of lines) ≡ length lines
count_words [] = refl
count_words (line ∷ lines) = omega (arith, count_words lines)

-- the first line of bytes: with its line feed, or all of them
record Cut (bytes : List ℕ) : Type 0 where
  line : List ℕ
  here : IsOneLine line
  ends : (bytes ≡ line) ⊎ ((after : List ℕ) × (bytes ≡ line ++ 10 ∷ after))

cut : (bytes : List ℕ) → Cut bytes
cut [] = record { line = []; here = tt; ends = inl refl }
cut (b ∷ bytes) = by (cut bytes) (eqb b 10) refl
  where
    with_one : eqb b 10 ≡ false → Cut bytes → Cut (b ∷ bytes)
    with_one h c = record {
      line = b ∷ c.line;
      here = (h, c.here);
      ends = elim c.ends as (λ _. (b ∷ bytes ≡ b ∷ c.line) ⊎ ((after : List ℕ) × (b ∷ bytes ≡ (b ∷ c.line) ++ 10 ∷ after))) [
        | inl e ↦ inl (ap (λ (l : List ℕ). b ∷ l) e)
        | inr e ↦ inr (e.0, ap (λ (l : List ℕ). b ∷ l) e.1)
      ];
    }

    by : Cut bytes → (t : Bool) → eqb b 10 ≡ t → Cut (b ∷ bytes)
    by c true h = record { line = []; here = tt; ends = inr (bytes, ap (λ (x : ℕ). x ∷ bytes) (is_ten b h)) }
    by c false h = with_one h c

-- the lines of a text, from its lines on
pub split_lines : (before : List (List ℕ)) (line after : List ℕ) → AllByRecursion IsOneLine before → IsOneLine line → lines_of (whole_lines before ++ (line ++ 10 ∷ after)) ≡ map words_of before ++ (words_of line ∷ lines_of after)
split_lines [] line after h here = ap (map words_of) (slice_split_at (λ b. eqb b 10) line 10 after (All-from_recursion (λ b. eqb b 10 ≡ false) line here) refl)
split_lines (first ∷ before) line after h here =
    let more = whole_lines before ++ (line ++ 10 ∷ after) in
    let e : whole_lines (first ∷ before) ++ (line ++ 10 ∷ after) ≡ first ++ 10 ∷ more =
    ap (λ (l : List ℕ). l ++ (line ++ 10 ∷ after)) (flat_map-cons (λ (l : List ℕ). l ++ 10 ∷ []) first before)
    ∙ append_assoc (first ++ 10 ∷ []) (whole_lines before) (line ++ 10 ∷ after) ∙ append_assoc first (10 ∷ []) more in
    let s = slice_split_at (λ b. eqb b 10) first 10 more (All-from_recursion (λ b. eqb b 10 ≡ false) first h.0) refl in
    ap lines_of e ∙ ap (map words_of) s ∙ ap (λ (l : List Line). words_of first ∷ l) (split_lines before line after h.1 here)

-- ---- where the text stops

-- a text that begins so and does not go on stops there, with its line or cut off
stops_by : (IsText : List ℕ → Type 0) (text : List ℕ) (number : ℕ) (before : List (List ℕ)) (rest : List ℕ) → text ≡ whole_lines before ++ rest → AllByRecursion IsOneLine before → number ≡ length before + 1 → Begins IsText (whole_lines before)
    → ((line after : List ℕ) → IsLineOf text number before line (10 ∷ after) → (more : List ℕ) → IsText ((whole_lines before ++ (line ++ 10 ∷ [])) ++ more) → ⊥) → (IsText text → ⊥) → StopsAt IsText text number
stops_by IsText text number before rest parts lines count begun bad none = by (cut rest)
  where
    stands : (line after : List ℕ) → IsOneLine line → rest ≡ line ++ after → IsLineOf text number before line after
    stands line after here is = record { parts = parts ∙ ap (λ (l : List ℕ). whole_lines before ++ l) is; lines = lines; here = here; count = count }

    by : Cut rest → StopsAt IsText text number
    by c = elim c.ends as (λ _. StopsAt IsText text number) [
      | inl is ↦ inr (record { before = before; line = c.line; stands = stands c.line [] c.here (is ∙ sym (append-nil c.line)); begun = begun; none = none })
      | inr is ↦ inl (record {
        before = before;
        line = c.line;
        after = is.0;
        stands = stands c.line (10 ∷ is.0) c.here is.1;
        begun = begun;
        refused = λ (more, k). bad c.line is.0 (stands c.line (10 ∷ is.0) c.here is.1) more k;
      })
    ]

-- how texts of a kind are read: each one is, and what is refused at a line or before is refused alike in a text that is the same up
-- to that line
pub record AreRead {Y : Type 0} (IsText : List ℕ → Type 0) (reading : List Line → Result Y CertRefusal) : Type 0 where
  pub again : (text : List ℕ) → IsText text → (y : Y) × (reading (lines_of text) ≡ Ok y)
  pub same : (t : Two) (before : List Line) (r : CertRefusal) → length before + 1 ≡ t.number → r.line ≤ t.number → reading (before ++ t.line ∷ t.one) ≡ Err r → reading (before ++ t.line ∷ t.other) ≡ Err r

module _ {Y : Type 0} (IsText : List ℕ → Type 0) (reading : List Line → Result Y CertRefusal) (read : AreRead IsText reading) where
  none_is : (text : List ℕ) (r : CertRefusal) → reading (lines_of text) ≡ Err r → IsText text → ⊥
  none_is text r e is = by (read.again text is)
    where
      never : (y : Y) (q : Result Y CertRefusal) → q ≡ Err r → q ≡ Ok y → ⊥
      never y (Ok z) h k = absurd cc
      never y (Err d) h k = absurd cc

      by : (y : Y) × (reading (lines_of text) ≡ Ok y) → ⊥
      by (y, k) = never y (reading (lines_of text)) e k

  none_goes_on : (text : List ℕ) (r : CertRefusal) (before : List (List ℕ)) (line after more : List ℕ) → IsLineOf text r.line before line (10 ∷ after) → reading (lines_of text) ≡ Err r → IsText ((whole_lines before ++ (line ++ 10 ∷ [])) ++ more) → ⊥
  none_goes_on text r before line after more stands e is =
      let t : Two = record { number = r.line; line = words_of line; one = lines_of after; other = lines_of more; one_more = has_line after; other_more = has_line more } in
      let front = map words_of before in
      let one = ap reading (sym (ap lines_of stands.parts ∙ split_lines before line after stands.lines stands.here)) ∙ e in
      let other = read.same t front r (omega (arith, stands.count, count_words before)) (omega arith) one in
      let text' = whole_lines before ++ (line ++ 10 ∷ more) in
      let same : (whole_lines before ++ (line ++ 10 ∷ [])) ++ more ≡ text' = append_assoc (whole_lines before) (line ++ 10 ∷ []) more ∙ ap (λ (l : List ℕ). whole_lines before ++ l) (append_assoc line (10 ∷ []) more) in
      none_is text' r (ap reading (split_lines before line more stands.lines stands.here) ∙ other) (subst IsText same is)

  -- so a text stops at its refusal, where some text begins with the lines before
  pub stops_at : (text : List ℕ) (r : CertRefusal) → reading (lines_of text) ≡ Err r → (front rest : List Line) → AllByRecursion IsLine front → bytes_of (lines_of text) ≡ text_of front ++ bytes_of rest → r.line ≡ 1 + length front → Begins IsText (text_of front) → StopsAt IsText text r.line
  stops_at text r e front rest clean bytes count begun =
      let before = map joined front in
      stops_by IsText text r.line before (bytes_of rest) (sym (text_bytes text) ∙ bytes ∙ ap (λ (l : List ℕ). l ++ bytes_of rest) (joined_lines front))
      (one_lines front clean) (omega (arith, count, count_joined front)) (subst (Begins IsText) (joined_lines front) begun)
      (λ line after stands more k. none_goes_on text r before line after more stands e k) (none_is text r e)
