-- A line is refused for one kind alone.
use Rattle.std.proofs.Common.{◌≡◌, ◌≢◌, ◌⊎◌, ℕ, ◌+◌, ◌-◌, ◌<◌, ◌≤◌, Bool, true, false, List, [], ◌∷◌, ◌++◌, length, Option, Some, None, refl, sym, ap, subst, ◌∙◌, length-append, inl, inr, arith}
use Rattle.std.specs.Prelude.{codes, map}
use Rattle.std.specs.List.{AllByRecursion, join_with_byte}
use Rattle.std.proofs.lemmas.Option.{slice_get_within}
use Rattle.text_lines.specs.Lines.{Line}
use Rattle.cert_lines.specs.Sheet.{Sheet, Sheets, place_of, sheet_for}
use Rattle.cert_lines.specs.declared.net_line.TheConstants.{MAX_COUNT}
use Rattle.cert_lines.specs.declared.refusal.CertKind.{CertKind}
use Rattle.cert_lines.specs.declared.refusal.CertKind.TheVariants.{NoHeader, Syntax, UnknownName, BadNumber, TooLarge, OtherNet}
use Rattle.cert_lines.specs.declared.refusal.CertRefusal.{CertRefusal}
use Rattle.cert_lines.specs.Forms.{begins}
use Rattle.cert_lines.specs.Numbers.{is_number}
use Rattle.cert_lines.specs.HeadLines.{count_words}
use Rattle.cert_text.specs.declared.opening.Opening.{Opening}
use Rattle.cert_text.specs.Papers.{form_of}
use Rattle.cert_inverse.proofs.Words.{same_bytes}
use Rattle.cli_laws.specs.CertKinds.{name, number, decimal, nothing as no_word, Sorted, is_decimal, IsRight, IsWrong, IsLineFault}
use Rattle.cli_laws.specs.HeadKinds.{IsHeadReason, IsHeadRefusedFor}
use Rattle.cli_laws.specs.KindHeads.{IsHeadReasonUnder}
use Rattle.cli_laws.specs.KindTexts.{IsUnder, IsReasonUnder}
use Rattle.cli_laws.specs.LineRoles.{TextKind, Role, HeadRole, RowRole, verdict, links, modules, counts, gap, phases, scale, lower, upper, threshold, head_line, row_line, last, nothing, paper, head_of, head_count, order, StandsAt, key_of, AreBeforeRows, EndsWith, IsPast, AreEnded, IsInOrder, counts_in, as_counts, IsOtherNet, IsHeadFault, row_form, IsRoleFault, IsBodyReason}
use Rattle.cli_laws.specs.PaperKinds.{Says, IsReason, IsRefusedFor}
use Rattle.cli_laws.specs.Refusals.{Reason, HasReason}
use Rattle.cli_laws.proofs.RowOrder.{begins_one, key_long}

-- ---- the first word that is wrong

differ : (b : Bool) → b ≡ true → b ≡ false → ⊥
differ b h k = absurd cc

-- what is known of a word that is wrong
abbrev Known : Sorted → CertKind → Type 0
Known (name names, word) kind = (kind ≡ UnknownName) × (place_of names word ≡ None)
Known (number most, word) kind = ((kind ≡ BadNumber) × (is_number word ≡ false)) ⊎ ((kind ≡ TooLarge) × IsWrong (number most, word) TooLarge)
Known (decimal most, word) kind = ((kind ≡ BadNumber) × (is_decimal word ≡ false)) ⊎ ((kind ≡ TooLarge) × IsWrong (decimal most, word) TooLarge)
Known (no_word, word) kind = kind ≡ TooLarge

known : (w : Sorted) (kind : CertKind) → IsWrong w kind → Known w kind
known (name names, word) NoHeader h = absurd h
known (name names, word) Syntax h = absurd h
known (name names, word) UnknownName h = (refl, h)
known (name names, word) BadNumber h = absurd h
known (name names, word) TooLarge h = absurd h
known (name names, word) OtherNet h = absurd h
known (number most, word) NoHeader h = absurd h
known (number most, word) Syntax h = absurd h
known (number most, word) UnknownName h = absurd h
known (number most, word) BadNumber h = inl (refl, h)
known (number most, word) TooLarge h = inr (refl, h)
known (number most, word) OtherNet h = absurd h
known (decimal most, word) NoHeader h = absurd h
known (decimal most, word) Syntax h = absurd h
known (decimal most, word) UnknownName h = absurd h
known (decimal most, word) BadNumber h = inl (refl, h)
known (decimal most, word) TooLarge h = inr (refl, h)
known (decimal most, word) OtherNet h = absurd h
known (no_word, word) NoHeader h = absurd h
known (no_word, word) Syntax h = absurd h
known (no_word, word) UnknownName h = absurd h
known (no_word, word) BadNumber h = absurd h
known (no_word, word) TooLarge h = refl
known (no_word, word) OtherNet h = absurd h

one_of : (b : Bool) (k l : CertKind) (Q : Type 0) → (Q → b ≡ true) → ((k ≡ BadNumber) × (b ≡ false)) ⊎ ((k ≡ TooLarge) × Q) → ((l ≡ BadNumber) × (b ≡ false)) ⊎ ((l ≡ TooLarge) × Q) → k ≡ l
one_of b k l Q so (inl h) (inl i) = h.0 ∙ sym i.0
one_of b k l Q so (inl h) (inr i) = absurd (differ b (so i.1) h.1)
one_of b k l Q so (inr h) (inl i) = absurd (differ b (so h.1) i.1)
one_of b k l Q so (inr h) (inr i) = h.0 ∙ sym i.0

word_one : (w : Sorted) (k l : CertKind) → Known w k → Known w l → k ≡ l
word_one (name names, word) k l h i = h.0 ∙ sym i.0
word_one (number most, word) k l h i = one_of (is_number word) k l (IsWrong (number most, word) TooLarge) (λ q. q.0) h i
word_one (decimal most, word) k l h i = one_of (is_decimal word) k l (IsWrong (decimal most, word) TooLarge) (λ q. q.0) h i
word_one (no_word, word) k l h i = h ∙ sym i

wrong_or_right : (w : Sorted) (kind : CertKind) → IsRight w → Known w kind → ⊥
wrong_or_right (name names, word) kind (i, h) k = let e : None ≡ Some i = sym k.1 ∙ h in absurd cc
wrong_or_right (number most, word) kind h (inl k) = differ (is_number word) h.0 k.1
wrong_or_right (number most, word) kind h (inr k) = omega (arith, h.1, k.1.1)
wrong_or_right (decimal most, word) kind h (inl k) = differ (is_decimal word) h.0 k.1
wrong_or_right (decimal most, word) kind h (inr k) = omega (arith, h.1, k.1.1)
wrong_or_right (no_word, word) kind h k = h

head_is : {X : Type 0} (a b : X) (xs ys : List X) → a ∷ xs ≡ b ∷ ys → a ≡ b
head_is a b xs ys e = cc

tail_is : {X : Type 0} (a b : X) (xs ys : List X) → a ∷ xs ≡ b ∷ ys → xs ≡ ys
tail_is a b xs ys e = cc

first_one : (xs ys : List Sorted) (v w : Sorted) (after behind : List Sorted) (k l : CertKind) → xs ++ v ∷ after ≡ ys ++ w ∷ behind → AllByRecursion IsRight xs → AllByRecursion IsRight ys → IsWrong v k → IsWrong w l → k ≡ l
first_one [] [] v w after behind k l e h i wrong bad = word_one v k l (known v k wrong) (subst (λ (x : Sorted). Known x l) (sym (head_is v w after behind e)) (known w l bad))
first_one [] (y ∷ ys) v w after behind k l e h i wrong bad = absurd (wrong_or_right v k (subst IsRight (sym (head_is v y after (ys ++ w ∷ behind) e)) i.0) (known v k wrong))
first_one (x ∷ xs) [] v w after behind k l e h i wrong bad = absurd (wrong_or_right w l (subst IsRight (head_is x w (xs ++ v ∷ after) behind e) h.0) (known w l bad))
first_one (x ∷ xs) (y ∷ ys) v w after behind k l e h i wrong bad = first_one xs ys v w after behind k l (tail_is x y (xs ++ v ∷ after) (ys ++ w ∷ behind) e) h.1 i.1 wrong bad

fault_one : (form : Option (List Sorted)) (k l : CertKind) → IsLineFault form k → IsLineFault form l → k ≡ l
fault_one None k l h i = h ∙ sym i
fault_one (Some words) k l h i = first_one h.before i.before h.word i.word h.after i.after k l (sym h.parts ∙ i.parts) h.right i.right h.wrong i.wrong

all_right : (before after : List Sorted) (w : Sorted) (kind : CertKind) → AllByRecursion IsRight (before ++ w ∷ after) → IsWrong w kind → ⊥
all_right [] after w kind h wrong = wrong_or_right w kind h.0 (known w kind wrong)
all_right (x ∷ before) after w kind h wrong = all_right before after w kind h.1 wrong

numbers_right : (words : List (List ℕ)) → AllByRecursion (λ word. IsRight (number MAX_COUNT, word)) words → AllByRecursion IsRight (map (λ word. (number MAX_COUNT, word)) words)
numbers_right [] h = tt
numbers_right (word ∷ words) h = (h.0, numbers_right words h.1)

other_right : (sheet : Sheet) (line : Line) (k l : CertKind) → IsLineFault (as_counts (counts_in (count_words line))) k → IsOtherNet sheet line l → ⊥
other_right sheet line k l h o =
    let f = subst (λ (c : Option (List (List ℕ))). IsLineFault (as_counts c) k) o.form h in
    all_right f.before f.after f.word k (subst (AllByRecursion IsRight) f.parts (numbers_right o.words o.right)) f.wrong

-- ---- what a line has to be

head_one : (sheet : Sheet) (role : HeadRole) (line : Line) (k l : CertKind) → IsHeadFault sheet role line k → IsHeadFault sheet role line l → k ≡ l
head_one sheet verdict line k l h i = h.0 ∙ sym i.0
head_one sheet links line k l h i = h.0 ∙ sym i.0
head_one sheet modules line k l h i = h.0 ∙ sym i.0
head_one sheet counts line k l (inl h) (inl i) = fault_one (as_counts (counts_in (count_words line))) k l h i
head_one sheet counts line k l (inl h) (inr i) = absurd (other_right sheet line k l h i)
head_one sheet counts line k l (inr h) (inl i) = absurd (other_right sheet line l k i h)
head_one sheet counts line k l (inr h) (inr i) = h.other ∙ sym i.other
head_one sheet gap line k l h i = fault_one _ k l h i
head_one sheet phases line k l h i = fault_one _ k l h i
head_one sheet scale line k l h i = fault_one _ k l h i
head_one sheet (lower most) line k l h i = fault_one _ k l h i
head_one sheet upper line k l h i = fault_one _ k l h i
head_one sheet threshold line k l h i = fault_one _ k l h i

-- the last line of these begins so, and in no other way
last_is : (xs ys : List Line) (a b : Line) → xs ++ a ∷ [] ≡ ys ++ b ∷ [] → a ≡ b
last_is [] [] a b e = head_is a b [] [] e
last_is [] (y ∷ []) a b e = absurd cc
last_is [] (y ∷ z ∷ ys) a b e = absurd cc
last_is (x ∷ []) [] a b e = absurd cc
last_is (x ∷ z ∷ xs) [] a b e = absurd cc
last_is (x ∷ xs) (y ∷ ys) a b e = last_is xs ys a b (tail_is x y (xs ++ a ∷ []) (ys ++ b ∷ []) e)

ends_once : (kind : TextKind) (a b : RowRole) (lines : List Line) → EndsWith kind a lines → EndsWith kind b lines → a ≡ b
ends_once kind a b lines h k = begins_one a b h.1 h.4 (subst (λ (l : Line). begins (key_of b) l ≡ true) (sym (last_is h.0 k.0 h.1 k.1 (sym h.2 ∙ k.2))) k.4)

ends_late : (kind : TextKind) (role : RowRole) (lines : List Line) → AreBeforeRows kind lines → EndsWith kind role lines → ⊥
ends_late kind role lines h k = omega (arith, h, k.3, ap (λ (l : List Line). length l) k.2, length-append k.0 (k.1 ∷ []))

no_end : (key : List ℕ) (line : Line) → 3 < length key → begins key line ≡ true → join_with_byte 32 line ≡ codes "end" → ⊥
no_end key [] long h e = absurd cc
no_end key (word ∷ []) long h e = omega (arith, long, ap (λ (w : List ℕ). length w) (sym (same_bytes word key h) ∙ e))
no_end key (word ∷ next ∷ words) long h e =
    omega (arith, long, ap (λ (w : List ℕ). length w) (same_bytes word key h), length-append word (32 ∷ join_with_byte 32 (next ∷ words)), ap (λ (w : List ℕ). length w) e)

ended_late : (kind : TextKind) (role : RowRole) (lines : List Line) → AreEnded lines → EndsWith kind role lines → ⊥
ended_late kind role lines h k = no_end (key_of role) k.1 (key_long role) k.4 (ap (λ (l : Line). join_with_byte 32 l) (last_is k.0 h.0 k.1 h.1 (sym k.2 ∙ h.2)) ∙ h.3)

module _ (sheet : Sheet) (kind : TextKind) (before : List Line) (line : Line) (n : ℕ) (count : n ≡ length before + 1) where
  -- a line may have to be so, and is not
  abbrev Is : Role → CertKind → Type 0
  Is role k = StandsAt kind role n × IsInOrder kind role before line × IsRoleFault sheet role line k

  head_before : (role : HeadRole) → StandsAt kind (head_line role) n → n ≤ head_count kind
  head_before role h = omega (arith, h.0, slice_get_within (head_of kind) (n - 2) role h.1)

  same_head : (a b : HeadRole) → StandsAt kind (head_line a) n → StandsAt kind (head_line b) n → a ≡ b
  same_head a b h i = let e : Some a ≡ Some b = sym h.1 ∙ i.1 in cc

  row_last : (role : RowRole) (k l : CertKind) → Is (row_line role) k → Is last l → ⊥
  row_last role k l h i = by h.1 (i.1 role h.0.0 h.2.0)
    where
      by : AreBeforeRows kind before ⊎ ((earlier : RowRole) × (order earlier ≤ order role) × EndsWith kind earlier before) → IsPast kind role before → ⊥
      by (inl first) (later, lt, has, e) = ends_late kind later before first e
      by (inr (earlier, le, f)) (later, lt, has, e) = omega (arith, le, lt, ap (λ (r : RowRole). order r) (ends_once kind earlier later before f e))

  row_nothing : (role : RowRole) (k l : CertKind) → Is (row_line role) k → Is nothing l → ⊥
  row_nothing role k l h i = by h.1
    where
      by : AreBeforeRows kind before ⊎ ((earlier : RowRole) × (order earlier ≤ order role) × EndsWith kind earlier before) → ⊥
      by (inl first) = omega (arith, count, first, i.0)
      by (inr (earlier, le, e)) = ended_late kind earlier before i.1 e

  rows_one : (a b : RowRole) (k l : CertKind) → Is (row_line a) k → Is (row_line b) l → k ≡ l
  rows_one a b k l h i = fault_one (row_form sheet a line) k l h.2.1 (subst (λ (r : RowRole). IsLineFault (row_form sheet r line) l) (begins_one b a line i.2.0 h.2.0) i.2.1)

  roles_one : (a b : Role) (k l : CertKind) → Is a k → Is b l → k ≡ l
  roles_one (head_line a) (head_line b) k l h i = head_one sheet b line k l (subst (λ (r : HeadRole). IsHeadFault sheet r line k) (same_head a b h.0 i.0) h.2) i.2
  roles_one (head_line a) (row_line b) k l h i = absurd (omega (arith, head_before a h.0, i.0.1))
  roles_one (head_line a) last k l h i = absurd (omega (arith, head_before a h.0, i.0))
  roles_one (head_line a) nothing k l h i = absurd (omega (arith, head_before a h.0, i.0))
  roles_one (row_line a) (head_line b) k l h i = absurd (omega (arith, h.0.1, head_before b i.0))
  roles_one (row_line a) (row_line b) k l h i = rows_one a b k l h i
  roles_one (row_line a) last k l h i = absurd (row_last a k l h i)
  roles_one (row_line a) nothing k l h i = absurd (row_nothing a k l h i)
  roles_one last (head_line b) k l h i = absurd (omega (arith, h.0, head_before b i.0))
  roles_one last (row_line b) k l h i = absurd (row_last b l k i h)
  roles_one last last k l h i = h.2.0 ∙ sym i.2.0
  roles_one last nothing k l h i = h.2.0 ∙ sym i.2
  roles_one nothing (head_line b) k l h i = absurd (omega (arith, h.0, head_before b i.0))
  roles_one nothing (row_line b) k l h i = absurd (row_nothing b l k i h)
  roles_one nothing last k l h i = h.2 ∙ sym i.2.0
  roles_one nothing nothing k l h i = h.2 ∙ sym i.2

-- ---- a text

body_one : (sheet : Sheet) (kind : TextKind) (before : List Line) (line : Line) (after : List Line) (r e : CertRefusal) → r.line ≡ length before + 1 → r.line ≡ e.line → IsBodyReason sheet kind before line after r → IsBodyReason sheet kind before line after e → r.kind ≡ e.kind
body_one sheet kind before line after r e count same (inl h) (inl i) = h.1 ∙ sym i.1
body_one sheet kind before line after r e count same (inl h) (inr i) = absurd (i.0 h.0)
body_one sheet kind before line after r e count same (inr h) (inl i) = absurd (h.0 i.0)
body_one sheet kind before line after r e count same (inr (_, a, s, o, f)) (inr (_, b, t, p, g)) =
    roles_one sheet kind before line r.line count a b r.kind e.kind (s, o, f) (subst (StandsAt kind b) (sym same) t, p, g)

record Same (xs ys : List Line) (a b : Line) (behind others : List Line) : Type 0 where
  before : xs ≡ ys
  line : a ≡ b
  after : behind ≡ others

same_parts : (xs ys : List Line) (a b : Line) (after behind : List Line) → length xs ≡ length ys → xs ++ a ∷ after ≡ ys ++ b ∷ behind → Same xs ys a b after behind
same_parts [] [] a b after behind n e = record { before = refl; line = head_is a b after behind e; after = tail_is a b after behind e }
same_parts [] (y ∷ ys) a b after behind n e = absurd (omega (arith, n))
same_parts (x ∷ xs) [] a b after behind n e = absurd (omega (arith, n))
same_parts (x ∷ xs) (y ∷ ys) a b after behind n e =
    let s = same_parts xs ys a b after behind (omega (arith, n)) (tail_is x y (xs ++ a ∷ after) (ys ++ b ∷ behind) e) in
    record { before = ap (λ (h : Line). h ∷ xs) (head_is x y (xs ++ a ∷ after) (ys ++ b ∷ behind) e) ∙ ap (λ (l : List Line). y ∷ l) s.before; line = s.line; after = s.after }

says_one : (lines : List Line) (o p : Opening) → Says lines o → Says lines p → o ≡ p
says_one [] o p h k = absurd h
says_one (line ∷ lines) o p h k = let e : Some o ≡ Some p = sym h ∙ k in cc

no_header : (before : List Line) (line : Line) (after : List Line) (o : Opening) → 1 ≡ length before + 1 → form_of line ≡ None → Says (before ++ line ∷ after) o → ⊥
no_header [] line after o count none says = let e : None ≡ Some o = sym none ∙ says in absurd cc
no_header (x ∷ before) line after o count none says = absurd (omega (arith, count))

-- reasons of one line have one kind, where those of one line between the same others have
one_reason : (lines : List Line) (Why : Reason)
    → ((before : List Line) (line : Line) (after : List Line) (r e : CertRefusal) → lines ≡ before ++ line ∷ after → r.line ≡ length before + 1 → r.line ≡ e.line → Why before line after r → Why before line after e → r.kind ≡ e.kind)
    → (r e : CertRefusal) → HasReason lines Why r → HasReason lines Why e → r.line ≡ e.line → r.kind ≡ e.kind
one_reason lines Why one r e h i same =
    let s = same_parts h.before i.before h.line i.line h.after i.after (omega (arith, h.count, i.count, same)) (sym h.parts ∙ i.parts) in
    one h.before h.line h.after r e h.parts h.count same h.reason
    (subst (λ (b : List Line). Why b h.line h.after e) (sym s.before) (subst (λ (l : Line). Why i.before l h.after e) (sym s.line) (subst (λ (a : List Line). Why i.before i.line a e) (sym s.after) i.reason)))

paper_one : (sheets : Sheets) (lines before : List Line) (line : Line) (after : List Line) (r e : CertRefusal) → lines ≡ before ++ line ∷ after → r.line ≡ length before + 1 → r.line ≡ e.line
    → IsReason sheets lines before line after r → IsReason sheets lines before line after e → r.kind ≡ e.kind
paper_one sheets lines before line after r e parts count same (inl h) (inl i) = h.2 ∙ sym i.2
paper_one sheets lines before line after r e parts count same (inl h) (inr (o, says, i)) = absurd (no_header before line after o (sym h.0 ∙ count) h.1 (subst (λ (l : List Line). Says l o) parts says))
paper_one sheets lines before line after r e parts count same (inr (o, says, h)) (inl i) = absurd (no_header before line after o (sym i.0 ∙ sym same ∙ count) i.1 (subst (λ (l : List Line). Says l o) parts says))
paper_one sheets lines before line after r e parts count same (inr (o, says, h)) (inr (p, says', i)) =
    body_one (sheet_for sheets o.form) (paper o.kind) before line after r e count same h
    (subst (λ (q : Opening). IsBodyReason (sheet_for sheets q.form) (paper q.kind) before line after e) (sym (says_one lines o p says says')) i)

pub kind_one : (sheets : Sheets) (lines : List Line) (r e : CertRefusal) → IsRefusedFor sheets lines r → IsRefusedFor sheets lines e → r.line ≡ e.line → r.kind ≡ e.kind
kind_one sheets lines r e h i same = one_reason lines (IsReason sheets lines) (paper_one sheets lines) r e h i same

head_paper_one : (lines before : List Line) (line : Line) (after : List Line) (r e : CertRefusal) → lines ≡ before ++ line ∷ after → r.line ≡ length before + 1 → r.line ≡ e.line → IsHeadReason lines before line after r → IsHeadReason lines before line after e → r.kind ≡ e.kind
head_paper_one lines before line after r e parts count same (inl h) (inl i) = h.2 ∙ sym i.2
head_paper_one lines before line after r e parts count same (inl h) (inr (_, o, says, i)) = absurd (no_header before line after o (sym h.0 ∙ count) h.1 (subst (λ (l : List Line). Says l o) parts says))
head_paper_one lines before line after r e parts count same (inr (_, o, says, h)) (inl i) = absurd (no_header before line after o (sym i.0 ∙ sym same ∙ count) i.1 (subst (λ (l : List Line). Says l o) parts says))
head_paper_one lines before line after r e parts count same (inr h) (inr i) = h.0 ∙ sym i.0

pub head_kind_one : (lines : List Line) (r e : CertRefusal) → IsHeadRefusedFor lines r → IsHeadRefusedFor lines e → r.line ≡ e.line → r.kind ≡ e.kind
head_kind_one lines r e h i same = one_reason lines (IsHeadReason lines) (head_paper_one lines) r e h i same

-- ---- a text of one header

first_under : (header : List ℕ) (before : List Line) (line : Line) (after : List Line) → 1 ≡ length before + 1 → IsUnder header (before ++ line ∷ after) → join_with_byte 32 line ≡ header
first_under header [] line after count h = h
first_under header (x ∷ before) line after count h = absurd (omega (arith, count))

-- where the first line is no header, no line follows one
not_under : (header : List ℕ) (lines before : List Line) (line : Line) (after : List Line) → lines ≡ before ++ line ∷ after → 1 ≡ length before + 1 → join_with_byte 32 line ≢ header → IsUnder header lines → ⊥
not_under header lines before line after parts count other is = other (first_under header before line after count (subst (IsUnder header) parts is))

under_one : (header : List ℕ) (sheet : Sheet) (kind : TextKind) (lines before : List Line) (line : Line) (after : List Line) (r e : CertRefusal) → lines ≡ before ++ line ∷ after → r.line ≡ length before + 1 → r.line ≡ e.line
    → IsReasonUnder header sheet kind lines before line after r → IsReasonUnder header sheet kind lines before line after e → r.kind ≡ e.kind
under_one header sheet kind lines before line after r e parts count same (inl h) (inl i) = h.2 ∙ sym i.2
under_one header sheet kind lines before line after r e parts count same (inl h) (inr i) = absurd (not_under header lines before line after parts (sym h.0 ∙ count) h.1 i.0)
under_one header sheet kind lines before line after r e parts count same (inr h) (inl i) = absurd (not_under header lines before line after parts (sym i.0 ∙ sym same ∙ count) i.1 h.0)
under_one header sheet kind lines before line after r e parts count same (inr h) (inr i) = body_one sheet kind before line after r e count same h.1 i.1

pub kind_one_under : (header : List ℕ) (sheet : Sheet) (kind : TextKind) (lines : List Line) (r e : CertRefusal) → HasReason lines (IsReasonUnder header sheet kind lines) r → HasReason lines (IsReasonUnder header sheet kind lines) e → r.line ≡ e.line → r.kind ≡ e.kind
kind_one_under header sheet kind lines r e h i same = one_reason lines (IsReasonUnder header sheet kind lines) (under_one header sheet kind lines) r e h i same

head_under_one : (header : List ℕ) (kind : TextKind) (lines before : List Line) (line : Line) (after : List Line) (r e : CertRefusal) → lines ≡ before ++ line ∷ after → r.line ≡ length before + 1 → r.line ≡ e.line
    → IsHeadReasonUnder header kind lines before line after r → IsHeadReasonUnder header kind lines before line after e → r.kind ≡ e.kind
head_under_one header kind lines before line after r e parts count same (inl h) (inl i) = h.2 ∙ sym i.2
head_under_one header kind lines before line after r e parts count same (inl h) (inr i) = absurd (not_under header lines before line after parts (sym h.0 ∙ count) h.1 i.1)
head_under_one header kind lines before line after r e parts count same (inr h) (inl i) = absurd (not_under header lines before line after parts (sym i.0 ∙ sym same ∙ count) i.1 h.1)
head_under_one header kind lines before line after r e parts count same (inr h) (inr i) = h.0 ∙ sym i.0

pub head_one_under : (header : List ℕ) (kind : TextKind) (lines : List Line) (r e : CertRefusal) → HasReason lines (IsHeadReasonUnder header kind lines) r → HasReason lines (IsHeadReasonUnder header kind lines) e → r.line ≡ e.line → r.kind ≡ e.kind
head_one_under header kind lines r e h i same = one_reason lines (IsHeadReasonUnder header kind lines) (head_under_one header kind lines) r e h i same
