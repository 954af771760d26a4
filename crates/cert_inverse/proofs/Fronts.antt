-- Fronts of texts, and texts with something behind them.
use Rattle.std.proofs.Common.{◌≡◌, ℕ, ◌+◌, ◌<◌, true, false, eqb, List, [], ◌∷◌, ◌++◌, length, Err, refl, sym, ap, subst, ◌∙◌, append_assoc, arith}
use Rattle.std.specs.Prelude.{map}
use Rattle.std.specs.List.{AllByRecursion, join_with_byte}
use Rattle.std.proofs.lemmas.List.{length-append, length-map}
use Rattle.std.proofs.lemmas.List.Concat.{flat_map-cons}
use Rattle.std.proofs.lemmas.List.Elements.{All-from_recursion}
use Rattle.std.proofs.lemmas.List.Splits.{slice_split_at}
use Rattle.text_lines.specs.Lines.{Line, IsInside, IsLine, spelled, text_of, words_of, lines_of}
use Rattle.text_lines.proofs.Laws.{words_of-joined}
use Rattle.cert_lines.specs.Sheet.{Sheet, Sheets, sheet_for}
use Rattle.cert_lines.specs.declared.form.Form.{Form}
use Rattle.cert_lines.specs.declared.refusal.CertKind.TheVariants.{Syntax}
use Rattle.cert_lines.specs.Spelling.{length_words, potential_words, path_words}
use Rattle.cert_lines.specs.Forms.{is_full}
use Rattle.cert_text.specs.declared.papers.Paper.{Paper}
use Rattle.cert_text.specs.declared.papers.Paper.TheVariants as papers
use Rattle.cert_text.specs.Whole.{paper_in}
use Rattle.cert_text.proofs.LineSteps.{has_line, text_bytes}
use Rattle.cert_writer.specs.Text.{end_line}
use Rattle.cert_judge.specs.Fits.{FitsPaper, read}
use Rattle.cert_inverse.specs.Inverse.{AreInForms, IsCitable, paper_lines, paper_text, refused_behind}
use Rattle.cert_inverse.proofs.Words.{full_word}
use Rattle.cert_inverse.proofs.Headers.{forms_are, forms_meet}
use Rattle.cert_inverse.proofs.TextAgain.{end_of, paper_clean, text_is_of_lines, reads_back, refused_with}
use Rattle.cert_inverse.proofs.TextTakes.{is_read}

-- ---- lines, and what follows them

no_feed : (word : List ℕ) → AllByRecursion IsInside word → AllByRecursion (λ b. eqb b 10 ≡ false) word
no_feed [] h = tt
no_feed (b ∷ word) h = (h.0.1, no_feed word h.1)

both : (xs ys : List ℕ) → AllByRecursion (λ b. eqb b 10 ≡ false) xs → AllByRecursion (λ b. eqb b 10 ≡ false) ys → AllByRecursion (λ b. eqb b 10 ≡ false) (xs ++ ys)
both [] ys h k = k
both (x ∷ xs) ys h k = (h.0, both xs ys h.1 k)

no_feeds : (line : Line) → IsLine line → AllByRecursion (λ b. eqb b 10 ≡ false) (join_with_byte 32 line)
no_feeds [] h = absurd h
no_feeds (word ∷ []) h = no_feed word h.0
no_feeds (word ∷ next ∷ words) h = both word (32 ∷ join_with_byte 32 (next ∷ words)) (no_feed word h.0) (refl, no_feeds (next ∷ words) h.1)

lines_then : (lines : List Line) (back : List ℕ) → AllByRecursion IsLine lines → lines_of (text_of lines ++ back) ≡ lines ++ lines_of back
lines_then [] back h = refl
lines_then (line ∷ lines) back h =
    let bytes = join_with_byte 32 line in
    let e : text_of (line ∷ lines) ++ back ≡ bytes ++ (10 ∷ (text_of lines ++ back)) =
    ap (λ (l : List ℕ). l ++ back) (flat_map-cons spelled line lines ∙ append_assoc bytes (10 ∷ []) (text_of lines)) ∙ append_assoc bytes (10 ∷ text_of lines) back in
    let s = slice_split_at (λ b. eqb b 10) bytes 10 (text_of lines ++ back) (All-from_recursion (λ b. eqb b 10 ≡ false) bytes (no_feeds line h.0)) refl in
    let first : words_of bytes ≡ line = words_of-joined line h.0 in
    ap lines_of e ∙ ap (map words_of) s ∙ rw (first, lines_then lines back h.1) refl

-- ---- how many lines there are

rows_count : {X : Type 0} (f : X → Line) (rows : List X) (rest : List Line) → length (map f rows ++ rest) ≡ length rows + length rest
rows_count f rows rest = length-append (map f rows) rest ∙ ap (λ (n : ℕ). n + length rest) (length-map rows f)

line_count : (sheet : Sheet) (paper : Paper) → length (paper_lines sheet paper) ≡ end_of paper
line_count sheet (papers.Routing r) = let rows = rows_count (path_words sheet) r.paths (end_line ∷ []) in omega arith
line_count sheet (papers.Full p) =
    let potentials = map (potential_words sheet) p.dual.potentials ++ end_line ∷ [] in
    let last = rows_count (potential_words sheet) p.dual.potentials (end_line ∷ []) in
    let lengths = rows_count (length_words sheet) p.dual.lengths potentials in
    let paths = rows_count (path_words sheet) p.routing.paths (map (length_words sheet) p.dual.lengths ++ potentials) in
    omega arith

-- ---- laws

pub longer : (sheets : Sheets) (form : Form) (paper : Paper) (back : List ℕ) → AreInForms sheets → IsCitable (sheet_for sheets form) → FitsPaper (sheet_for sheets form) paper → 0 < length back
    → paper_in sheets (lines_of (paper_text (sheet_for sheets form) paper ++ back)) ≡ refused_behind (sheet_for sheets form) paper
longer sheets form paper back forms own fits some =
    let sheet = sheet_for sheets form in
    let full : is_full (back) ≡ true = full_word back some in
    ap (λ (text : List ℕ). paper_in sheets (lines_of (text ++ back))) (text_is_of_lines sheet paper)
    ∙ ap (paper_in sheets) (lines_then (paper_lines sheet paper) back (paper_clean sheet form paper (forms_are sheets form forms) own fits))
    ∙ refused_with sheets form paper (lines_of back) forms own fits (has_line back) (ap is_full (text_bytes back) ∙ full)
    ∙ ap (λ (n : ℕ). Err (record { line = n + 1; kind = Syntax })) (sym (line_count sheet paper))

pub fronts : (sheets : Sheets) (form : Form) (paper other : Paper) (front back : List ℕ) → AreInForms sheets → IsCitable (sheet_for sheets form) → FitsPaper (sheet_for sheets form) paper → 0 < length back
    → paper_text (sheet_for sheets form) paper ≡ front ++ back → paper_in sheets (lines_of front) ≡ read other → ⊥
fronts sheets form paper other front back forms own fits some whole e =
    let sheet = sheet_for sheets form in
    let r = is_read sheets (lines_of front) other forms e in
    let spelled : front ≡ paper_text (sheet_for sheets r.form) other = sym (text_bytes front) ∙ r.bytes in
    let behind : paper_text sheet paper ≡ paper_text (sheet_for sheets r.form) other ++ back = whole ∙ ap (λ (l : List ℕ). l ++ back) spelled in
    let is : r.form ≡ form = sym (forms_meet sheets form r.form paper other back forms behind) in
    let same : paper_text sheet paper ≡ paper_text sheet other ++ back = subst (λ (f : Form). paper_text sheet paper ≡ paper_text (sheet_for sheets f) other ++ back) is behind in
    let fit : FitsPaper sheet other = subst (λ (f : Form). FitsPaper (sheet_for sheets f) other) is r.fits.1 in
    let refused : read paper ≡ refused_behind sheet other = sym (reads_back sheets form paper forms own fits) ∙ ap (λ (text : List ℕ). paper_in sheets (lines_of text)) same ∙ longer sheets form other back forms own fit some in
    absurd cc
