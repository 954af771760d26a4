-- Whole texts: what is spelled is read.
use Rattle.std.proofs.Common.{◌≡◌, ℕ, ◌+◌, ◌≤◌, Bool, true, List, [], ◌∷◌, ◌++◌, length, Result, Ok, Err, refl, sym, ap, subst, ◌∙◌, append_assoc, arith}
use Rattle.std.specs.Prelude.{codes, map}
use Rattle.std.specs.List.{AllByRecursion}
use Rattle.text_lines.specs.Lines.{Line, IsLine, lines_of, text_of}
use Rattle.text_lines.proofs.Laws.{ended, lines_of-text}
use Rattle.flow_model.specs.Routing.{Row}
use Rattle.flow_paths.specs.DualRows.{DualRows}
use Rattle.flow_paths.specs.declared.certificate.Routing.{Routing}
use Rattle.flow_paths.specs.declared.certificate.Printed.{Printed}
use Rattle.flow_paths.specs.declared.certificate.Proof.{Proof}
use Rattle.gap_fraction.specs.declared.fraction.TheConstants.{MAX_PART}
use Rattle.mcf_limits.specs.declared.TheConstants.{MAX_GAP, MAX_LENGTH, MAX_PHASES, MAX_UNITS}
use Rattle.cert_lines.specs.Sheet.{Sheet, Sheets, sheet_for}
use Rattle.cert_lines.specs.declared.form.Form.{Form}
use Rattle.cert_lines.specs.declared.form.Form.TheVariants.{First, Second}
use Rattle.cert_lines.specs.declared.refusal.CertKind.TheVariants.{Syntax}
use Rattle.cert_lines.specs.declared.refusal.CertRefusal.{CertRefusal}
use Rattle.cert_lines.specs.Forms.{◌>>=◌, is_full}
use Rattle.cert_lines.specs.HeadLines.{verdict_line, counts_line, gap_line, phases_line, scale_line, value_line}
use Rattle.cert_lines.specs.Rows.{path_row, length_row, potential_row}
use Rattle.cert_lines.specs.Spelling.{verdict_words, links_words, modules_words, counts_words, gap_words, phases_words, scale_words, value_words, length_words, potential_words, path_words, FitsValue, FitsLength, FitsPotential, FitsPath}
use Rattle.cert_text.specs.declared.papers.Paper.{Paper}
use Rattle.cert_text.specs.declared.papers.Paper.TheVariants as papers
use Rattle.cert_text.specs.declared.opening.Kind.TheVariants as kinds
use Rattle.cert_text.specs.Reading.{has_more, mode_line, rows_from, bytes_of, closing}
use Rattle.cert_text.specs.Papers.{modes_at, scale_at, opening_at, counted_at, values_at, dual_at, routing_at, routing_from, proof_at, proof_from}
use Rattle.cert_text.specs.Whole.{paper_at, paper_in}
use Rattle.cert_writer.specs.Text.{end_line, FitsRouting, FitsProof}
use Rattle.cert_judge.specs.Fits.{FitsPaper}
use Rattle.cert_inverse.specs.Inverse.{AreInForms, IsCitable, form_word, paper_lines, paper_text}
use Rattle.cert_inverse.proofs.HeadAgain.{verdict_again, mode_again, gap_again, phases_again, scale_again, value_again, counts_again}
use Rattle.cert_inverse.proofs.RowAgain.{path_again, length_again, potential_again}
use Rattle.cert_inverse.proofs.Clean.{Clean, clean, routing_clean, certificate_clean}
use Rattle.cert_inverse.proofs.Headers.{header_words, forms_are, header_again}
use Rattle.cert_inverse.proofs.PlacesAgain.{place, Stops, stops_rows, more_rows, next_again, rows_again, closing_again, closing_over}

-- ---- parts

pub modes_again : (sheet : Sheet) (at : ℕ) (rest : List Line) → IsCitable sheet → has_more rest ≡ true → modes_at sheet (place at (links_words sheet ∷ modules_words sheet ∷ rest)) ≡ Ok (place (at + 1 + 1) rest)
unfolding modes_at
modes_again sheet at rest own more =
    let links = next_again (mode_line (codes "links") sheet.link_mode) at (links_words sheet) (modules_words sheet ∷ rest) tt refl (mode_again (codes "links") sheet.link_mode own.clear.full_modes.0) in
    let modules = next_again (mode_line (codes "modules") sheet.module_mode) (at + 1) (modules_words sheet) rest tt more (mode_again (codes "modules") sheet.module_mode own.clear.full_modes.1) in
    rw (links, modules) refl

pub opening_again : (sheet : Sheet) (closed : Bool) (gap at : ℕ) (rest : List Line) → IsCitable sheet → gap ≤ MAX_GAP → has_more rest ≡ true
    → opening_at sheet (place at (verdict_words closed ∷ links_words sheet ∷ modules_words sheet ∷ counts_words sheet ∷ gap_words gap ∷ rest)) ≡ Ok ((closed, gap), place (at + 1 + 1 + 1 + 1 + 1) rest)
unfolding opening_at counted_at
opening_again sheet closed gap at rest own small more =
    let behind_counts = gap_words gap ∷ rest in
    let behind_modes = counts_words sheet ∷ behind_counts in
    let verdict = next_again verdict_line at (verdict_words closed) (links_words sheet ∷ modules_words sheet ∷ behind_modes) closed refl (verdict_again closed) in
    let modes = modes_again sheet (at + 1) behind_modes own refl in
    let counts = next_again (counts_line sheet) (at + 1 + 1 + 1) (counts_words sheet) behind_counts tt refl (counts_again sheet own.counts) in
    let last = next_again gap_line (at + 1 + 1 + 1 + 1) (gap_words gap) rest gap more (gap_again gap small) in
    rw (verdict, modes, counts, last) refl

pub scale_at_again : (phases capacity load at : ℕ) (rest : List Line) → phases ≤ MAX_PHASES → capacity ≤ MAX_UNITS → load ≤ MAX_LENGTH → has_more rest ≡ true
    → scale_at (place at (phases_words phases ∷ scale_words (capacity, load) ∷ rest)) ≡ Ok ((phases, (capacity, load)), place (at + 1 + 1) rest)
unfolding scale_at
scale_at_again phases capacity load at rest p c l more =
    let first = next_again phases_line at (phases_words phases) (scale_words (capacity, load) ∷ rest) phases refl (phases_again phases p) in
    let second = next_again scale_line (at + 1) (scale_words (capacity, load)) rest (capacity, load) more (scale_again capacity load c l) in
    rw (first, second) refl

pub values_again : (lower upper : Printed) (at : ℕ) (rest : List Line) → FitsValue MAX_LENGTH lower → FitsValue MAX_PART upper → has_more rest ≡ true
    → values_at (place at (value_words (codes "lower") lower ∷ value_words (codes "upper") upper ∷ rest)) ≡ Ok ((lower, upper), place (at + 1 + 1) rest)
unfolding values_at
values_again lower upper at rest l u more =
    let first = next_again (value_line (codes "lower") MAX_LENGTH) at (value_words (codes "lower") lower) (value_words (codes "upper") upper ∷ rest) lower refl (value_again (codes "lower") MAX_LENGTH lower (omega arith) l) in
    let second = next_again (value_line (codes "upper") MAX_PART) (at + 1) (value_words (codes "upper") upper) rest upper more (value_again (codes "upper") MAX_PART upper (omega arith) u) in
    rw (first, second) refl

pub paths_again : (sheet : Sheet) (at : ℕ) (rows : List Row) (rest : List Line) → IsCitable sheet → AllByRecursion (FitsPath sheet) rows → Stops (codes "path") rest
    → rows_from (codes "path") (path_row sheet) at (map (path_words sheet) rows ++ rest) ≡ Ok (rows, place (at + length rows) rest)
paths_again sheet at rows rest own fit stop = rows_again (codes "path") (path_row sheet) (path_words sheet) (FitsPath sheet) (λ x h. path_again sheet x own.clear h) (λ x. refl) at rows rest fit stop

-- the lines from the length rows on, and what stands behind the last line
abbrev pub from_lengths : Sheet → DualRows → List Line → List Line
from_lengths sheet d tail = map (length_words sheet) d.lengths ++ (map (potential_words sheet) d.potentials ++ (end_line ∷ tail))

abbrev from_paths : Sheet → Proof → List Line → List Line
from_paths sheet p tail = map (path_words sheet) p.routing.paths ++ from_lengths sheet p.dual tail

pub dual_again : (sheet : Sheet) (at : ℕ) (d : DualRows) (tail : List Line) → IsCitable sheet → AllByRecursion (FitsLength sheet) d.lengths → AllByRecursion (FitsPotential sheet) d.potentials
    → dual_at sheet (place at (from_lengths sheet d tail)) ≡ Ok (d, place (at + length d.lengths + length d.potentials) (end_line ∷ tail))
unfolding dual_at
dual_again sheet at d tail own ls ps =
    let from_potentials = map (potential_words sheet) d.potentials ++ (end_line ∷ tail) in
    let lengths = rows_again (codes "length") (length_row sheet) (length_words sheet) (FitsLength sheet) (λ x h. length_again sheet x own.clear h) (λ x. refl) at d.lengths from_potentials ls (stops_rows (codes "length") (potential_words sheet) (λ x. refl) d.potentials (end_line ∷ tail) refl) in
    let potentials = rows_again (codes "potential") (potential_row sheet) (potential_words sheet) (FitsPotential sheet) (λ x h. potential_again sheet x own.clear h) (λ x. refl) (at + length d.lengths) d.potentials (end_line ∷ tail) ps refl in
    rw (lengths, potentials) refl

stops_paths : (sheet : Sheet) (d : DualRows) (tail : List Line) → Stops (codes "path") (from_lengths sheet d tail)
stops_paths sheet d tail = stops_rows (codes "path") (length_words sheet) (λ x. refl) d.lengths (map (potential_words sheet) d.potentials ++ (end_line ∷ tail)) (stops_rows (codes "path") (potential_words sheet) (λ x. refl) d.potentials (end_line ∷ tail) refl)

-- ---- what follows the header

-- what reading the last line gives where the lines of tail stand behind it, by the number of the line
pub record Ends (tail : List Line) (ends : ℕ → Result (Unit {0}) CertRefusal) : Type 0 where
  pub is : (at : ℕ) → closing (place at (end_line ∷ tail)) ≡ ends at

abbrev from_phases : Routing → List Line → List Line
from_phases r rest = phases_words r.phases ∷ scale_words (r.scale_cap, r.scale_load) ∷ rest

routing_again : (sheet : Sheet) (at : ℕ) (r : Routing) (tail : List Line) (ends : ℕ → Result (Unit {0}) CertRefusal) → IsCitable sheet → FitsRouting sheet r → Ends tail ends
    → routing_at sheet (place at (links_words sheet ∷ modules_words sheet ∷ from_phases r (map (path_words sheet) r.paths ++ (end_line ∷ tail)))) ≡ (ends (at + 1 + 1 + 1 + 1 + length r.paths) >>= λ last. Ok r)
unfolding routing_at routing_from
routing_again sheet at r tail ends own fits end =
    let rows = map (path_words sheet) r.paths ++ (end_line ∷ tail) in
    let modes = modes_again sheet at (from_phases r rows) own refl in
    let scale = scale_at_again r.phases r.scale_cap r.scale_load (at + 1 + 1) rows fits.phases fits.scale_cap fits.scale_load (more_rows (codes "path") (path_words sheet) r.paths (end_line ∷ tail) refl) in
    let paths = paths_again sheet (at + 1 + 1 + 1 + 1) r.paths (end_line ∷ tail) own fits.paths refl in
    rw (modes, scale, paths, end.is (at + 1 + 1 + 1 + 1 + length r.paths)) refl

abbrev from_links : Sheet → Proof → List Line → List Line
from_links sheet p rest = links_words sheet ∷ modules_words sheet ∷ counts_words sheet ∷ gap_words p.gap ∷ from_phases p.routing (value_words (codes "lower") p.lower ∷ value_words (codes "upper") p.upper ∷ rest)

abbrev behind_proof : Sheet → Proof → List Line → List Line
behind_proof sheet p rest = verdict_words p.closed ∷ from_links sheet p rest

abbrev proof_end : ℕ → Proof → ℕ
proof_end at p = at + 1 + 1 + 1 + 1 + 1 + 1 + 1 + 1 + 1 + length p.routing.paths + length p.dual.lengths + length p.dual.potentials

proof_again : (sheet : Sheet) (at : ℕ) (p : Proof) (tail : List Line) (ends : ℕ → Result (Unit {0}) CertRefusal) → IsCitable sheet → FitsProof sheet p → Ends tail ends → proof_at sheet (place at (behind_proof sheet p (from_paths sheet p tail))) ≡ (ends (proof_end at p) >>= λ last. Ok p)
unfolding proof_at proof_from
proof_again sheet at p tail ends own fits end =
    let from_values = value_words (codes "lower") p.lower ∷ value_words (codes "upper") p.upper ∷ from_paths sheet p tail in
    let r = p.routing in
    let opening = opening_again sheet p.closed p.gap at (from_phases r from_values) own fits.gap refl in
    let scale = scale_at_again r.phases r.scale_cap r.scale_load (at + 1 + 1 + 1 + 1 + 1) from_values fits.routing.phases fits.routing.scale_cap fits.routing.scale_load refl in
    let values = values_again p.lower p.upper (at + 1 + 1 + 1 + 1 + 1 + 1 + 1) (from_paths sheet p tail) fits.lower fits.upper (more_rows (codes "path") (path_words sheet) r.paths (from_lengths sheet p.dual tail) (stops_paths sheet p.dual tail)) in
    let from : ℕ = at + 1 + 1 + 1 + 1 + 1 + 1 + 1 + 1 + 1 in
    let paths = paths_again sheet from r.paths (from_lengths sheet p.dual tail) own fits.routing.paths (stops_paths sheet p.dual tail) in
    let dual = dual_again sheet (from + length r.paths) p.dual tail own fits.lengths fits.potentials in
    rw (opening, scale, values, paths, dual, end.is (proof_end at p)) refl

-- ---- the whole

-- the number of the last line
abbrev pub end_of : Paper → ℕ
end_of (papers.Routing r) = 6 + length r.paths
end_of (papers.Full p) = 11 + length p.routing.paths + length p.dual.lengths + length p.dual.potentials

-- lines of these papers, and what stands behind them
lines_with : (sheets : Sheets) (form : Form) (paper : Paper) (tail : List Line) (ends : ℕ → Result (Unit {0}) CertRefusal) → AreInForms sheets → IsCitable (sheet_for sheets form) → FitsPaper (sheet_for sheets form) paper → Ends tail ends
    → paper_in sheets (paper_lines (sheet_for sheets form) paper ++ tail) ≡ (ends (end_of paper) >>= λ last. Ok paper)
unfolding paper_in paper_at
lines_with sheets form (papers.Routing r) tail ends forms own fits end =
    let sheet = sheet_for sheets form in
    let rows = map (path_words sheet) r.paths in
    let behind = modules_words sheet ∷ from_phases r (rows ++ (end_line ∷ tail)) in
    let first = header_again kinds.Routing form sheet.form (links_words sheet) behind (forms_are sheets form forms) in
    ap (λ (ls : List Line). paper_in sheets (header_words kinds.Routing sheet.form ∷ links_words sheet ∷ modules_words sheet ∷ from_phases r ls)) (append_assoc rows (end_line ∷ []) tail)
    ∙ rw (first, routing_again sheet 2 r tail ends own fits end) (bound (ends (end_of (papers.Routing r))))
  where
    bound : (read : Result (Unit {0}) CertRefusal) → ((read >>= λ last. Ok r) >>= λ q. Ok (papers.Routing q)) ≡ (read >>= λ last. Ok (papers.Routing r))
    bound (Ok u) = refl
    bound (Err e) = refl
lines_with sheets form (papers.Full p) tail ends forms own fits end =
    let sheet = sheet_for sheets form in
    let paths = map (path_words sheet) p.routing.paths in
    let lengths = map (length_words sheet) p.dual.lengths in
    let potentials = map (potential_words sheet) p.dual.potentials in
    let last : (paths ++ (lengths ++ (potentials ++ end_line ∷ []))) ++ tail ≡ paths ++ (lengths ++ (potentials ++ (end_line ∷ tail))) = simp append_assoc in
    let behind = from_links sheet p (from_paths sheet p tail) in
    let first = header_again kinds.Certificate form sheet.form (verdict_words p.closed) behind (forms_are sheets form forms) in
    ap (λ (ls : List Line). paper_in sheets (header_words kinds.Certificate sheet.form ∷ behind_proof sheet p ls)) last
    ∙ rw (first, proof_again sheet 2 p tail ends own fits end) (bound (ends (end_of (papers.Full p))))
  where
    bound : (read : Result (Unit {0}) CertRefusal) → ((read >>= λ last. Ok p) >>= λ q. Ok (papers.Full q)) ≡ (read >>= λ last. Ok (papers.Full p))
    bound (Ok u) = refl
    bound (Err e) = refl

clean_form : (form : Form) (word : List ℕ) → word ≡ form_word form → Clean word
clean_form First word e = subst Clean (sym e) (clean (codes "1") refl)
clean_form Second word e = subst Clean (sym e) (clean (codes "2") refl)

pub paper_clean : (sheet : Sheet) (form : Form) (paper : Paper) → sheet.form ≡ form_word form → IsCitable sheet → FitsPaper sheet paper → AllByRecursion IsLine (paper_lines sheet paper)
paper_clean sheet form (papers.Routing r) e own fits = routing_clean sheet r (clean_form form sheet.form e) own fits
paper_clean sheet form (papers.Full p) e own fits = certificate_clean sheet p (clean_form form sheet.form e) own fits

pub text_is_of_lines : (sheet : Sheet) (paper : Paper) → paper_text sheet paper ≡ text_of (paper_lines sheet paper)
text_is_of_lines sheet (papers.Routing r) = refl
text_is_of_lines sheet (papers.Full p) = refl

-- what is written is read as the same
pub reads_back : (sheets : Sheets) (form : Form) (paper : Paper) → AreInForms sheets → IsCitable (sheet_for sheets form) → FitsPaper (sheet_for sheets form) paper → paper_in sheets (lines_of (paper_text (sheet_for sheets form) paper)) ≡ Ok paper
reads_back sheets form paper forms own fits =
    let sheet = sheet_for sheets form in
    ap (λ (text : List ℕ). paper_in sheets (lines_of text)) (text_is_of_lines sheet paper)
    ∙ ap (paper_in sheets) (lines_of-text (paper_lines sheet paper) (paper_clean sheet form paper (forms_are sheets form forms) own fits))
    ∙ lines_with sheets form paper ended (λ at. Ok tt) forms own fits (record { is = closing_again })

-- what is written is refused where anything stands behind it
pub refused_with : (sheets : Sheets) (form : Form) (paper : Paper) (tail : List Line) → AreInForms sheets → IsCitable (sheet_for sheets form) → FitsPaper (sheet_for sheets form) paper → has_more tail ≡ true → is_full (bytes_of tail) ≡ true
    → paper_in sheets (paper_lines (sheet_for sheets form) paper ++ tail) ≡ Err (record { line = end_of paper + 1; kind = Syntax })
refused_with sheets form paper tail forms own fits more some = lines_with sheets form paper tail (λ at. Err (record { line = at + 1; kind = Syntax })) forms own fits (record { is = λ at. closing_over at tail more some })
