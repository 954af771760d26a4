-- Whole texts: what is read was spelled so.
use Rattle.std.proofs.Common.{◌≡◌, ℕ, Bool, List, [], ◌∷◌, ◌++◌, Some, Ok, refl, sym, ap, subst, ◌∙◌, append_assoc, arith}
use Rattle.std.specs.Prelude.{codes, map}
use Rattle.std.proofs.lemmas.List.Concat.{flat_map-cons}
use Rattle.text_lines.specs.Lines.{Line, spelled, text_of}
use Rattle.flow_model.specs.Routing.{Row}
use Rattle.flow_paths.specs.DualRows.{DualRows, Length, Potential}
use Rattle.flow_paths.specs.declared.certificate.Routing.{Routing}
use Rattle.flow_paths.specs.declared.certificate.Printed.{Printed}
use Rattle.flow_paths.specs.declared.certificate.Proof.{Proof}
use Rattle.gap_fraction.specs.declared.fraction.TheConstants.{MAX_PART}
use Rattle.mcf_limits.specs.declared.TheConstants.{MAX_LENGTH}
use Rattle.cert_lines.specs.Sheet.{Sheet, Sheets, sheet_for}
use Rattle.cert_lines.specs.declared.form.Form.{Form}
use Rattle.cert_lines.specs.declared.refusal.CertRefusal.{CertRefusal}
use Rattle.cert_lines.specs.Forms.{◌>>=◌}
use Rattle.cert_lines.specs.HeadLines.{verdict_line, counts_line, gap_line, phases_line, scale_line, value_line}
use Rattle.cert_lines.specs.Rows.{path_row, length_row, potential_row}
use Rattle.cert_lines.specs.Spelling.{verdict_words, links_words, modules_words, counts_words, gap_words, phases_words, scale_words, value_words, length_words, potential_words, path_words}
use Rattle.cert_text.specs.declared.papers.Paper.{Paper}
use Rattle.cert_text.specs.declared.papers.Paper.TheVariants as papers
use Rattle.cert_text.specs.declared.opening.Kind.{Kind}
use Rattle.cert_text.specs.declared.opening.Kind.TheVariants as kinds
use Rattle.cert_text.specs.Reading.{Place, next_line, mode_line, rows_from, bytes_of, closing}
use Rattle.cert_text.specs.Papers.{modes_at, scale_at, opening_at, counted_at, values_at, dual_at, routing_at, routing_from, proof_at, proof_from, header}
use Rattle.cert_text.specs.Whole.{paper_at, paper_in}
use Rattle.cert_writer.specs.Text.{end_line}
use Rattle.cert_text.proofs.Steps.{bind_ok, done, ok_is}
use Rattle.cert_judge.proofs.PaperFits.{WordedFits, paper_ok}
use Rattle.cert_inverse.specs.Inverse.{AreInForms, form_said, form_word, kind_of, paper_text}
use Rattle.cert_inverse.proofs.Headers.{header_words, forms_are, header_take, header_said}
use Rattle.cert_inverse.proofs.HeadTakes.{joined, verdict_takes, mode_takes, gap_takes, phases_takes, scale_takes, value_takes}
use Rattle.cert_inverse.proofs.CountTakes.{counts_take}
use Rattle.cert_inverse.proofs.RowTakes.{path_takes, length_takes, potential_takes}
use Rattle.cert_inverse.proofs.Between.{Between, between_then, text_of-both, next_between, rows_between, closing_takes}

-- ---- parts

pub modes_take : (sheet : Sheet) (place after : Place) → modes_at sheet place ≡ Ok after → Between (links_words sheet ∷ modules_words sheet ∷ []) place after
unfolding modes_at
modes_take sheet place after e =
    let a = bind_ok (next_line (mode_line (codes "links") sheet.link_mode) place) (λ links. next_line (mode_line (codes "modules") sheet.module_mode) links.1 >>= λ modules. done modules.1) after e in
    let b = bind_ok (next_line (mode_line (codes "modules") sheet.module_mode) a.0.1) (λ modules. done modules.1) after a.2 in
    let links = next_between (mode_line (codes "links") sheet.link_mode) (λ (u : Unit {0}). links_words sheet) (λ line u h. ap joined (mode_takes (codes "links") sheet.link_mode line u h)) place a.0 a.1 in
    let modules = next_between (mode_line (codes "modules") sheet.module_mode) (λ (u : Unit {0}). modules_words sheet) (λ line u h. ap joined (mode_takes (codes "modules") sheet.module_mode line u h)) a.0.1 b.0 b.1 in
    subst (Between (links_words sheet ∷ modules_words sheet ∷ []) place) (ok_is {E = CertRefusal} b.0.1 after b.2)
    (between_then (links_words sheet ∷ []) (modules_words sheet ∷ []) place a.0.1 b.0.1 links modules)

abbrev pub Scale : Type 0
Scale = ℕ × (ℕ × ℕ)

abbrev pub scale_lines : Scale → List Line
scale_lines s = phases_words s.0 ∷ scale_words (s.1.0, s.1.1) ∷ []

pub scale_take : (place : Place) (x : Scale × Place) → scale_at place ≡ Ok x → Between (scale_lines x.0) place x.1
unfolding scale_at
scale_take place x e =
    let a = bind_ok (next_line phases_line place) (λ phases. next_line scale_line phases.1 >>= λ scale. done {A = Scale × Place} {E = CertRefusal} ((phases.0, scale.0), scale.1)) x e in
    let b = bind_ok (next_line scale_line a.0.1) (λ scale. done {A = Scale × Place} {E = CertRefusal} ((a.0.0, scale.0), scale.1)) x a.2 in
    let phases = next_between phases_line phases_words (λ line n h. ap joined (phases_takes line n h)) place a.0 a.1 in
    let scale = next_between scale_line scale_words (λ line s h. ap joined (scale_takes line s h)) a.0.1 b.0 b.1 in
    subst (λ (y : Scale × Place). Between (scale_lines y.0) place y.1) (ok_is {E = CertRefusal} ((a.0.0, b.0.0), b.0.1) x b.2)
    (between_then (phases_words a.0.0 ∷ []) (scale_words b.0.0 ∷ []) place a.0.1 b.0.1 phases scale)

abbrev pub value_lines : Printed × Printed → List Line
value_lines v = value_words (codes "lower") v.0 ∷ value_words (codes "upper") v.1 ∷ []

pub values_take : (place : Place) (x : (Printed × Printed) × Place) → values_at place ≡ Ok x → Between (value_lines x.0) place x.1
unfolding values_at
values_take place x e =
    let low = value_line (codes "lower") MAX_LENGTH in
    let high = value_line (codes "upper") MAX_PART in
    let a = bind_ok (next_line low place) (λ lower. next_line high lower.1 >>= λ upper. done {A = (Printed × Printed) × Place} {E = CertRefusal} ((lower.0, upper.0), upper.1)) x e in
    let b = bind_ok (next_line high a.0.1) (λ upper. done {A = (Printed × Printed) × Place} {E = CertRefusal} ((a.0.0, upper.0), upper.1)) x a.2 in
    let lower = next_between low (value_words (codes "lower")) (λ line v h. ap joined (value_takes (codes "lower") MAX_LENGTH line v (omega arith) h)) place a.0 a.1 in
    let upper = next_between high (value_words (codes "upper")) (λ line v h. ap joined (value_takes (codes "upper") MAX_PART line v (omega arith) h)) a.0.1 b.0 b.1 in
    subst (λ (y : (Printed × Printed) × Place). Between (value_lines y.0) place y.1) (ok_is {E = CertRefusal} ((a.0.0, b.0.0), b.0.1) x b.2)
    (between_then (value_words (codes "lower") a.0.0 ∷ []) (value_words (codes "upper") b.0.0 ∷ []) place a.0.1 b.0.1 lower upper)

abbrev pub opened_lines : Sheet → Bool × ℕ → List Line
opened_lines sheet o = verdict_words o.0 ∷ links_words sheet ∷ modules_words sheet ∷ counts_words sheet ∷ gap_words o.1 ∷ []

pub opening_take : (sheet : Sheet) (place : Place) (x : (Bool × ℕ) × Place) → opening_at sheet place ≡ Ok x → Between (opened_lines sheet x.0) place x.1
unfolding opening_at counted_at
opening_take sheet place x e =
    let made = λ (v : Bool) (gap : ℕ × Place). done {A = (Bool × ℕ) × Place} {E = CertRefusal} ((v, gap.0), gap.1) in
    let a = bind_ok (next_line verdict_line place) (λ v. modes_at sheet v.1 >>= λ modes. next_line (counts_line sheet) modes >>= λ counts. next_line gap_line counts.1 >>= λ gap. made v.0 gap) x e in
    let b = bind_ok (modes_at sheet a.0.1) (λ modes. next_line (counts_line sheet) modes >>= λ counts. next_line gap_line counts.1 >>= λ gap. made a.0.0 gap) x a.2 in
    let c = bind_ok (next_line (counts_line sheet) b.0) (λ counts. next_line gap_line counts.1 >>= λ gap. made a.0.0 gap) x b.2 in
    let d = bind_ok (next_line gap_line c.0.1) (λ gap. made a.0.0 gap) x c.2 in
    let verdict = next_between verdict_line verdict_words verdict_takes place a.0 a.1 in
    let modes = modes_take sheet a.0.1 b.0 b.1 in
    let counts = next_between (counts_line sheet) (λ (u : Unit {0}). counts_words sheet) (λ line u h. ap joined (counts_take sheet line u h)) b.0 c.0 c.1 in
    let gap = next_between gap_line gap_words (λ line n h. ap joined (gap_takes line n h)) c.0.1 d.0 d.1 in
    let last = between_then (counts_words sheet ∷ []) (gap_words d.0.0 ∷ []) b.0 c.0.1 d.0.1 counts gap in
    let most = between_then (links_words sheet ∷ modules_words sheet ∷ []) (counts_words sheet ∷ gap_words d.0.0 ∷ []) a.0.1 b.0 d.0.1 modes last in
    subst (λ (y : (Bool × ℕ) × Place). Between (opened_lines sheet y.0) place y.1) (ok_is {E = CertRefusal} ((a.0.0, d.0.0), d.0.1) x d.2)
    (between_then (verdict_words a.0.0 ∷ []) (links_words sheet ∷ modules_words sheet ∷ counts_words sheet ∷ gap_words d.0.0 ∷ []) place a.0.1 d.0.1 verdict most)

abbrev pub dual_lines : Sheet → DualRows → List Line
dual_lines sheet d = map (length_words sheet) d.lengths ++ map (potential_words sheet) d.potentials

pub dual_take : (sheet : Sheet) (place : Place) (x : DualRows × Place) → dual_at sheet place ≡ Ok x → Between (dual_lines sheet x.0) place x.1
unfolding dual_at
dual_take sheet place x e =
    let made = λ (ls : List Length) (ps : List Potential × Place). done {A = DualRows × Place} {E = CertRefusal} (record { lengths = ls; potentials = ps.0 }, ps.1) in
    let a = bind_ok (rows_from (codes "length") (length_row sheet) place.at place.rest) (λ ls. rows_from (codes "potential") (potential_row sheet) ls.1.at ls.1.rest >>= λ ps. made ls.0 ps) x e in
    let b = bind_ok (rows_from (codes "potential") (potential_row sheet) a.0.1.at a.0.1.rest) (λ ps. made a.0.0 ps) x a.2 in
    let lengths = rows_between (codes "length") (length_row sheet) (length_words sheet) (length_takes sheet) place a.0 a.1 in
    let potentials = rows_between (codes "potential") (potential_row sheet) (potential_words sheet) (potential_takes sheet) a.0.1 b.0 b.1 in
    subst (λ (y : DualRows × Place). Between (dual_lines sheet y.0) place y.1) (ok_is {E = CertRefusal} (record { lengths = a.0.0; potentials = b.0.0 }, b.0.1) x b.2)
    (between_then (map (length_words sheet) a.0.0) (map (potential_words sheet) b.0.0) place a.0.1 b.0.1 lengths potentials)

-- ---- what follows the header

pub goes_to : (xs ys : List Line) (a b : Place) → Between xs a b → bytes_of b.rest ≡ text_of ys → bytes_of a.rest ≡ text_of (xs ++ ys)
goes_to xs ys a b h rest = h.bytes ∙ ap (λ (l : List ℕ). text_of xs ++ l) rest ∙ text_of-both xs ys

abbrev routing_made : Scale → List Row → Routing
routing_made s ps = record { phases = s.0; scale_cap = s.1.0; scale_load = s.1.1; paths = ps }

abbrev behind_routing : Sheet → Routing → List Line
behind_routing sheet r = links_words sheet ∷ modules_words sheet ∷ phases_words r.phases ∷ scale_words (r.scale_cap, r.scale_load) ∷ (map (path_words sheet) r.paths ++ end_line ∷ [])

routing_take : (sheet : Sheet) (place : Place) (r : Routing) → routing_at sheet place ≡ Ok r → bytes_of place.rest ≡ text_of (behind_routing sheet r)
unfolding routing_at routing_from
routing_take sheet place r e =
    let made = λ (s : Scale) (ps : List Row). done {A = Routing} {E = CertRefusal} (routing_made s ps) in
    let a = bind_ok (modes_at sheet place) (λ modes. scale_at modes >>= λ scale. rows_from (codes "path") (path_row sheet) scale.1.at scale.1.rest >>= λ paths. closing paths.1 >>= λ last. made scale.0 paths.0) r e in
    let b = bind_ok (scale_at a.0) (λ scale. rows_from (codes "path") (path_row sheet) scale.1.at scale.1.rest >>= λ paths. closing paths.1 >>= λ last. made scale.0 paths.0) r a.2 in
    let c = bind_ok (rows_from (codes "path") (path_row sheet) b.0.1.at b.0.1.rest) (λ paths. closing paths.1 >>= λ last. made b.0.0 paths.0) r b.2 in
    let d = bind_ok (closing c.0.1) (λ last. made b.0.0 c.0.0) r c.2 in
    let paths = rows_between (codes "path") (path_row sheet) (path_words sheet) (path_takes sheet) b.0.1 c.0 c.1 in
    let rows = map (path_words sheet) c.0.0 in
    let from_rows = goes_to rows (end_line ∷ []) b.0.1 c.0.1 paths (closing_takes c.0.1 d.0 d.1) in
    let from_scale = goes_to (scale_lines b.0.0) (rows ++ end_line ∷ []) a.0 b.0.1 (scale_take a.0 b.0 b.1) from_rows in
    goes_to (links_words sheet ∷ modules_words sheet ∷ []) (scale_lines b.0.0 ++ (rows ++ end_line ∷ [])) place a.0 (modes_take sheet place a.0 a.1) from_scale
    ∙ ap (λ (q : Routing). text_of (behind_routing sheet q)) (ok_is {E = CertRefusal} (routing_made b.0.0 c.0.0) r d.2)

abbrev proof_made : Bool × ℕ → Scale → Printed × Printed → List Row → DualRows → Proof
proof_made opening scale values paths dual = record {
  closed = opening.0;
  gap = opening.1;
  routing = routing_made scale paths;
  lower = values.0;
  upper = values.1;
  dual = dual;
}

abbrev behind_proof : Sheet → Proof → List Line
behind_proof sheet p =
    opened_lines sheet (p.closed, p.gap) ++ (scale_lines (p.routing.phases, (p.routing.scale_cap, p.routing.scale_load)) ++ (value_lines (p.lower, p.upper)
    ++ (map (path_words sheet) p.routing.paths ++ (dual_lines sheet p.dual ++ end_line ∷ []))))

proof_take : (sheet : Sheet) (place : Place) (p : Proof) → proof_at sheet place ≡ Ok p → bytes_of place.rest ≡ text_of (behind_proof sheet p)
unfolding proof_at proof_from
proof_take sheet place p e =
    let path = λ (q : Place). rows_from (codes "path") (path_row sheet) q.at q.rest in
    let made = λ (o : Bool × ℕ) (s : Scale) (v : Printed × Printed) (ps : List Row) (d : DualRows). done {A = Proof} {E = CertRefusal} (proof_made o s v ps d) in
    let a = bind_ok (opening_at sheet place) (λ opening. scale_at opening.1 >>= λ scale. values_at scale.1 >>= λ values. path values.1 >>= λ paths. dual_at sheet paths.1 >>= λ dual. closing dual.1 >>= λ last. made opening.0 scale.0 values.0 paths.0 dual.0) p e in
    let b = bind_ok (scale_at a.0.1) (λ scale. values_at scale.1 >>= λ values. path values.1 >>= λ paths. dual_at sheet paths.1 >>= λ dual. closing dual.1 >>= λ last. made a.0.0 scale.0 values.0 paths.0 dual.0) p a.2 in
    let c = bind_ok (values_at b.0.1) (λ values. path values.1 >>= λ paths. dual_at sheet paths.1 >>= λ dual. closing dual.1 >>= λ last. made a.0.0 b.0.0 values.0 paths.0 dual.0) p b.2 in
    let d = bind_ok (path c.0.1) (λ paths. dual_at sheet paths.1 >>= λ dual. closing dual.1 >>= λ last. made a.0.0 b.0.0 c.0.0 paths.0 dual.0) p c.2 in
    let f = bind_ok (dual_at sheet d.0.1) (λ dual. closing dual.1 >>= λ last. made a.0.0 b.0.0 c.0.0 d.0.0 dual.0) p d.2 in
    let g = bind_ok (closing f.0.1) (λ last. made a.0.0 b.0.0 c.0.0 d.0.0 f.0.0) p f.2 in
    let paths = rows_between (codes "path") (path_row sheet) (path_words sheet) (path_takes sheet) c.0.1 d.0 d.1 in
    let from_dual = goes_to (dual_lines sheet f.0.0) (end_line ∷ []) d.0.1 f.0.1 (dual_take sheet d.0.1 f.0 f.1) (closing_takes f.0.1 g.0 g.1) in
    let from_paths = goes_to (map (path_words sheet) d.0.0) (dual_lines sheet f.0.0 ++ end_line ∷ []) c.0.1 d.0.1 paths from_dual in
    let from_values = goes_to (value_lines c.0.0) (map (path_words sheet) d.0.0 ++ (dual_lines sheet f.0.0 ++ end_line ∷ [])) b.0.1 c.0.1 (values_take b.0.1 c.0 c.1) from_paths in
    let from_scale = goes_to (scale_lines b.0.0) (value_lines c.0.0 ++ (map (path_words sheet) d.0.0 ++ (dual_lines sheet f.0.0 ++ end_line ∷ []))) a.0.1 b.0.1 (scale_take a.0.1 b.0 b.1) from_values in
    goes_to (opened_lines sheet a.0.0) (scale_lines b.0.0 ++ (value_lines c.0.0 ++ (map (path_words sheet) d.0.0 ++ (dual_lines sheet f.0.0 ++ end_line ∷ [])))) place a.0.1 (opening_take sheet place a.0 a.1) from_scale
    ∙ ap (λ (q : Proof). text_of (behind_proof sheet q)) (ok_is {E = CertRefusal} (proof_made a.0.0 b.0.0 c.0.0 d.0.0 f.0.0) p g.2)

-- ---- the whole

abbrev behind_header : Sheet → Paper → List Line
behind_header sheet (papers.Full p) = behind_proof sheet p
behind_header sheet (papers.Routing r) = behind_routing sheet r

record IsBehind (sheet : Sheet) (kind : Kind) (place : Place) (paper : Paper) : Type 0 where
  kind_is : kind_of paper ≡ kind
  bytes : bytes_of place.rest ≡ text_of (behind_header sheet paper)

paper_take : (sheet : Sheet) (kind : Kind) (place : Place) (paper : Paper) → paper_at sheet kind place ≡ Ok paper → IsBehind sheet kind place paper
unfolding paper_at
paper_take sheet kinds.Certificate place paper e =
    let a = bind_ok (proof_at sheet place) (λ p. done {A = Paper} {E = CertRefusal} (papers.Full p)) paper e in
    subst (IsBehind sheet kinds.Certificate place) (ok_is {E = CertRefusal} (papers.Full a.0) paper a.2) (record { kind_is = refl; bytes = proof_take sheet place a.0 a.1 })
paper_take sheet kinds.Routing place paper e =
    let a = bind_ok (routing_at sheet place) (λ r. done {A = Paper} {E = CertRefusal} (papers.Routing r)) paper e in
    subst (IsBehind sheet kinds.Routing place) (ok_is {E = CertRefusal} (papers.Routing a.0) paper a.2) (record { kind_is = refl; bytes = routing_take sheet place a.0 a.1 })

-- the header, and the lines behind it
whole_is : (sheet : Sheet) (paper : Paper) → spelled (header_words (kind_of paper) sheet.form) ++ text_of (behind_header sheet paper) ≡ paper_text sheet paper
whole_is sheet (papers.Full p) =
    let first = header_words kinds.Certificate sheet.form in
    let rows = map (path_words sheet) p.routing.paths in
    let lengths = map (length_words sheet) p.dual.lengths in
    let potentials = map (potential_words sheet) p.dual.potentials in
    sym (flat_map-cons spelled first (behind_proof sheet p))
    ∙ ap (λ (ls : List Line). text_of (first ∷ (opened_lines sheet (p.closed, p.gap) ++ (scale_lines (p.routing.phases, (p.routing.scale_cap, p.routing.scale_load)) ++ (value_lines (p.lower, p.upper) ++ (rows ++ ls)))))) (append_assoc lengths potentials (end_line ∷ []))
whole_is sheet (papers.Routing r) = sym (flat_map-cons spelled (header_words kinds.Routing sheet.form) (behind_routing sheet r))

-- what was read: its form is said by the first line, its sheet has a word for how links are read, and it is spelled so
pub record IsRead (sheets : Sheets) (lines : List Line) (paper : Paper) : Type 0 where
  pub form : Form
  pub said : form_said lines ≡ Some form
  pub fits : WordedFits (sheet_for sheets form) paper
  pub bytes : bytes_of lines ≡ paper_text (sheet_for sheets form) paper

pub is_read : (sheets : Sheets) (lines : List Line) (paper : Paper) → AreInForms sheets → paper_in sheets lines ≡ Ok paper → IsRead sheets lines paper
unfolding paper_in
is_read sheets lines paper forms e =
    let a = bind_ok (header lines) (λ first. paper_at (sheet_for sheets first.0.form) first.0.kind first.1) paper e in
    let form = a.0.0.form in
    let sheet = sheet_for sheets form in
    let b = paper_take sheet a.0.0.kind a.0.1 paper a.2 in
    let bytes = header_take lines a.0 a.1 ∙ ap (λ (k : Kind). spelled (header_words k (form_word form)) ++ bytes_of a.0.1.rest) (sym b.kind_is) ∙ ap (λ (w : List ℕ). spelled (header_words (kind_of paper) w) ++ bytes_of a.0.1.rest) (sym (forms_are sheets form forms)) ∙ ap (λ (l : List ℕ). spelled (header_words (kind_of paper) sheet.form) ++ l) b.bytes ∙ whole_is sheet paper in
    record { form = form; said = header_said lines a.0 a.1; fits = paper_ok sheet a.0.0.kind a.0.1 paper a.2; bytes = bytes }

-- the bytes of lines that are read are the text of what is read
pub bytes_are : (sheets : Sheets) (lines : List Line) (paper : Paper) → AreInForms sheets → paper_in sheets lines ≡ Ok paper → (form : Form) × (form_said lines ≡ Some form) × (bytes_of lines ≡ paper_text (sheet_for sheets form) paper)
bytes_are sheets lines paper forms e = let r = is_read sheets lines paper forms e in (r.form, r.said, r.bytes)
