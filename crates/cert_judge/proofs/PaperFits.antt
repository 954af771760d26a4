-- What a whole text's reading gives is within its limits.
use Rattle.std.proofs.Common.{◌≡◌, ℕ, ◌<◌, ◌≤◌, Bool, true, cond, List, [], ◌∷◌, length, Some, Ok, Err, subst, arith}
use Rattle.std.specs.Prelude.{codes, ◌&&◌}
use Rattle.std.specs.List.{AllByRecursion}
use Rattle.std.specs.Str.{bytes_eq}
use Rattle.std.proofs.lemmas.Bool.Decides.{nat_tests}
use Rattle.std.proofs.lemmas.Option.{cond_some}
use Rattle.std.proofs.lemmas.Slice.Eq.{bytes_eq-Decides}
use Rattle.text_lines.specs.Lines.{Line}
use Rattle.flow_model.specs.Routing.{Row}
use Rattle.flow_paths.specs.DualRows.{DualRows, Length, Potential}
use Rattle.flow_paths.specs.declared.certificate.Routing.{Routing}
use Rattle.flow_paths.specs.declared.certificate.Printed.{Printed}
use Rattle.flow_paths.specs.declared.certificate.Proof.{Proof}
use Rattle.gap_fraction.specs.declared.fraction.TheConstants.{MAX_PART}
use Rattle.mcf_limits.specs.declared.TheConstants.{MAX_GAP, MAX_LENGTH, MAX_PHASES, MAX_UNITS}
use Rattle.cert_lines.specs.Sheet.{Sheet, Sheets, sheet_for}
use Rattle.cert_lines.specs.declared.refusal.CertRefusal.{CertRefusal}
use Rattle.cert_lines.specs.declared.refusal.CertKind.TheVariants.{Syntax}
use Rattle.cert_lines.specs.Forms.{◌>>=◌, or_fault, is_full, one_behind}
use Rattle.cert_lines.specs.HeadLines.{verdict_line, counts_line, gap_line, phases_line, scale_line, value_line}
use Rattle.cert_lines.specs.Rows.{path_row, length_row, potential_row}
use Rattle.cert_lines.specs.Spelling.{FitsValue, FitsLength, FitsPotential, FitsPath}
use Rattle.cert_lines.proofs.NumberSteps.{both_true}
use Rattle.cert_text.specs.declared.opening.Kind.{Kind}
use Rattle.cert_text.specs.declared.opening.Kind.TheVariants as kinds
use Rattle.cert_text.specs.declared.papers.Paper.{Paper}
use Rattle.cert_text.specs.declared.papers.Paper.TheVariants as papers
use Rattle.cert_text.specs.Reading.{Place, next_line, mode_line, rows_from, closing}
use Rattle.cert_text.specs.Papers.{modes_at, scale_at, opening_at, counted_at, values_at, dual_at, routing_at, routing_from, proof_at, proof_from, header}
use Rattle.cert_text.specs.Whole.{paper_at, paper_in}
use Rattle.cert_writer.specs.Text.{FitsRouting, FitsProof}
use Rattle.cert_judge.specs.Fits.{FitsForm, FitsPaper, HasLinkWord}
use Rattle.cert_text.proofs.Steps.{bind_ok, done, ok_is, some_is, passed, next_fits, rows_fit}
use Rattle.cert_text.proofs.LineFits.{gap_fits, phases_fit, scale_fits, value_fits, length_fits, path_fits, potential_fits}

abbrev Scale : Type 0
Scale = ℕ × (ℕ × ℕ)

abbrev ScaleFits : Scale × Place → Type 0
ScaleFits x = (x.0.0 ≤ MAX_PHASES) × (x.0.1.0 ≤ MAX_UNITS) × (x.0.1.1 ≤ MAX_LENGTH)

scale_ok : (place : Place) (x : Scale × Place) → scale_at place ≡ Ok x → ScaleFits x
unfolding scale_at
scale_ok place x e =
    let a = bind_ok (next_line phases_line place) (λ phases. next_line scale_line phases.1 >>= λ scale. done {A = Scale × Place} {E = CertRefusal} ((phases.0, scale.0), scale.1)) x e in
    let b = bind_ok (next_line scale_line a.0.1) (λ scale. done {A = Scale × Place} {E = CertRefusal} ((a.0.0, scale.0), scale.1)) x a.2 in
    let p = next_fits (λ n. n ≤ MAX_PHASES) phases_line phases_fit place a.0 a.1 in
    let s = next_fits (λ (q : ℕ × ℕ). (q.0 ≤ MAX_UNITS) × (q.1 ≤ MAX_LENGTH)) scale_line scale_fits a.0.1 b.0 b.1 in
    subst ScaleFits (ok_is {E = CertRefusal} ((a.0.0, b.0.0), b.0.1) x b.2) (p, s.0, s.1)

abbrev ValuesFit : (Printed × Printed) × Place → Type 0
ValuesFit x = FitsValue MAX_LENGTH x.0.0 × FitsValue MAX_PART x.0.1

values_ok : (place : Place) (x : (Printed × Printed) × Place) → values_at place ≡ Ok x → ValuesFit x
unfolding values_at
values_ok place x e =
    let a = bind_ok (next_line (value_line (codes "lower") MAX_LENGTH) place) (λ lower. next_line (value_line (codes "upper") MAX_PART) lower.1 >>= λ upper. done {A = (Printed × Printed) × Place} {E = CertRefusal} ((lower.0, upper.0), upper.1)) x e in
    let b = bind_ok (next_line (value_line (codes "upper") MAX_PART) a.0.1) (λ upper. done {A = (Printed × Printed) × Place} {E = CertRefusal} ((a.0.0, upper.0), upper.1)) x a.2 in
    subst ValuesFit (ok_is {E = CertRefusal} ((a.0.0, b.0.0), b.0.1) x b.2)
    (next_fits (FitsValue MAX_LENGTH) (value_line (codes "lower") MAX_LENGTH) (value_fits (codes "lower") MAX_LENGTH) place a.0 a.1, next_fits (FitsValue MAX_PART) (value_line (codes "upper") MAX_PART) (value_fits (codes "upper") MAX_PART) a.0.1 b.0 b.1)

-- ---- the word for how links are read

some_full : (word : List ℕ) → is_full word ≡ true → 0 < length word
some_full word e = grind (arith, nat_tests)

one_full : (key : List ℕ) (line : Line) (word : List ℕ) → one_behind key line ≡ Some word → is_full word ≡ true
one_full key [] word e = absurd cc
one_full key (a ∷ []) word e = absurd cc
one_full key (a ∷ b ∷ []) word e =
    let s = cond_some (bytes_eq a key && is_full b) b word e in
    subst (λ (w : List ℕ). is_full w ≡ true) s.1 (both_true (bytes_eq a key) (is_full b) s.0).1
one_full key (a ∷ b ∷ c ∷ more) word e = absurd cc

mode_worded : (key mode : List ℕ) (line : Line) (u : Unit {0}) → mode_line key mode line ≡ Ok u → 0 < length mode
unfolding mode_line
mode_worded key mode line u e =
    let a = bind_ok (or_fault Syntax (one_behind key line)) (λ word. cond (bytes_eq word mode) (done tt) (Err Syntax)) u e in
    let b = passed (bytes_eq a.0 mode) (done tt) Syntax u a.2 in
    subst (λ (w : List ℕ). 0 < length w) ((bytes_eq-Decides a.0 mode).0 b.0) (some_full a.0 (one_full key line a.0 (some_is Syntax (one_behind key line) a.0 a.1)))

modes_ok : (sheet : Sheet) (place after : Place) → modes_at sheet place ≡ Ok after → HasLinkWord sheet
unfolding modes_at
modes_ok sheet place after e =
    let links = mode_line (codes "links") sheet.link_mode in
    let a = bind_ok (next_line links place) (λ x. next_line (mode_line (codes "modules") sheet.module_mode) x.1 >>= λ modules. done modules.1) after e in
    next_fits (λ (u : Unit {0}). HasLinkWord sheet) links (mode_worded (codes "links") sheet.link_mode) place a.0 a.1

-- ---- parts

abbrev OpeningFits : Sheet → (Bool × ℕ) × Place → Type 0
OpeningFits sheet x = HasLinkWord sheet × (x.0.1 ≤ MAX_GAP)

opening_ok : (sheet : Sheet) (place : Place) (x : (Bool × ℕ) × Place) → opening_at sheet place ≡ Ok x → OpeningFits sheet x
unfolding opening_at counted_at
opening_ok sheet place x e =
    let made = λ (v : Bool) (gap : ℕ × Place). done {A = (Bool × ℕ) × Place} {E = CertRefusal} ((v, gap.0), gap.1) in
    let a = bind_ok (next_line verdict_line place) (λ v. modes_at sheet v.1 >>= λ modes. next_line (counts_line sheet) modes >>= λ counts. next_line gap_line counts.1 >>= λ gap. made v.0 gap) x e in
    let b = bind_ok (modes_at sheet a.0.1) (λ modes. next_line (counts_line sheet) modes >>= λ counts. next_line gap_line counts.1 >>= λ gap. made a.0.0 gap) x a.2 in
    let c = bind_ok (next_line (counts_line sheet) b.0) (λ counts. next_line gap_line counts.1 >>= λ gap. made a.0.0 gap) x b.2 in
    let d = bind_ok (next_line gap_line c.0.1) (λ gap. made a.0.0 gap) x c.2 in
    subst (OpeningFits sheet) (ok_is {E = CertRefusal} ((a.0.0, d.0.0), d.0.1) x d.2)
    (modes_ok sheet a.0.1 b.0 b.1, next_fits (λ n. n ≤ MAX_GAP) gap_line gap_fits c.0.1 d.0 d.1)

abbrev DualFits : Sheet → DualRows × Place → Type 0
DualFits sheet x = AllByRecursion (FitsLength sheet) x.0.lengths × AllByRecursion (FitsPotential sheet) x.0.potentials

dual_ok : (sheet : Sheet) (place : Place) (x : DualRows × Place) → dual_at sheet place ≡ Ok x → DualFits sheet x
unfolding dual_at
dual_ok sheet place x e =
    let made = λ (ls : List Length) (ps : List Potential × Place). done {A = DualRows × Place} {E = CertRefusal} (record { lengths = ls; potentials = ps.0 }, ps.1) in
    let a = bind_ok (rows_from (codes "length") (length_row sheet) place.at place.rest) (λ ls. rows_from (codes "potential") (potential_row sheet) ls.1.at ls.1.rest >>= λ ps. made ls.0 ps) x e in
    let b = bind_ok (rows_from (codes "potential") (potential_row sheet) a.0.1.at a.0.1.rest) (λ ps. made a.0.0 ps) x a.2 in
    subst (DualFits sheet) (ok_is {E = CertRefusal} (record { lengths = a.0.0; potentials = b.0.0 }, b.0.1) x b.2)
    (rows_fit (FitsLength sheet) (codes "length") (length_row sheet) (length_fits sheet) place.at place.rest a.0 a.1, rows_fit (FitsPotential sheet) (codes "potential") (potential_row sheet) (potential_fits sheet) a.0.1.at a.0.1.rest b.0 b.1)

abbrev RoutingFits : Sheet → Routing → Type 0
RoutingFits sheet r = HasLinkWord sheet × FitsRouting sheet r

routing_ok : (sheet : Sheet) (place : Place) (r : Routing) → routing_at sheet place ≡ Ok r → RoutingFits sheet r
unfolding routing_at routing_from
routing_ok sheet place r e =
    let made = λ (s : Scale) (ps : List Row). done {A = Routing} {E = CertRefusal} (record { phases = s.0; scale_cap = s.1.0; scale_load = s.1.1; paths = ps }) in
    let a = bind_ok (modes_at sheet place) (λ modes. scale_at modes >>= λ scale. rows_from (codes "path") (path_row sheet) scale.1.at scale.1.rest >>= λ paths. closing paths.1 >>= λ last. made scale.0 paths.0) r e in
    let b = bind_ok (scale_at a.0) (λ scale. rows_from (codes "path") (path_row sheet) scale.1.at scale.1.rest >>= λ paths. closing paths.1 >>= λ last. made scale.0 paths.0) r a.2 in
    let c = bind_ok (rows_from (codes "path") (path_row sheet) b.0.1.at b.0.1.rest) (λ paths. closing paths.1 >>= λ last. made b.0.0 paths.0) r b.2 in
    let d = bind_ok (closing c.0.1) (λ last. made b.0.0 c.0.0) r c.2 in
    let s = scale_ok a.0 b.0 b.1 in
    subst (RoutingFits sheet) (ok_is {E = CertRefusal} (record { phases = b.0.0.0; scale_cap = b.0.0.1.0; scale_load = b.0.0.1.1; paths = c.0.0 }) r d.2) (
      modes_ok sheet place a.0 a.1,
      record { phases = s.0; scale_cap = s.1; scale_load = s.2; paths = rows_fit (FitsPath sheet) (codes "path") (path_row sheet) (path_fits sheet) b.0.1.at b.0.1.rest c.0 c.1 },
    )

abbrev proof_made : Bool × ℕ → Scale → Printed × Printed → List Row → DualRows → Proof
proof_made opening scale values paths dual = record {
  closed = opening.0;
  gap = opening.1;
  routing = record { phases = scale.0; scale_cap = scale.1.0; scale_load = scale.1.1; paths = paths };
  lower = values.0;
  upper = values.1;
  dual = dual;
}

abbrev ProofFits : Sheet → Proof → Type 0
ProofFits sheet p = HasLinkWord sheet × FitsProof sheet p

proof_ok : (sheet : Sheet) (place : Place) (p : Proof) → proof_at sheet place ≡ Ok p → ProofFits sheet p
unfolding proof_at proof_from
proof_ok sheet place p e =
    let path = λ (q : Place). rows_from (codes "path") (path_row sheet) q.at q.rest in
    let made = λ (o : Bool × ℕ) (s : Scale) (v : Printed × Printed) (ps : List Row) (d : DualRows). done {A = Proof} {E = CertRefusal} (proof_made o s v ps d) in
    let a = bind_ok (opening_at sheet place) (λ opening. scale_at opening.1 >>= λ scale. values_at scale.1 >>= λ values. path values.1 >>= λ paths. dual_at sheet paths.1 >>= λ dual. closing dual.1 >>= λ last. made opening.0 scale.0 values.0 paths.0 dual.0) p e in
    let b = bind_ok (scale_at a.0.1) (λ scale. values_at scale.1 >>= λ values. path values.1 >>= λ paths. dual_at sheet paths.1 >>= λ dual. closing dual.1 >>= λ last. made a.0.0 scale.0 values.0 paths.0 dual.0) p a.2 in
    let c = bind_ok (values_at b.0.1) (λ values. path values.1 >>= λ paths. dual_at sheet paths.1 >>= λ dual. closing dual.1 >>= λ last. made a.0.0 b.0.0 values.0 paths.0 dual.0) p b.2 in
    let d = bind_ok (path c.0.1) (λ paths. dual_at sheet paths.1 >>= λ dual. closing dual.1 >>= λ last. made a.0.0 b.0.0 c.0.0 paths.0 dual.0) p c.2 in
    let f = bind_ok (dual_at sheet d.0.1) (λ dual. closing dual.1 >>= λ last. made a.0.0 b.0.0 c.0.0 d.0.0 dual.0) p d.2 in
    let g = bind_ok (closing f.0.1) (λ last. made a.0.0 b.0.0 c.0.0 d.0.0 f.0.0) p f.2 in
    let s = scale_ok a.0.1 b.0 b.1 in
    let v = values_ok b.0.1 c.0 c.1 in
    let dual = dual_ok sheet d.0.1 f.0 f.1 in
    let o = opening_ok sheet place a.0 a.1 in
    subst (ProofFits sheet) (ok_is {E = CertRefusal} (proof_made a.0.0 b.0.0 c.0.0 d.0.0 f.0.0) p g.2) (
      o.0,
      record {
        gap = o.1;
        routing = record { phases = s.0; scale_cap = s.1; scale_load = s.2; paths = rows_fit (FitsPath sheet) (codes "path") (path_row sheet) (path_fits sheet) c.0.1.at c.0.1.rest d.0 d.1 };
        lower = v.0;
        upper = v.1;
        lengths = dual.0;
        potentials = dual.1;
      },
    )

-- ---- the whole

-- the sheet has a word for how links are read, and what was read fits it
abbrev pub WordedFits : Sheet → Paper → Type 0
WordedFits sheet paper = HasLinkWord sheet × FitsPaper sheet paper

pub paper_ok : (sheet : Sheet) (kind : Kind) (place : Place) (paper : Paper) → paper_at sheet kind place ≡ Ok paper → WordedFits sheet paper
unfolding paper_at
paper_ok sheet kinds.Certificate place paper e =
    let a = bind_ok (proof_at sheet place) (λ p. done {A = Paper} {E = CertRefusal} (papers.Full p)) paper e in
    subst (WordedFits sheet) (ok_is {E = CertRefusal} (papers.Full a.0) paper a.2) (proof_ok sheet place a.0 a.1)
paper_ok sheet kinds.Routing place paper e =
    let a = bind_ok (routing_at sheet place) (λ r. done {A = Paper} {E = CertRefusal} (papers.Routing r)) paper e in
    subst (WordedFits sheet) (ok_is {E = CertRefusal} (papers.Routing a.0) paper a.2) (routing_ok sheet place a.0 a.1)

pub papers_fit : (sheets : Sheets) (lines : List Line) (paper : Paper) → paper_in sheets lines ≡ Ok paper → FitsForm sheets paper
unfolding paper_in
papers_fit sheets lines paper e =
    let a = bind_ok (header lines) (λ first. paper_at (sheet_for sheets first.0.form) first.0.kind first.1) paper e in
    let b = paper_ok (sheet_for sheets a.0.0.form) a.0.0.kind a.0.1 paper a.2 in
    record { form = a.0.0.form; worded = b.0; fits = b.1 }
