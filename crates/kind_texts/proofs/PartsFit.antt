-- Parts of the texts: what is read is within the limits.
use Rattle.std.proofs.Common.{◌≡◌, ℕ, ◌≤◌, Bool, true, false, cond, List, length, Option, Some, None, Ok, refl, subst, ◌∙◌, arith}
use Rattle.std.specs.Prelude.{codes, nat_eq}
use Rattle.std.specs.List.{AllByRecursion}
use Rattle.std.proofs.lemmas.Bool.Decides.{nat_tests}
use Rattle.text_lines.specs.Lines.{Line}
use Rattle.flow_model.specs.Routing.{Row}
use Rattle.flow_paths.specs.DualRows.{DualRows, Length, Potential}
use Rattle.flow_paths.specs.declared.certificate.Printed.{Printed}
use Rattle.gap_fraction.specs.declared.fraction.TheConstants.{MAX_PART}
use Rattle.mcf_limits.specs.declared.TheConstants.{MAX_GAP, MAX_HOPS, MAX_LENGTH, MAX_PHASES, MAX_UNITS}
use Rattle.cert_lines.specs.Sheet.{Sheet, place_of}
use Rattle.cert_lines.specs.declared.refusal.CertKind.{CertKind}
use Rattle.cert_lines.specs.declared.refusal.CertKind.TheVariants.{Syntax, UnknownName}
use Rattle.cert_lines.specs.declared.refusal.CertRefusal.{CertRefusal}
use Rattle.cert_lines.specs.Forms.{◌>>=◌, or_fault, one_behind, row_behind}
use Rattle.cert_lines.specs.Numbers.{number_within}
use Rattle.cert_lines.specs.HeadLines.{verdict_line, counts_line, gap_line, phases_line, scale_line, value_line}
use Rattle.cert_lines.specs.Rows.{path_row, length_row, potential_row, potentials_from}
use Rattle.cert_lines.specs.Spelling.{FitsValue, FitsPath, FitsLength, FitsPotential}
use Rattle.cert_text.specs.Reading.{Place, next_line, rows_from}
use Rattle.cert_text.specs.Papers.{modes_at, scale_at, opening_at, counted_at, values_at, dual_at}
use Rattle.cert_text.proofs.Steps.{bind_ok, done, ok_is, some_is, place_within, next_fits, rows_fit}
use Rattle.cert_text.proofs.LineFits.{number_fits, values_fit, gap_fits, phases_fit, scale_fits, value_fits, length_fits, path_fits, potential_fits}
use Rattle.hop_check.specs.LayerRows.{Layer}
use Rattle.kind_texts.specs.Rows.{flows_at}
use Rattle.kind_texts.specs.HopsText.{FitsLayer}
use Rattle.kind_texts.specs.HopsRead.{with_count, layer_row}
use Rattle.kind_texts.specs.PartRead.{threshold_line, totals_at}

-- ---- thresholds and layers

threshold_fits : (line : Line) (n : ℕ) → threshold_line line ≡ Ok n → n ≤ MAX_LENGTH
unfolding threshold_line
threshold_fits line n e =
    let a = bind_ok (or_fault Syntax (one_behind (codes "threshold") line)) (λ word. number_within MAX_LENGTH word) n e in
    number_fits MAX_LENGTH a.0 n a.2

abbrev pub Parts : Type 0
Parts = List ℕ × List ℕ × Line

-- parts of which that many words follow are parts, and that many words follow
pub of_count : (count : ℕ) (o : Option Parts) (parts : Parts) → with_count count o ≡ Some parts → (o ≡ Some parts) × (length parts.2 ≡ count)
of_count count None parts e = absurd cc
of_count count (Some p) parts e = by (nat_eq (length p.2) count) refl e
  where
    same : (x y : ℕ) → nat_eq x y ≡ true → x ≡ y
    same x y h = grind (arith, nat_tests)

    by : (b : Bool) → nat_eq (length p.2) count ≡ b → cond b (Some p) None ≡ Some parts → (Some p ≡ Some parts) × (length parts.2 ≡ count)
    by true h k = let q : p ≡ parts = cc in (k, subst (λ (z : Parts). length z.2 ≡ count) q (same (length p.2) count h))
    by false h k = absurd cc

pub layer_fits : (sheet : Sheet) (line : Line) (r : Layer) → layer_row sheet line ≡ Ok r → FitsLayer sheet r
unfolding layer_row
layer_fits sheet line r e =
    let form = with_count (length sheet.nodes) (row_behind (codes "layer") line) in
    let made = λ (n i : ℕ) (vs : List ℕ). done {A = Layer} {E = CertKind} (record { node = n; index = i; values = vs }) in
    let a = bind_ok (or_fault Syntax form) (λ parts. or_fault UnknownName (place_of sheet.nodes parts.0) >>= λ n. number_within MAX_HOPS parts.1 >>= λ i. potentials_from parts.2 >>= λ vs. made n i vs) r e in
    let b = bind_ok (or_fault UnknownName (place_of sheet.nodes a.0.0)) (λ n. number_within MAX_HOPS a.0.1 >>= λ i. potentials_from a.0.2 >>= λ vs. made n i vs) r a.2 in
    let d = bind_ok (number_within MAX_HOPS a.0.1) (λ i. potentials_from a.0.2 >>= λ vs. made b.0 i vs) r b.2 in
    let f = bind_ok (potentials_from a.0.2) (λ vs. made b.0 d.0 vs) r d.2 in
    let parts = of_count (length sheet.nodes) (row_behind (codes "layer") line) a.0 (some_is Syntax form a.0 a.1) in
    let v = values_fit a.0.2 f.0 f.1 in
    subst (FitsLayer sheet) (ok_is {E = CertKind} (record { node = b.0; index = d.0; values = f.0 }) r f.2)
    (record { node = place_within sheet.nodes a.0.0 b.0 (some_is UnknownName (place_of sheet.nodes a.0.0) b.0 b.1); index = number_fits MAX_HOPS a.0.1 d.0 d.1; count = v.0 ∙ parts.1; values = v.1 })

-- ---- the lines up to the values

abbrev pub Scale : Type 0
Scale = ℕ × (ℕ × ℕ)

abbrev pub ScaleFits : Scale × Place → Type 0
ScaleFits x = (x.0.0 ≤ MAX_PHASES) × (x.0.1.0 ≤ MAX_UNITS) × (x.0.1.1 ≤ MAX_LENGTH)

pub scale_ok : (place : Place) (x : Scale × Place) → scale_at place ≡ Ok x → ScaleFits x
unfolding scale_at
scale_ok place x e =
    let a = bind_ok (next_line phases_line place) (λ phases. next_line scale_line phases.1 >>= λ scale. done {A = Scale × Place} {E = CertRefusal} ((phases.0, scale.0), scale.1)) x e in
    let b = bind_ok (next_line scale_line a.0.1) (λ scale. done {A = Scale × Place} {E = CertRefusal} ((a.0.0, scale.0), scale.1)) x a.2 in
    let p = next_fits (λ n. n ≤ MAX_PHASES) phases_line phases_fit place a.0 a.1 in
    let s = next_fits (λ (q : ℕ × ℕ). (q.0 ≤ MAX_UNITS) × (q.1 ≤ MAX_LENGTH)) scale_line scale_fits a.0.1 b.0 b.1 in
    subst ScaleFits (ok_is {E = CertRefusal} ((a.0.0, b.0.0), b.0.1) x b.2) (p, s.0, s.1)

abbrev pub ValuesFit : (Printed × Printed) × Place → Type 0
ValuesFit x = FitsValue MAX_LENGTH x.0.0 × FitsValue MAX_PART x.0.1

pub values_ok : (place : Place) (x : (Printed × Printed) × Place) → values_at place ≡ Ok x → ValuesFit x
unfolding values_at
values_ok place x e =
    let a = bind_ok (next_line (value_line (codes "lower") MAX_LENGTH) place) (λ lower. next_line (value_line (codes "upper") MAX_PART) lower.1 >>= λ upper. done {A = (Printed × Printed) × Place} {E = CertRefusal} ((lower.0, upper.0), upper.1)) x e in
    let b = bind_ok (next_line (value_line (codes "upper") MAX_PART) a.0.1) (λ upper. done {A = (Printed × Printed) × Place} {E = CertRefusal} ((a.0.0, upper.0), upper.1)) x a.2 in
    subst ValuesFit (ok_is {E = CertRefusal} ((a.0.0, b.0.0), b.0.1) x b.2)
    (next_fits (FitsValue MAX_LENGTH) (value_line (codes "lower") MAX_LENGTH) (value_fits (codes "lower") MAX_LENGTH) place a.0 a.1, next_fits (FitsValue MAX_PART) (value_line (codes "upper") MAX_PART) (value_fits (codes "upper") MAX_PART) a.0.1 b.0 b.1)

pub opening_ok : (sheet : Sheet) (place : Place) (x : (Bool × ℕ) × Place) → opening_at sheet place ≡ Ok x → x.0.1 ≤ MAX_GAP
unfolding opening_at counted_at
opening_ok sheet place x e =
    let made = λ (v : Bool) (gap : ℕ × Place). done {A = (Bool × ℕ) × Place} {E = CertRefusal} ((v, gap.0), gap.1) in
    let a = bind_ok (next_line verdict_line place) (λ v. modes_at sheet v.1 >>= λ modes. next_line (counts_line sheet) modes >>= λ counts. next_line gap_line counts.1 >>= λ gap. made v.0 gap) x e in
    let b = bind_ok (modes_at sheet a.0.1) (λ modes. next_line (counts_line sheet) modes >>= λ counts. next_line gap_line counts.1 >>= λ gap. made a.0.0 gap) x a.2 in
    let c = bind_ok (next_line (counts_line sheet) b.0) (λ counts. next_line gap_line counts.1 >>= λ gap. made a.0.0 gap) x b.2 in
    let d = bind_ok (next_line gap_line c.0.1) (λ gap. made a.0.0 gap) x c.2 in
    subst (λ (y : (Bool × ℕ) × Place). y.0.1 ≤ MAX_GAP) (ok_is {E = CertRefusal} ((a.0.0, d.0.0), d.0.1) x d.2)
    (next_fits (λ n. n ≤ MAX_GAP) gap_line gap_fits c.0.1 d.0 d.1)

abbrev DualFits : Sheet → DualRows × Place → Type 0
DualFits sheet x = AllByRecursion (FitsLength sheet) x.0.lengths × AllByRecursion (FitsPotential sheet) x.0.potentials

dual_ok : (sheet : Sheet) (place : Place) (x : DualRows × Place) → dual_at sheet place ≡ Ok x → DualFits sheet x
unfolding dual_at
dual_ok sheet place x e =
    let made = λ (ls : List Length) (ps : List Potential × Place). done {A = DualRows × Place} {E = CertRefusal} (record { lengths = ls; potentials = ps.0 }, ps.1) in
    let a = bind_ok (rows_from (codes "length") (length_row sheet) place.at place.rest) (λ ls. rows_from (codes "potential") (potential_row sheet) ls.1.at ls.1.rest >>= λ ps. made ls.0 ps) x e in
    let b = bind_ok (rows_from (codes "potential") (potential_row sheet) a.0.1.at a.0.1.rest) (λ ps. made a.0.0 ps) x a.2 in
    subst (DualFits sheet) (ok_is {E = CertRefusal} (record { lengths = a.0.0; potentials = b.0.0 }, b.0.1) x b.2)
    (rows_fit (FitsLength sheet) (codes "length") (length_row sheet) (length_fits sheet) place.at place.rest a.0 a.1, rows_fit (FitsPotential sheet) (codes "potential") (potential_row sheet) (potential_fits sheet) a.0.1.at a.0.1.rest b.0 b.1)

-- ---- rows

abbrev pub Flows : Type 0
Flows = List Row × DualRows

pub record FlowsFit (sheet : Sheet) (x : Flows × Place) : Type 0 where
  pub paths : AllByRecursion (FitsPath sheet) x.0.0
  pub lengths : AllByRecursion (FitsLength sheet) x.0.1.lengths
  pub potentials : AllByRecursion (FitsPotential sheet) x.0.1.potentials

pub flows_ok : (sheet : Sheet) (place : Place) (x : Flows × Place) → flows_at sheet place ≡ Ok x → FlowsFit sheet x
unfolding flows_at
flows_ok sheet place x e =
    let made = λ (ps : List Row) (d : DualRows × Place). done {A = Flows × Place} {E = CertRefusal} ((ps, d.0), d.1) in
    let a = bind_ok (rows_from (codes "path") (path_row sheet) place.at place.rest) (λ ps. dual_at sheet ps.1 >>= λ d. made ps.0 d) x e in
    let b = bind_ok (dual_at sheet a.0.1) (λ d. made a.0.0 d) x a.2 in
    let fits = dual_ok sheet a.0.1 b.0 b.1 in
    subst (FlowsFit sheet) (ok_is {E = CertRefusal} ((a.0.0, b.0.0), b.0.1) x b.2)
    (record { paths = rows_fit (FitsPath sheet) (codes "path") (path_row sheet) (path_fits sheet) place.at place.rest a.0 a.1; lengths = fits.0; potentials = fits.1 })

-- ---- the two fractions and the threshold of a total

abbrev pub Totals : Type 0
Totals = Printed × Printed × ℕ

pub record TotalsFit (x : Totals × Place) : Type 0 where
  pub lower : FitsValue MAX_PART x.0.0
  pub upper : FitsValue MAX_PART x.0.1
  pub threshold : x.0.2 ≤ MAX_LENGTH

pub totals_ok : (place : Place) (x : Totals × Place) → totals_at place ≡ Ok x → TotalsFit x
unfolding totals_at
totals_ok place x e =
    let low = value_line (codes "lower") MAX_PART in
    let high = value_line (codes "upper") MAX_PART in
    let made = λ (l u : Printed) (t : ℕ × Place). done {A = Totals × Place} {E = CertRefusal} ((l, u, t.0), t.1) in
    let a = bind_ok (next_line low place) (λ l. next_line high l.1 >>= λ u. next_line threshold_line u.1 >>= λ t. made l.0 u.0 t) x e in
    let b = bind_ok (next_line high a.0.1) (λ u. next_line threshold_line u.1 >>= λ t. made a.0.0 u.0 t) x a.2 in
    let c = bind_ok (next_line threshold_line b.0.1) (λ t. made a.0.0 b.0.0 t) x b.2 in
    subst TotalsFit (ok_is {E = CertRefusal} ((a.0.0, b.0.0, c.0.0), c.0.1) x c.2) (record {
      lower = next_fits (FitsValue MAX_PART) low (value_fits (codes "lower") MAX_PART) place a.0 a.1;
      upper = next_fits (FitsValue MAX_PART) high (value_fits (codes "upper") MAX_PART) a.0.1 b.0 b.1;
      threshold = next_fits (λ n. n ≤ MAX_LENGTH) threshold_line threshold_fits b.0.1 c.0 c.1;
    })
