-- Parts of the texts: what is read was spelled so.
use Rattle.std.proofs.Common.{◌≡◌, ℕ, cond, List, [], ◌∷◌, ◌++◌, Ok, Err, refl, ap, subst, ◌∙◌, arith}
use Rattle.std.specs.Prelude.{codes, map}
use Rattle.text_lines.specs.Lines.{Line, spelled}
use Rattle.flow_model.specs.Routing.{Row}
use Rattle.flow_paths.specs.DualRows.{DualRows}
use Rattle.flow_paths.specs.declared.certificate.Printed.{Printed}
use Rattle.gap_fraction.specs.declared.fraction.TheConstants.{MAX_PART}
use Rattle.cert_lines.specs.Sheet.{Sheet}
use Rattle.cert_lines.specs.declared.refusal.CertRefusal.{CertRefusal}
use Rattle.cert_lines.specs.declared.refusal.CertKind.TheVariants.{NoHeader, Syntax}
use Rattle.cert_lines.specs.Forms.{◌>>=◌, is_fixed}
use Rattle.cert_lines.specs.HeadLines.{value_line}
use Rattle.cert_lines.specs.Rows.{path_row}
use Rattle.cert_lines.specs.Spelling.{value_words, path_words}
use Rattle.cert_text.specs.Reading.{Place, has_more, next_line, rows_from, bytes_of}
use Rattle.cert_text.specs.Papers.{dual_at}
use Rattle.cert_text.proofs.Steps.{bind_ok, done, ok_is, passed}
use Rattle.cert_inverse.proofs.Words.{same_bytes}
use Rattle.cert_inverse.proofs.HeadTakes.{joined, value_takes}
use Rattle.cert_inverse.proofs.RowTakes.{path_takes}
use Rattle.cert_inverse.proofs.Between.{Between, between_then, first_line, next_between, rows_between}
use Rattle.cert_inverse.proofs.TextTakes.{dual_lines, dual_take}
use Rattle.kind_texts.specs.Heads.{header_at}
use Rattle.kind_texts.specs.Rows.{flows_at}
use Rattle.kind_texts.specs.PartText.{threshold_words}
use Rattle.kind_texts.specs.PartRead.{threshold_line, totals_at}
use Rattle.kind_texts.proofs.PartsFit.{Flows, Totals}
use Rattle.kind_inverse.proofs.LayerLaws.{threshold_takes}

-- the first line is this one, and the place is behind it
pub header_take : (known : List ℕ) (first : Line) (lines : List Line) (p : Place) → known ≡ joined first → header_at known lines ≡ Ok p → bytes_of lines ≡ spelled first ++ bytes_of p.rest
unfolding header_at
header_take known first [] p same e = absurd cc
header_take known first (line ∷ lines) p same e =
    let behind : Place = record { at = 2; rest = lines } in
    let a = passed (is_fixed known line) (cond (has_more lines) (done behind) (Err (record { line = 1; kind = Syntax }))) (record { line = 1; kind = NoHeader }) p e in
    let b = passed (has_more lines) (done behind) (record { line = 1; kind = Syntax }) p a.1 in
    first_line line lines b.0 ∙ ap (λ (l : List ℕ). (l ++ 10 ∷ []) ++ bytes_of lines) (same_bytes (joined line) known a.0 ∙ same)
    ∙ ap (λ (q : Place). spelled first ++ bytes_of q.rest) (ok_is {E = CertRefusal} behind p b.1)

-- ---- rows

abbrev pub flow_lines : Sheet → Flows → List Line
flow_lines sheet f = map (path_words sheet) f.0 ++ dual_lines sheet f.1

pub flows_take : (sheet : Sheet) (place : Place) (x : Flows × Place) → flows_at sheet place ≡ Ok x → Between (flow_lines sheet x.0) place x.1
unfolding flows_at
flows_take sheet place x e =
    let made = λ (ps : List Row) (d : DualRows × Place). done {A = Flows × Place} {E = CertRefusal} ((ps, d.0), d.1) in
    let a = bind_ok (rows_from (codes "path") (path_row sheet) place.at place.rest) (λ ps. dual_at sheet ps.1 >>= λ d. made ps.0 d) x e in
    let b = bind_ok (dual_at sheet a.0.1) (λ d. made a.0.0 d) x a.2 in
    let paths = rows_between (codes "path") (path_row sheet) (path_words sheet) (path_takes sheet) place a.0 a.1 in
    subst (λ (q : Flows × Place). Between (flow_lines sheet q.0) place q.1) (ok_is {E = CertRefusal} ((a.0.0, b.0.0), b.0.1) x b.2)
    (between_then (map (path_words sheet) a.0.0) (dual_lines sheet b.0.0) place a.0.1 b.0.1 paths (dual_take sheet a.0.1 b.0 b.1))

-- ---- the two fractions and the threshold of a total

abbrev pub totals_lines : Totals → List Line
totals_lines v = value_words (codes "lower") v.0 ∷ value_words (codes "upper") v.1 ∷ threshold_words v.2 ∷ []

pub totals_take : (place : Place) (x : Totals × Place) → totals_at place ≡ Ok x → Between (totals_lines x.0) place x.1
unfolding totals_at
totals_take place x e =
    let low = value_line (codes "lower") MAX_PART in
    let high = value_line (codes "upper") MAX_PART in
    let made = λ (l u : Printed) (t : ℕ × Place). done {A = Totals × Place} {E = CertRefusal} ((l, u, t.0), t.1) in
    let a = bind_ok (next_line low place) (λ l. next_line high l.1 >>= λ u. next_line threshold_line u.1 >>= λ t. made l.0 u.0 t) x e in
    let b = bind_ok (next_line high a.0.1) (λ u. next_line threshold_line u.1 >>= λ t. made a.0.0 u.0 t) x a.2 in
    let c = bind_ok (next_line threshold_line b.0.1) (λ t. made a.0.0 b.0.0 t) x b.2 in
    let lower = next_between low (value_words (codes "lower")) (λ line v h. ap joined (value_takes (codes "lower") MAX_PART line v (omega arith) h)) place a.0 a.1 in
    let upper = next_between high (value_words (codes "upper")) (λ line v h. ap joined (value_takes (codes "upper") MAX_PART line v (omega arith) h)) a.0.1 b.0 b.1 in
    let threshold = next_between threshold_line threshold_words (λ line n h. ap joined (threshold_takes line n h)) b.0.1 c.0 c.1 in
    let last = between_then (value_words (codes "upper") b.0.0 ∷ []) (threshold_words c.0.0 ∷ []) a.0.1 b.0.1 c.0.1 upper threshold in
    subst (λ (q : Totals × Place). Between (totals_lines q.0) place q.1) (ok_is {E = CertRefusal} ((a.0.0, b.0.0, c.0.0), c.0.1) x c.2)
    (between_then (value_words (codes "lower") a.0.0 ∷ []) (value_words (codes "upper") b.0.0 ∷ threshold_words c.0.0 ∷ []) place a.0.1 c.0.1 lower last)
