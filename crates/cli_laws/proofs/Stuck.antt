-- A certificate or routing that is refused: the lines before are the front of one.
use Rattle.std.proofs.Common.{◌≡◌, ◌⊎◌, ℕ, ◌+◌, ◌<◌, Bool, true, false, cond, List, [], ◌∷◌, ◌++◌, length, Option, Some, None, Result, Ok, Err, refl, sym, ap, subst, ◌∙◌, append_assoc, inl, inr, arith}
use Rattle.std.specs.Prelude.{map}
use Rattle.std.proofs.lemmas.List.Concat.{flat_map-cons}
use Rattle.text_lines.specs.Lines.{Line, spelled, text_of}
use Rattle.flow_paths.specs.declared.certificate.Routing.{Routing}
use Rattle.flow_paths.specs.declared.certificate.Proof.{Proof}
use Rattle.cert_lines.specs.Sheet.{Sheet, Sheets, sheet_for}
use Rattle.cert_lines.specs.declared.form.Form.{Form}
use Rattle.cert_lines.specs.declared.form.Form.TheVariants.{Second}
use Rattle.cert_lines.specs.declared.refusal.CertKind.TheVariants.{Syntax}
use Rattle.cert_lines.specs.declared.refusal.CertRefusal.{CertRefusal}
use Rattle.cert_lines.specs.Forms.{◌>>=◌}
use Rattle.cert_lines.specs.Spelling.{length_words, potential_words, path_words}
use Rattle.cert_text.specs.declared.papers.Paper.{Paper}
use Rattle.cert_text.specs.declared.papers.Paper.TheVariants as papers
use Rattle.cert_text.specs.declared.opening.Kind.{Kind}
use Rattle.cert_text.specs.declared.opening.Kind.TheVariants as kinds
use Rattle.cert_text.specs.declared.opening.Opening.{Opening}
use Rattle.cert_text.specs.Reading.{Place, bytes_of, has_more}
use Rattle.cert_text.specs.Papers.{routing_at, proof_at, form_of, header_of, header, header_by}
use Rattle.cert_text.specs.Whole.{paper_at, paper_in}
use Rattle.cert_writer.specs.Text.{end_line, FitsRouting, FitsProof}
use Rattle.cert_judge.specs.Fits.{FitsPaper}
use Rattle.cert_inverse.specs.Inverse.{AreInForms, form_said, paper_lines}
use Rattle.cert_inverse.proofs.Headers.{header_words, said_words, forms_are, header_take, header_said}
use Rattle.cert_inverse.proofs.TextTakes.{scale_lines, value_lines, opened_lines}
use Rattle.cli_laws.proofs.Steps.{done, failed, Is, then_is}
use Rattle.cli_laws.proofs.Short.{Short, PartOf, Fits, FaultAt}
use Rattle.cli_laws.proofs.ShortPapers.{routing_made, routing_fits, no_scale, behind_routing, routing_part, behind_proof, proof_part}

-- what stands behind the header of a paper, up to some line
abbrev pub BehindHeader : Sheet → Kind → List Line → Type 0
BehindHeader sheet kind front = (paper : Paper) × FitsPaper sheet paper × (back : List Line) × (paper_lines sheet paper ≡ header_words kind sheet.form ∷ (front ++ back))

pub of_part : (F G : List Line → Type 0) (p : Place) (e : CertRefusal) → ((front : List Line) → F front → G front) → Short F p e → Short G p e
of_part F G p e to s = record { front = s.front; is = to s.front s.is; rest = s.rest; bytes = s.bytes; line = s.line }

certificate_is : (sheet : Sheet) (p : Proof) → paper_lines sheet (papers.Full p) ≡ header_words kinds.Certificate sheet.form ∷ behind_proof sheet p
certificate_is sheet p =
    let rows = map (path_words sheet) p.routing.paths in
    let lengths = map (length_words sheet) p.dual.lengths in
    let potentials = map (potential_words sheet) p.dual.potentials in
    ap (λ (l : List Line). header_words kinds.Certificate sheet.form ∷ (opened_lines sheet (p.closed, p.gap) ++ (scale_lines (p.routing.phases, (p.routing.scale_cap, p.routing.scale_load)) ++ (value_lines (p.lower, p.upper) ++ (rows ++ l)))))
    (sym (append_assoc lengths potentials (end_line ∷ [])))

paper_part : (sheet : Sheet) (kind : Kind) (p : Place) → Is (Fits {X = Paper}) (Short (BehindHeader sheet kind) p) (paper_at sheet kind p)
unfolding paper_at
paper_part sheet kinds.Certificate p =
    then_is (Fits {X = Proof}) (Short (PartOf (behind_proof sheet) (FitsProof sheet)) p) (Fits {X = Paper}) (Short (BehindHeader sheet kinds.Certificate) p) (proof_at sheet p) (λ x. done (papers.Full x)) (proof_part sheet p)
    (λ e s. of_part (PartOf (behind_proof sheet) (FitsProof sheet)) (BehindHeader sheet kinds.Certificate) p e
    (λ f is. (papers.Full is.0, is.1, is.2, certificate_is sheet is.0 ∙ ap (λ (l : List Line). header_words kinds.Certificate sheet.form ∷ l) is.3)) s)
    (λ x h. tt)
paper_part sheet kinds.Routing p =
    then_is (Fits {X = Routing}) (Short (PartOf (behind_routing sheet) (FitsRouting sheet)) p) (Fits {X = Paper}) (Short (BehindHeader sheet kinds.Routing) p) (routing_at sheet p) (λ x. done (papers.Routing x)) (routing_part sheet p)
    (λ e s. of_part (PartOf (behind_routing sheet) (FitsRouting sheet)) (BehindHeader sheet kinds.Routing) p e
    (λ f is. (papers.Routing is.0, is.1, is.2, ap (λ (l : List Line). header_words kinds.Routing sheet.form ∷ l) is.3)) s)
    (λ x h. tt)

-- ---- the header

abbrev pub HeaderStands : Opening × Place → Type 0
HeaderStands x = x.1.at ≡ 2

pub header_at : (lines : List Line) → Is HeaderStands (FaultAt 1) (header lines)
unfolding header_by
header_at [] = refl
header_at (line ∷ lines) = by (form_of line)
  where
    known : (o : Opening) (b : Bool) → Is HeaderStands (FaultAt 1) (cond b (done (o, record { at = 2; rest = lines })) (Err (record { line = 1; kind = Syntax })))
    known o true = refl
    known o false = refl

    by : (o : Option Opening) → Is HeaderStands (FaultAt 1) (header_of o lines)
    by None = refl
    by (Some o) = known o (has_more lines)

-- ---- the whole

-- the lines before the refusal begin those of a paper; in the form that the first line says, if that is among them
pub record IsStuck (sheets : Sheets) (lines : List Line) (e : CertRefusal) : Type 0 where
  pub form : Form
  pub paper : Paper
  pub fits : FitsPaper (sheet_for sheets form) paper
  pub front : List Line
  pub back : List Line
  pub whole : paper_lines (sheet_for sheets form) paper ≡ front ++ back
  pub rest : List Line
  pub bytes : bytes_of lines ≡ text_of front ++ bytes_of rest
  pub line : e.line ≡ 1 + length front
  pub said : (form ≡ Second) ⊎ ((form_said lines ≡ Some form) × (1 < e.line))

pub stuck : (sheets : Sheets) (lines : List Line) (e : CertRefusal) → AreInForms sheets → paper_in sheets lines ≡ Err e → IsStuck sheets lines e
unfolding paper_in
stuck sheets lines e forms is = by (header lines) refl (header_at lines) is
  where
    no_paper : Routing
    no_paper = routing_made (0, (0, 0)) []

    at_first : (d : CertRefusal) → FaultAt 1 d → failed Paper d ≡ failed Paper e → IsStuck sheets lines e
    at_first d first k =
        let same : d ≡ e = cc in
        record {
          form = Second;
          paper = papers.Routing no_paper;
          fits = routing_fits sheets.new (0, (0, 0)) [] no_scale tt;
          front = [];
          back = paper_lines sheets.new (papers.Routing no_paper);
          whole = refl;
          rest = lines;
          bytes = refl;
          line = sym (ap (λ (x : CertRefusal). x.line) same) ∙ first;
          said = inl refl;
        }

    behind : (x : Opening × Place) → header lines ≡ Ok x → HeaderStands x → Short (BehindHeader (sheet_for sheets x.0.form) x.0.kind) x.1 e → IsStuck sheets lines e
    behind x h at s =
        let sheet = sheet_for sheets x.0.form in
        let first = header_words x.0.kind sheet.form in
        let said : said_words x.0 ≡ first = ap (λ (w : List ℕ). header_words x.0.kind w) (sym (forms_are sheets x.0.form forms)) in
        record {
          form = x.0.form;
          paper = s.is.0;
          fits = s.is.1;
          front = first ∷ s.front;
          back = s.is.2;
          whole = s.is.3;
          rest = s.rest;
          bytes =
              header_take lines x h ∙ ap (λ (l : Line). spelled l ++ bytes_of x.1.rest) said ∙ ap (λ (l : List ℕ). spelled first ++ l) s.bytes
              ∙ sym (append_assoc (spelled first) (text_of s.front) (bytes_of s.rest)) ∙ ap (λ (l : List ℕ). l ++ bytes_of s.rest) (sym (flat_map-cons spelled first s.front));
          line = omega (arith, s.line, at);
          said = inr (header_said lines x h, omega (arith, s.line, at));
        }

    by : (r : Result (Opening × Place) CertRefusal) → header lines ≡ r → Is HeaderStands (FaultAt 1) r → (r >>= λ first. paper_at (sheet_for sheets first.0.form) first.0.kind first.1) ≡ Err e → IsStuck sheets lines e
    by (Err d) h at k = at_first d at k
    by (Ok x) h at k = behind x h at (subst (Is (Fits {X = Paper}) (Short (BehindHeader (sheet_for sheets x.0.form) x.0.kind) x.1)) k (paper_part (sheet_for sheets x.0.form) x.0.kind x.1))
