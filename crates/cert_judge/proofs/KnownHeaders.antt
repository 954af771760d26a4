-- Certificates and routings, where the headers of certificates alone are known.
use Rattle.std.proofs.Common.{◌≡◌, ℕ, List, Result, Ok, Err, refl, ap, sym, subst, ◌∙◌}
use Rattle.text_lines.specs.Lines.{Line, lines_of}
use Rattle.flow_paths.specs.declared.certificate.Routing.{Routing as RoutingIs}
use Rattle.flow_paths.specs.declared.certificate.Proof.{Proof}
use Rattle.sndlib_grammar.specs.Rows.{NetRows}
use Rattle.unit_scale.specs.Scaling.{ScaledNet}
use Rattle.cert_lines.specs.Sheet.{Sheet, Sheets, sheet_for, sheets_of}
use Rattle.cert_lines.specs.declared.refusal.CertRefusal.{CertRefusal}
use Rattle.cert_text.specs.declared.opening.CertHead.{CertHead}
use Rattle.cert_text.specs.declared.opening.Kind.{Kind}
use Rattle.cert_text.specs.declared.opening.Kind.TheVariants as kinds
use Rattle.cert_text.specs.declared.opening.Known.{Known}
use Rattle.cert_text.specs.declared.opening.Known.TheVariants.{Both, Certificates}
use Rattle.cert_text.specs.declared.opening.Opening.{Opening}
use Rattle.cert_text.specs.declared.papers.Paper.{Paper}
use Rattle.cert_text.specs.declared.papers.Paper.TheVariants.{Routing, Full}
use Rattle.cert_text.specs.Reading.{Place}
use Rattle.cert_text.specs.Papers.{header, header_by, proof_at, routing_at}
use Rattle.cert_text.specs.Whole.{head_by, head_in, paper_at, paper_in}
use Rattle.cert_text.proofs.FirstLines.{certificate_known, head_header, known_header, known_kind, same_head}
use Rattle.cert_judge.specs.Chain.{AreStages}
use Rattle.cert_judge.specs.Papers.{options_of, nothing_more, rest_on, paper_on, IsReadOf}
use Rattle.cert_judge.proofs.Stages.{read_stages, stages_read}
use Rattle.cert_text.proofs.Steps.{bind_ok, done, ok_is}

differ : (p : Proof) (r : RoutingIs) → Full p ≡ Routing r → ⊥
differ p r e = cc

full_kind : (sheet : Sheet) (kind : Kind) (place : Place) (p : Proof) → paper_at sheet kind place ≡ Ok (Full p) → kind ≡ kinds.Certificate
unfolding paper_at
full_kind sheet kinds.Certificate place p e = refl
full_kind sheet kinds.Routing place p e =
    let a = bind_ok (routing_at sheet place) (λ r. done {A = Paper} {E = CertRefusal} (Routing r)) (Full p) e in
    absurd (differ p a.0 (sym (ok_is {E = CertRefusal} (Routing a.0) (Full p) a.2)))

routing_kind : (sheet : Sheet) (kind : Kind) (place : Place) (r : RoutingIs) → paper_at sheet kind place ≡ Ok (Routing r) → kind ≡ kinds.Routing
unfolding paper_at
routing_kind sheet kinds.Routing place r e = refl
routing_kind sheet kinds.Certificate place r e =
    let a = bind_ok (proof_at sheet place) (λ p. done {A = Paper} {E = CertRefusal} (Full p)) (Routing r) e in
    absurd (differ a.0 r (ok_is {E = CertRefusal} (Full a.0) (Routing r) a.2))

-- the first line of a text that was read, and what follows it
paper_parts : (sheets : Sheets) (lines : List Line) (paper : Paper) → paper_in sheets lines ≡ Ok paper → (first : Opening × Place) × (header lines ≡ Ok first) × (paper_at (sheet_for sheets first.0.form) first.0.kind first.1 ≡ Ok paper)
unfolding paper_in
paper_parts sheets lines paper e = bind_ok (header lines) (λ first. paper_at (sheet_for sheets first.0.form) first.0.kind first.1) paper e

-- the head of a certificate is the same, whichever headers are known
pub certificate_head : (sheets : Sheets) (lines : List Line) (p : Proof) → paper_in sheets lines ≡ Ok (Full p) → head_by Certificates lines ≡ head_in lines
certificate_head sheets lines p e =
    let a = paper_parts sheets lines (Full p) e in
    let kind = full_kind (sheet_for sheets a.0.0.form) a.0.0.kind a.0.1 p a.2 in
    same_head lines a.0 (certificate_known lines a.0 a.1 kind) a.1

clash : kinds.Certificate ≡ kinds.Routing → ⊥
clash e = cc

-- no routing is read where its header is none that is known
pub no_routing : (sheets : Sheets) (lines : List Line) (head : CertHead) (r : RoutingIs) → head_by Certificates lines ≡ Ok head → paper_in sheets lines ≡ Ok (Routing r) → ⊥
no_routing sheets lines head r h e =
    let a = paper_parts sheets lines (Routing r) e in
    let first = head_header Certificates lines head h in
    let same : first.0 ≡ a.0 = ok_is {E = CertRefusal} first.0 a.0 (sym (known_header Certificates lines first.0 first.1) ∙ a.1) in
    let own : first.0.0.kind ≡ kinds.Certificate = known_kind lines first.0 first.1 in
    clash (sym own ∙ ap (λ (q : Opening × Place). q.0.kind) same ∙ routing_kind (sheet_for sheets a.0.0.form) a.0.0.kind a.0.1 r a.2)

pub read_by : (known : Known) (rows : NetRows) (text : List ℕ) (net : ScaledNet) (paper : Paper) → paper_on known rows text ≡ Ok (net, paper) → IsReadOf known rows text net paper
read_by known rows text net paper e = read_stages rows options_of nothing_more (rest_on rows text) (head_by known (lines_of text)) net paper e

pub reads : (known : Known) (rows : NetRows) (text : List ℕ) (net : ScaledNet) (paper : Paper) → IsReadOf known rows text net paper → paper_on known rows text ≡ Ok (net, paper)
reads known rows text net paper s = stages_read rows options_of nothing_more (rest_on rows text) (head_by known (lines_of text)) net paper s

pub reads_no_routing : (rows : NetRows) (text : List ℕ) (net : ScaledNet) (r : RoutingIs) → paper_on Certificates rows text ≡ Ok (net, Routing r) → ⊥
reads_no_routing rows text net r e =
    let s = read_by Certificates rows text net (Routing r) e in
    no_routing (sheets_of rows net) (lines_of text) s.head_of r s.head_read s.rest_read

-- a certificate is read the same, whichever headers are known
pub certificate_either : (rows : NetRows) (text : List ℕ) (net : ScaledNet) (p : Proof) → IsReadOf Both rows text net (Full p) → IsReadOf Certificates rows text net (Full p)
certificate_either rows text net p s = record {
  head_of = s.head_of;
  head_read = certificate_head (sheets_of rows net) (lines_of text) p s.rest_read ∙ s.head_read;
  scaled = s.scaled;
  fits = s.fits;
  rest_read = s.rest_read;
}

pub certificate_both : (rows : NetRows) (text : List ℕ) (net : ScaledNet) (p : Proof) → IsReadOf Certificates rows text net (Full p) → IsReadOf Both rows text net (Full p)
certificate_both rows text net p s = record {
  head_of = s.head_of;
  head_read = sym (certificate_head (sheets_of rows net) (lines_of text) p s.rest_read) ∙ s.head_read;
  scaled = s.scaled;
  fits = s.fits;
  rest_read = s.rest_read;
}
