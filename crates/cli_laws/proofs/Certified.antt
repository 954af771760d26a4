-- What is refused where the headers of certificates alone are known.
use Rattle.std.proofs.Common.{◌≡◌, ℕ, List, [], ◌∷◌, Option, Some, None, Result, Ok, Err, refl, sym, ap, subst, ◌∙◌}
use Rattle.text_lines.specs.Lines.{Line, lines_of}
use Rattle.sndlib_grammar.specs.Rows.{NetRows}
use Rattle.unit_scale.specs.Scaling.{ScaledNet}
use Rattle.cert_lines.specs.declared.refusal.CertKind.TheVariants.{NoHeader}
use Rattle.cert_lines.specs.declared.refusal.CertRefusal.{CertRefusal}
use Rattle.cert_text.specs.declared.opening.Kind.{Kind}
use Rattle.cert_text.specs.declared.opening.Kind.TheVariants as kinds
use Rattle.cert_text.specs.declared.opening.Known.TheVariants.{Both, Certificates}
use Rattle.cert_text.specs.declared.opening.Opening.{Opening}
use Rattle.cert_text.specs.declared.opening.CertHead.{CertHead}
use Rattle.cert_text.specs.declared.papers.Paper.{Paper}
use Rattle.cert_text.specs.declared.papers.Paper.TheVariants as papers
use Rattle.cert_text.specs.Papers.{form_of, header_of, header_by, of_certificate}
use Rattle.cert_text.specs.Whole.{head_by, opened_by}
use Rattle.cert_judge.specs.declared.refusal.Refusal.{Refusal}
use Rattle.cert_judge.specs.declared.refusal.Refusal.TheVariants.{Net, Cert}
use Rattle.cert_judge.specs.declared.certifying.Certified.TheVariants.{Said}
use Rattle.cert_judge.specs.Chain.{read_on, IsSaid}
use Rattle.cert_judge.specs.Papers.{paper_on, rest_on, options_of, nothing_more}
use Rattle.cert_judge.specs.Judgement.{OnPaper, IsJudgement, refused}
use Rattle.cert_judge.specs.Certified.{OnRead, IsCertifiedText, told}
use Rattle.cli_laws.specs.Routings.{SaysRouting}

no_header : CertRefusal
no_header = record { line = 1; kind = NoHeader }

same_header : (lines : List Line) → ¬ (SaysRouting lines) → header_by Certificates lines ≡ header_by Both lines
unfolding header_by
same_header [] none = refl
same_header (line ∷ rest) none = by (form_of line) refl
  where
    kind_is : (o : Opening) (kind : Kind) → o.kind ≡ kind → form_of line ≡ Some o → header_of (of_certificate (Some o)) rest ≡ header_of (Some o) rest
    kind_is o kinds.Certificate is e = rw is refl
    kind_is o kinds.Routing is e = absurd (none (o, e, is))

    by : (f : Option Opening) → form_of line ≡ f → header_of (of_certificate f) rest ≡ header_of f rest
    by None e = refl
    by (Some o) e = kind_is o o.kind refl e

routing_header : (lines : List Line) → SaysRouting lines → header_by Certificates lines ≡ Err no_header
unfolding header_by no_header
routing_header [] (o, says, is) = absurd says
routing_header (line ∷ rest) (o, says, is) = rw (says, is) refl

same_head : (lines : List Line) → ¬ (SaysRouting lines) → head_by Certificates lines ≡ head_by Both lines
unfolding head_by opened_by
same_head lines none = rw (same_header lines none) refl

routing_head : (lines : List Line) → SaysRouting lines → head_by Certificates lines ≡ Err no_header
unfolding head_by opened_by
routing_head lines says = rw (routing_header lines says) refl

pub same_chain : (rows : NetRows) (text : List ℕ) → ¬ (SaysRouting (lines_of text)) → paper_on Certificates rows text ≡ paper_on Both rows text
same_chain rows text none = ap (λ (head : Result CertHead CertRefusal). read_on rows options_of nothing_more (rest_on rows text) head) (same_head (lines_of text) none)

pub routing_chain : (rows : NetRows) (text : List ℕ) → SaysRouting (lines_of text) → paper_on Certificates rows text ≡ Err (Cert (record { line = 1; kind = NoHeader }))
unfolding read_on no_header
routing_chain rows text says = rw (routing_head (lines_of text) says) refl

pub refused_same : (rows : NetRows) (text : List ℕ) (refusal : Refusal) → ¬ (SaysRouting (lines_of text)) → IsCertifiedText rows text (Said (refused refusal)) → IsJudgement rows text (refused refusal)
refused_same rows text refusal none h = by (paper_on Certificates rows text) refl h
  where
    said : (a b : Refusal) → told a ≡ told b → refused a ≡ refused b
    said a b e = cc

    on : (net : ScaledNet) (paper : Paper) (r : Refusal) → OnRead rows net paper (Said (refused r)) → ⊥
    on net (papers.Full proof) (Net r) k = k
    on net (papers.Full proof) (Cert r) k = k
    on net (papers.Routing x) r k = k

    by : (chain : Result (ScaledNet × Paper) Refusal) → paper_on Certificates rows text ≡ chain → IsSaid told (OnRead rows) chain (Said (refused refusal)) → IsJudgement rows text (refused refusal)
    by (Err r) e k = subst (λ (c : Result (ScaledNet × Paper) Refusal). IsSaid refused OnPaper c (refused refusal)) (sym e ∙ same_chain rows text none) (said refusal r k)
    by (Ok (net, paper)) e k = absurd (on net paper refusal k)
