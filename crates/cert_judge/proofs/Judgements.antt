-- What is said of a text, and what comes of a certificate, by the stages of the chain.
use Rattle.std.proofs.Common.{◌≡◌, ℕ, List}
use Rattle.text_lines.specs.Lines.{lines_of}
use Rattle.flow_paths.specs.declared.certificate.Proof.{Proof}
use Rattle.sndlib_grammar.specs.Rows.{NetRows}
use Rattle.unit_scale.specs.Scaling.{ScaledNet}
use Rattle.cert_text.specs.declared.opening.Known.TheVariants.{Both, Certificates}
use Rattle.cert_text.specs.declared.papers.Paper.{Paper}
use Rattle.cert_text.specs.declared.papers.Paper.TheVariants.{Routing, Full}
use Rattle.cert_text.specs.Whole.{head_by}
use Rattle.cert_judge.specs.declared.refusal.Refusal.{Refusal}
use Rattle.cert_judge.specs.declared.judged.Judged.{Judged}
use Rattle.cert_judge.specs.declared.certifying.Certified.{Certified}
use Rattle.cert_judge.specs.Papers.{options_of, nothing_more, rest_on, IsReadOf}
use Rattle.cert_judge.specs.Judgement.{IsJudgement, OnPaper, refused}
use Rattle.cert_judge.specs.Certified.{IsCertifiedText, OnCertificate, OnRead, told}
use Rattle.cert_judge.proofs.KnownHeaders.{certificate_both}
use Rattle.cert_judge.proofs.Stages.{accepted_by, said_of, says}

-- what is said of a text that was read is of what was read
pub judged_of : (rows : NetRows) (text : List ℕ) (net : ScaledNet) (paper : Paper) (judged : Judged) → IsReadOf Both rows text net paper → IsJudgement rows text judged → OnPaper net paper judged
judged_of rows text net paper judged s said =
    said_of rows options_of nothing_more (rest_on rows text) (head_by Both (lines_of text)) refused OnPaper judged net paper s said

pub judged_as : (rows : NetRows) (text : List ℕ) (net : ScaledNet) (paper : Paper) (judged : Judged) → IsReadOf Both rows text net paper → OnPaper net paper judged → IsJudgement rows text judged
judged_as rows text net paper judged s of =
    says rows options_of nothing_more (rest_on rows text) (head_by Both (lines_of text)) refused OnPaper judged net paper s of

-- where what is said is no refusal, the text was read
pub judged_by : (rows : NetRows) (text : List ℕ) (judged : Judged) → ((r : Refusal) → judged ≡ refused r → ⊥) → IsJudgement rows text judged
    → (net : ScaledNet) × (paper : Paper) × IsReadOf Both rows text net paper × OnPaper net paper judged
judged_by rows text judged other said =
    accepted_by rows options_of nothing_more (rest_on rows text) (head_by Both (lines_of text)) refused OnPaper judged other said

-- what comes of a certificate that was read is of it
pub certified_of : (rows : NetRows) (text : List ℕ) (net : ScaledNet) (proof : Proof) (certified : Certified) → IsReadOf Certificates rows text net (Full proof) → IsCertifiedText rows text certified → OnCertificate rows net proof certified
certified_of rows text net proof certified s said =
    said_of rows options_of nothing_more (rest_on rows text) (head_by Certificates (lines_of text)) told (OnRead rows) certified net (Full proof) s said

-- where what comes of a text is no refusal, it is a certificate that was read
pub certified_by : (rows : NetRows) (text : List ℕ) (certified : Certified) → ((r : Refusal) → certified ≡ told r → ⊥) → IsCertifiedText rows text certified
    → (net : ScaledNet) × (proof : Proof) × IsReadOf Both rows text net (Full proof) × OnCertificate rows net proof certified
certified_by rows text certified other said =
    let a = accepted_by rows options_of nothing_more (rest_on rows text) (head_by Certificates (lines_of text)) told (OnRead rows) certified other said in
    by a.0 a.1 a.2 a.3
  where
    by : (net : ScaledNet) (paper : Paper) → IsReadOf Certificates rows text net paper → OnRead rows net paper certified → (n : ScaledNet) × (proof : Proof) × IsReadOf Both rows text n (Full proof) × OnCertificate rows n proof certified
    by net (Full proof) s on = (net, proof, certificate_both rows text net proof s, on)
    by net (Routing r) s on = absurd on
