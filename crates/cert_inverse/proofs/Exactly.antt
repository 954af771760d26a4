-- Texts and what they are read as, one for one.
use Rattle.std.proofs.Common.{◌≡◌, ℕ, List, Some, Result, Ok, Err, sym, ap, subst, ◌∙◌}
use Rattle.std.specs.Prelude.{◌↔◌}
use Rattle.text_lines.specs.Lines.{lines_of}
use Rattle.cert_lines.specs.declared.refusal.CertRefusal.{CertRefusal}
use Rattle.cert_lines.specs.declared.refusal.CertEnd.{CertEnd}
use Rattle.cert_lines.specs.declared.refusal.CertEnd.TheVariants.{Refused, Memory}
use Rattle.cert_lines.specs.Sheet.{Sheets, sheet_for}
use Rattle.cert_lines.specs.declared.form.Form.{Form}
use Rattle.cert_lines.specs.declared.form.Form.TheVariants.{First, Second}
use Rattle.cert_text.specs.declared.papers.Paper.{Paper}
use Rattle.cert_text.specs.Reading.{Gives}
use Rattle.cert_text.specs.Whole.{paper_in}
use Rattle.cert_text.proofs.LineSteps.{text_bytes}
use Rattle.cert_judge.specs.Fits.{FitsPaper, HasLinkWord, read}
use Rattle.cert_text.proofs.Steps.{ok_is}
use Rattle.cert_inverse.specs.Inverse.{AreInForms, AreCitable, IsCitable, IsTextOf, IsReading, form_said, paper_text}
use Rattle.cert_inverse.proofs.TextAgain.{reads_back}
use Rattle.cert_inverse.proofs.TextTakes.{is_read}

-- a text that is read is the text of what is read, in the form that its first line says
pub text_is : (sheets : Sheets) (text : List ℕ) (paper : Paper) → AreInForms sheets → paper_in sheets (lines_of text) ≡ read paper
    → (form : Form) × (form_said (lines_of text) ≡ Some form) × (text ≡ paper_text (sheet_for sheets form) paper)
text_is sheets text paper forms e =
    let r = is_read sheets (lines_of text) paper forms e in
    (r.form, r.said, sym (text_bytes text) ∙ r.bytes)

-- a text of form 2 that is read is written again as it is
pub text_kept : (sheets : Sheets) (text : List ℕ) (paper : Paper) → AreInForms sheets → form_said (lines_of text) ≡ Some Second → paper_in sheets (lines_of text) ≡ read paper → paper_text sheets.new paper ≡ text
text_kept sheets text paper forms said e =
    let r = text_is sheets text paper forms e in
    let is : r.0 ≡ Second = same r.0 Second (sym r.1 ∙ said) in
    sym (subst (λ (f : Form). text ≡ paper_text (sheet_for sheets f) paper) is r.2)
  where
    same : (f g : Form) → Some f ≡ Some g → f ≡ g
    same f g h = cc

-- what is read is a certificate or a routing of which this is the text
pub text_of_read : (sheets : Sheets) (text : List ℕ) (paper : Paper) → AreInForms sheets → paper_in sheets (lines_of text) ≡ read paper → IsTextOf sheets text paper
text_of_read sheets text paper forms e =
    let r = is_read sheets (lines_of text) paper forms e in
    (r.form, record { worded = r.fits.0; fits = r.fits.1; spelled = sym (text_bytes text) ∙ r.bytes })

-- a sheet that has a word for how links are read can be cited
citable_in : (sheets : Sheets) (form : Form) → AreCitable sheets → HasLinkWord (sheet_for sheets form) → IsCitable (sheet_for sheets form)
citable_in sheets First own w = own.old w
citable_in sheets Second own w = own.new

pub exactly : (sheets : Sheets) (text : List ℕ) (paper : Paper) → AreCitable sheets → (paper_in sheets (lines_of text) ≡ read paper) ↔ IsTextOf sheets text paper
exactly sheets text paper own = (
  text_of_read sheets text paper own.forms,
  λ h. ap (λ (bytes : List ℕ). paper_in sheets (lines_of bytes)) h.1.spelled ∙ reads_back sheets h.0 paper own.forms (citable_in sheets h.0 own h.1.worded) h.1.fits,
)

pub of_one : (sheets : Sheets) (form : Form) (one other : Paper) → AreInForms sheets → IsCitable (sheet_for sheets form) → FitsPaper (sheet_for sheets form) one → FitsPaper (sheet_for sheets form) other
    → paper_text (sheet_for sheets form) one ≡ paper_text (sheet_for sheets form) other → one ≡ other
of_one sheets form one other forms own a b same =
    ok_is {E = CertRefusal} one other (sym (reads_back sheets form one forms own a) ∙ ap (λ (bytes : List ℕ). paper_in sheets (lines_of bytes)) same ∙ reads_back sheets form other forms own b)

pub of_any : (sheets : Sheets) (text : List ℕ) (one other : Paper) → AreCitable sheets → IsTextOf sheets text one → IsTextOf sheets text other → one ≡ other
of_any sheets text one other own a b = ok_is {E = CertRefusal} one other (sym ((exactly sheets text one own).1 a) ∙ (exactly sheets text other own).1 b)

pub reading : (sheets : Sheets) (text : List ℕ) (answer : Result Paper CertEnd) → AreCitable sheets → Gives (λ x. x) answer (paper_in sheets (lines_of text)) → IsReading sheets text answer
reading sheets text (Ok paper) own h = (exactly sheets text paper own).0 h
reading sheets text (Err (Refused refusal)) own h = λ paper is. let e : Err refusal ≡ read paper = sym h ∙ (exactly sheets text paper own).1 is in absurd cc
reading sheets text (Err Memory) own h = tt
