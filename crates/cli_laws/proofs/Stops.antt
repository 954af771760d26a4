-- Where the text of a certificate or routing is refused, it stops to begin one.
use Rattle.std.proofs.Common.{◌≡◌, ℕ, List, ◌++◌, sym, ap, subst, ◌∙◌, inl, inr}
use Rattle.std.specs.List.{AllByRecursion}
use Rattle.text_lines.specs.Lines.{text_of, lines_of, IsLine}
use Rattle.cert_lines.specs.Sheet.{Sheets, sheet_for}
use Rattle.cert_lines.specs.declared.form.Form.{Form}
use Rattle.cert_lines.specs.declared.form.Form.TheVariants.{First, Second}
use Rattle.cert_lines.specs.declared.refusal.CertRefusal.{CertRefusal}
use Rattle.cert_text.specs.Whole.{paper_in}
use Rattle.cert_judge.specs.Fits.{HasLinkWord}
use Rattle.cert_inverse.specs.Inverse.{AreCitable, IsCitable, paper_text}
use Rattle.cert_inverse.proofs.Headers.{forms_are}
use Rattle.cert_inverse.proofs.Between.{text_of-both}
use Rattle.cert_inverse.proofs.TextAgain.{paper_clean, text_is_of_lines}
use Rattle.cert_inverse.proofs.Exactly.{exactly}
use Rattle.cli_laws.specs.Lines.{StopsAt}
use Rattle.cli_laws.specs.Papers.{IsPaper, IsWorded, refused}
use Rattle.cli_laws.proofs.NearPapers.{same_refusal}
use Rattle.cli_laws.proofs.Stuck.{stuck}
use Rattle.cli_laws.proofs.Stopping.{AreRead, clean_front, stops_at}

citable_in : (sheets : Sheets) (form : Form) → AreCitable sheets → HasLinkWord (sheet_for sheets form) → IsCitable (sheet_for sheets form)
citable_in sheets First own w = own.old w
citable_in sheets Second own w = own.new

new_worded : (sheets : Sheets) → AreCitable sheets → HasLinkWord sheets.new
new_worded sheets own = own.new.clear.full_modes.0

are_read : (sheets : Sheets) → AreCitable sheets → AreRead (IsPaper sheets) (paper_in sheets)
are_read sheets own = record { again = λ text is. (is.0, (exactly sheets text is.0 own).1 is.1); same = λ t before r count le k. same_refusal sheets t before r count le k }

pub stops : (sheets : Sheets) (text : List ℕ) (r : CertRefusal) → AreCitable sheets → IsWorded sheets text r.line → paper_in sheets (lines_of text) ≡ refused r → StopsAt (IsPaper sheets) text r.line
stops sheets text r own worded e =
    let s = stuck sheets (lines_of text) r own.forms e in
    let sheet = sheet_for sheets s.form in
    let word : HasLinkWord sheet = elim s.said as (λ _. HasLinkWord sheet) [
      | inl new ↦ subst (λ (f : Form). HasLinkWord (sheet_for sheets f)) (sym new) (new_worded sheets own)
      | inr said ↦ worded s.form said.0 said.1
    ] in
    let clean = subst (AllByRecursion IsLine) s.whole (paper_clean sheet s.form s.paper (forms_are sheets s.form own.forms) (citable_in sheets s.form own word) s.fits) in
    let whole : text_of s.front ++ text_of s.back ≡ paper_text sheet s.paper = text_of-both s.front s.back ∙ ap text_of (sym s.whole) ∙ sym (text_is_of_lines sheet s.paper) in
    stops_at (IsPaper sheets) (paper_in sheets) (are_read sheets own) text r e s.front s.rest (clean_front s.front s.back clean) s.bytes s.line
    (text_of s.back, (s.paper, (s.form, record { worded = word; fits = s.fits; spelled = whole })))
