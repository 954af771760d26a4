-- Texts of certificates and routings, and what a refusal of one says.
use Rattle.std.specs.Prelude.{◌≡◌, ℕ, ◌<◌, List, Some, Result, Err}
use Rattle.text_lines.specs.Lines.{lines_of}
use Rattle.cert_lines.specs.Sheet.{Sheets, sheet_for}
use Rattle.cert_lines.specs.declared.form.Form.{Form}
use Rattle.cert_lines.specs.declared.refusal.CertRefusal.{CertRefusal}
use Rattle.cert_text.specs.declared.papers.Paper.{Paper}
use Rattle.cert_judge.specs.Fits.{HasLinkWord}
use Rattle.cert_inverse.specs.Inverse.{IsTextOf, form_said}

-- this is the text of some certificate or routing, in one of the forms
abbrev pub IsPaper : Sheets → List ℕ → Type 0
IsPaper sheets text = (paper : Paper) × IsTextOf sheets text paper

-- there is a word for how links are read in the form that the first line says, where that line is behind
abbrev pub IsWorded : Sheets → List ℕ → ℕ → Type 0
IsWorded sheets text number = (form : Form) → form_said (lines_of text) ≡ Some form → 1 < number → HasLinkWord (sheet_for sheets form)

-- what reading answers where it refuses
abbrev pub refused : CertRefusal → Result Paper CertRefusal
refused r = Err r
