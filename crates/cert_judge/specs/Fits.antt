-- What fits a text.
use Rattle.std.specs.Prelude.{◌<◌, length, Result, Ok}
use Rattle.cert_lines.specs.Sheet.{Sheet, Sheets, sheet_for}
use Rattle.cert_lines.specs.declared.form.Form.{Form}
use Rattle.cert_lines.specs.declared.refusal.CertRefusal.{CertRefusal}
use Rattle.cert_text.specs.declared.papers.Paper.{Paper}
use Rattle.cert_text.specs.declared.papers.Paper.TheVariants.{Routing, Full}
use Rattle.cert_writer.specs.Text.{FitsRouting, FitsProof}

-- its numbers are within the limits of the text, and its rows name commodities, cells and nodes
abbrev pub FitsPaper : Sheet → Paper → Type 0
FitsPaper sheet (Routing r) = FitsRouting sheet r
FitsPaper sheet (Full p) = FitsProof sheet p

-- there is a word for how links are read: form 1 has none where each is a cell for each way
abbrev pub HasLinkWord : Sheet → Type 0
HasLinkWord sheet = 0 < length sheet.link_mode

-- it fits a text of one of the forms, which has a word for how links are read
pub record FitsForm (sheets : Sheets) (paper : Paper) : Type 0 where
  pub form : Form
  pub worded : HasLinkWord (sheet_for sheets form)
  pub fits : FitsPaper (sheet_for sheets form) paper

-- what reading answers where it refuses nothing
abbrev pub read : Paper → Result Paper CertRefusal
read paper = Ok paper
