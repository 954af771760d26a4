-- The texts of certificates and routings in both forms, and what they must cite so that they are
-- read as what was written.
use Rattle.std.specs.Prelude.{◌≡◌, ℕ, ◌+◌, ◌≤◌, List, [], ◌∷◌, length, Option, None, Result, Ok, Err, codes}
use Rattle.std.specs.Option.{option_map}
use Rattle.std.specs.List.{AllByRecursion}
use Rattle.text_lines.specs.Lines.{Line}
use Rattle.unit_scale.specs.Modes.{link_word, old_link_word}
use Rattle.unit_scale.specs.declared.modes.LinkMode.{LinkMode}
use Rattle.unit_scale.specs.declared.options.NetOptions.{NetOptions}
use Rattle.cert_lines.specs.Sheet.{Sheet, Sheets, sheet_for}
use Rattle.cert_lines.specs.declared.form.Form.{Form}
use Rattle.cert_lines.specs.declared.form.Form.TheVariants.{First, Second}
use Rattle.cert_lines.specs.declared.net_line.TheConstants.{MAX_COUNT}
use Rattle.cert_lines.specs.Spelling.{IsClear}
use Rattle.cert_lines.specs.declared.refusal.CertKind.TheVariants.{Syntax}
use Rattle.cert_lines.specs.declared.refusal.CertRefusal.{CertRefusal}
use Rattle.cert_lines.specs.declared.refusal.CertEnd.{CertEnd}
use Rattle.cert_lines.specs.declared.refusal.CertEnd.TheVariants.{Refused, Memory}
use Rattle.cert_text.specs.declared.papers.Paper.{Paper}
use Rattle.cert_text.specs.declared.papers.Paper.TheVariants.{Routing, Full}
use Rattle.cert_text.specs.declared.opening.CertHead.{CertHead}
use Rattle.cert_text.specs.declared.opening.Kind.{Kind}
use Rattle.cert_text.specs.declared.opening.Kind.TheVariants as kinds
use Rattle.cert_text.specs.declared.opening.Opening.{Opening}
use Rattle.cert_text.specs.Papers.{form_of}
use Rattle.cert_judge.specs.Fits.{FitsPaper, HasLinkWord}
use Rattle.cert_writer.specs.Text.{certificate_lines, certificate_text, routing_lines, routing_text}

-- the text of a certificate or of a routing
abbrev pub paper_text : Sheet → Paper → List ℕ
paper_text sheet (Routing r) = routing_text sheet r
paper_text sheet (Full p) = certificate_text sheet p

-- its lines
abbrev pub paper_lines : Sheet → Paper → List Line
paper_lines sheet (Routing r) = routing_lines sheet r
paper_lines sheet (Full p) = certificate_lines sheet p

-- ---- what a text cites

-- the word of a form, at the end of the first line
abbrev pub form_word : Form → List ℕ
form_word First = codes "1"
form_word Second = codes "2"

-- the word for how links are read in a text of this form
abbrev pub link_word_in : Form → LinkMode → List ℕ
link_word_in First mode = old_link_word mode
link_word_in Second mode = link_word mode

-- each sheet has the word of its form
pub record AreInForms (sheets : Sheets) : Type 0 where
  pub old : sheets.old.form ≡ form_word First
  pub new : sheets.new.form ≡ form_word Second

-- there are seven counts, each within the limit of a count
pub record AreCounts (counts : List ℕ) : Type 0 where
  pub seven : length counts ≡ 7
  pub within : AllByRecursion (λ n. n ≤ MAX_COUNT) counts

-- what a text cites can be told apart in it: words that are distinct and clean, and seven counts
-- within their limit
pub record IsCitable (sheet : Sheet) : Type 0 where
  pub clear : IsClear sheet
  pub counts : AreCounts sheet.counts

-- both sheets can be cited, the old one where it has a word for how links are read
pub record AreCitable (sheets : Sheets) : Type 0 where
  pub forms : AreInForms sheets
  pub old : HasLinkWord sheets.old → IsCitable sheets.old
  pub new : IsCitable sheets.new

-- ---- what a text is of

-- the text is that of this certificate or routing in this form, which has a word for how links are
-- read, and its limits are kept
pub record IsPaperText (sheets : Sheets) (form : Form) (text : List ℕ) (paper : Paper) : Type 0 where
  pub worded : HasLinkWord (sheet_for sheets form)
  pub fits : FitsPaper (sheet_for sheets form) paper
  pub spelled : text ≡ paper_text (sheet_for sheets form) paper

-- the text is that of this certificate or routing in one of the forms
abbrev pub IsTextOf : Sheets → List ℕ → Paper → Type 0
IsTextOf sheets text paper = (form : Form) × IsPaperText sheets form text paper

-- the form that the first line says
abbrev pub form_said : List Line → Option Form
form_said [] = None
form_said (line ∷ lines) = option_map (λ (o : Opening). o.form) (form_of line)

-- ---- what its first lines say

abbrev pub kind_of : Paper → Kind
kind_of (Routing r) = kinds.Routing
kind_of (Full p) = kinds.Certificate

-- what the first lines of its text say: the kind, the form and the options
abbrev pub head_of : Form → NetOptions → Paper → CertHead
head_of form options paper = record {
  kind = kind_of paper;
  form = form;
  links = options.links;
  modules = options.modules;
}

-- what reading the first lines answers where it refuses nothing
abbrev pub read_head : CertHead → Result CertHead CertRefusal
read_head head = Ok head

-- ---- what is answered

-- the answer is the certificate or routing of which this is the text, and a refusal where it is the
-- text of none; if memory ran out, nothing is said
abbrev pub IsReading : Sheets → List ℕ → Result Paper CertEnd → Type 0
IsReading sheets text (Ok paper) = IsTextOf sheets text paper
IsReading sheets text (Err (Refused refusal)) = (paper : Paper) → ¬ (IsTextOf sheets text paper)
IsReading sheets text (Err Memory) = Unit {0}

-- the refusal of a line behind its last one
abbrev pub refused_behind : Sheet → Paper → Result Paper CertRefusal
refused_behind sheet paper = Err (record { line = length (paper_lines sheet paper) + 1; kind = Syntax })
