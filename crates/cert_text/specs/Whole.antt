-- A text as a certificate or a routing, and what its head says.
use Rattle.std.specs.Prelude.{◌≡◌, ℕ, Bool, List, Option, Some, None, Result, Ok, codes}
use Rattle.text_lines.specs.Lines.{Line}
use Rattle.cert_lines.specs.Sheet.{Sheet, Sheets, sheet_for}
use Rattle.cert_lines.specs.declared.form.Form.{Form}
use Rattle.cert_lines.specs.declared.form.Form.TheVariants.{First, Second}
use Rattle.unit_scale.specs.Modes.{link_mode_of, old_link_mode_of, module_mode_of}
use Rattle.unit_scale.specs.declared.modes.LinkMode.{LinkMode}
use Rattle.unit_scale.specs.declared.modes.ModuleMode.{ModuleMode}
use Rattle.unit_scale.specs.declared.options.NetOptions.{NetOptions}
use Rattle.cert_lines.specs.declared.refusal.CertKind.{CertKind}
use Rattle.cert_lines.specs.declared.refusal.CertKind.TheVariants.{Syntax}
use Rattle.cert_lines.specs.declared.refusal.CertRefusal.{CertRefusal}
use Rattle.cert_lines.specs.Forms.{◌>>=◌, or_fault, one_behind}
use Rattle.cert_lines.specs.HeadLines.{verdict_line}
use Rattle.cert_text.specs.declared.papers.Paper.{Paper}
use Rattle.cert_text.specs.declared.papers.Paper.TheVariants as papers
use Rattle.cert_text.specs.declared.opening.Kind.{Kind}
use Rattle.cert_text.specs.declared.opening.Kind.TheVariants.{Certificate, Routing}
use Rattle.cert_text.specs.declared.opening.Known.{Known}
use Rattle.cert_text.specs.declared.opening.Known.TheVariants.{Both}
use Rattle.cert_text.specs.declared.opening.Opening.{Opening}
use Rattle.cert_text.specs.declared.opening.CertHead.{CertHead}
use Rattle.cert_text.specs.Reading.{Place, next_line}
use Rattle.cert_text.specs.Papers.{header, header_by, routing_at, routing_from, counted_at, proof_at, proof_from}

-- what follows a header of that kind
unfoldable pub paper_at : Sheet → Kind → Place → Result Paper CertRefusal
paper_at sheet Certificate place = do
  proof ← proof_at sheet place
  Ok (papers.Full proof)
paper_at sheet Routing place = do
  routing ← routing_at sheet place
  Ok (papers.Routing routing)

-- the certificate or the routing that the lines spell, in the form that the first of them says, or the
-- first fault
unfoldable pub paper_in : Sheets → List Line → Result Paper CertRefusal
paper_in sheets lines = do
  first ← header lines
  paper_at (sheet_for sheets first.0.form) first.0.kind first.1

-- the mode of which this is the word in that form
abbrev pub mode_in : Form → List ℕ → Option LinkMode
mode_in First word = old_link_mode_of word
mode_in Second word = link_mode_of word

-- `links` and a word for how links are read
unfoldable pub link_mode_line : Form → Line → Result LinkMode CertKind
link_mode_line form words = do
  word ← or_fault Syntax (one_behind (codes "links") words)
  or_fault Syntax (mode_in form word)

-- `modules` and a word for how modules are read
unfoldable pub module_mode_line : Line → Result ModuleMode CertKind
module_mode_line words = do
  word ← or_fault Syntax (one_behind (codes "modules") words)
  or_fault Syntax (module_mode_of word)

-- the verdict, where there is one, and the place behind it
unfoldable pub verdict_at : Kind → Place → Result (Option Bool × Place) CertRefusal
verdict_at Routing place = Ok (None, place)
verdict_at Certificate place = do
  verdict ← next_line verdict_line place
  Ok (Some verdict.0, verdict.1)

-- how links and modules are read, in that form, and the place behind both lines
unfoldable pub modes_behind : Form → Place → Result (NetOptions × Place) CertRefusal
modes_behind form place = do
  links ← next_line (link_mode_line form) place
  modules ← next_line module_mode_line links.1
  Ok (record { links = links.0; modules = modules.0 }, modules.1)

abbrev pub said_head : Opening → NetOptions → CertHead
said_head opening modes =
    record { kind = opening.kind; form = opening.form; links = modes.links; modules = modes.modules }

-- the first lines, where these headers are known: what they say, the verdict, where there is one, and
-- the place behind them
unfoldable pub opened_by : Known → List Line → Result ((CertHead × Option Bool) × Place) CertRefusal
opened_by known lines = do
  first ← header_by known lines
  verdict ← verdict_at first.0.kind first.1
  modes ← modes_behind first.0.form verdict.1
  Ok ((said_head first.0 modes.0, verdict.0), modes.1)

-- the kind, the form and the modes, from the first lines, where these headers are known
unfoldable pub head_by : Known → List Line → Result CertHead CertRefusal
head_by known lines = do
  opened ← opened_by known lines
  Ok opened.0.0

-- the kind, the form and the modes, from the first lines
abbrev pub head_in : List Line → Result CertHead CertRefusal
head_in lines = head_by Both lines

-- the options are those that the head says
pub record SaysModes (options : NetOptions) (head : CertHead) : Type 0 where
  pub links : head.links ≡ options.links
  pub modules : head.modules ≡ options.modules

-- what follows the modes: of a certificate of that verdict, or of a routing, which has none
unfoldable pub rest_at : Sheet → Option Bool → Place → Result Paper CertRefusal
rest_at sheet (Some closed) place = do
  counted ← counted_at sheet closed place
  proof ← proof_from sheet counted
  Ok (papers.Full proof)
rest_at sheet None place = do
  routing ← routing_from sheet place
  Ok (papers.Routing routing)
