-- What the kind of a refusal says of the line at which the first lines of a text are refused.
use Rattle.std.specs.Prelude.{◌≡◌, ◌≢◌, ◌⊎◌, ℕ, ◌<◌, Bool, List, [], length, None}
use Rattle.std.specs.List.{join_with_byte}
use Rattle.text_lines.specs.Lines.{Line}
use Rattle.unit_scale.specs.declared.modes.LinkMode.{LinkMode}
use Rattle.unit_scale.specs.declared.modes.ModuleMode.{ModuleMode}
use Rattle.cert_lines.specs.declared.form.Form.{Form}
use Rattle.cert_lines.specs.declared.refusal.CertKind.TheVariants.{NoHeader, Syntax}
use Rattle.cert_lines.specs.declared.refusal.CertRefusal.{CertRefusal}
use Rattle.cert_lines.specs.Spelling.{verdict_words}
use Rattle.cert_text.specs.declared.opening.Opening.{Opening}
use Rattle.cert_text.specs.Papers.{form_of}
use Rattle.cert_inverse.specs.Inverse.{link_word_in}
use Rattle.cli_laws.specs.Heads.{links_line, modules_line}
use Rattle.cli_laws.specs.LineRoles.{TextKind, HeadRole, verdict, links, modules, head_line, paper, StandsAt}
use Rattle.cli_laws.specs.PaperKinds.{Says}
use Rattle.cli_laws.specs.Refusals.{Reason, HasReason}

-- a line that has to be so says no verdict; or no mode of links for which the form has a word; or no mode of
-- modules
abbrev pub SaysNothing : Form → HeadRole → Line → Type 0
SaysNothing form verdict line = (closed : Bool) → join_with_byte 32 line ≢ join_with_byte 32 (verdict_words closed)
SaysNothing form links line =
    (mode : LinkMode) → ¬ ((line ≡ links_line form mode) × (0 < length (link_word_in form mode)))
SaysNothing form modules line = (mode : ModuleMode) → line ≢ modules_line mode
SaysNothing form role line = ⊥

-- what is wrong with the line of that number in a text of this kind and this form: it is the last, without a line feed;
-- or it has one, and does not say what it has to
abbrev pub IsSilent : TextKind → Form → Line → List Line → ℕ → Type 0
IsSilent kind form line after number =
    (after ≡ []) ⊎ ((after ≢ []) × (role : HeadRole) × StandsAt kind (head_line role) number × SaysNothing form role line)

-- a refusal of the line between these: it is the first and no header; or the first is one, and this is no line of a head
abbrev pub IsHeadReason : List Line → Reason
IsHeadReason lines before line after r =
    ((r.line ≡ 1) × (form_of line ≡ None) × (r.kind ≡ NoHeader))
    ⊎ ((r.kind ≡ Syntax) × (o : Opening) × Says lines o × IsSilent (paper o.kind) o.form line after r.line)

-- the refusal is of a line of the text, for such a reason
abbrev pub IsHeadRefusedFor : List Line → CertRefusal → Type 0
IsHeadRefusedFor lines r = HasReason lines (IsHeadReason lines) r
