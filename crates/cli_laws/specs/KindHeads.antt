-- The first lines of certificates with hop limits and of totals, and what a refusal of them says.
use Rattle.std.specs.Prelude.{◌≡◌, ◌≢◌, ◌⊎◌, ℕ, Bool, List, [], ◌∷◌, ◌++◌, codes, Result, Err}
use Rattle.std.specs.List.{join_with_byte}
use Rattle.text_lines.specs.Lines.{Line, text_of}
use Rattle.unit_scale.specs.declared.options.NetOptions.{NetOptions}
use Rattle.cert_lines.specs.declared.form.Form.TheVariants.{Second}
use Rattle.cert_lines.specs.declared.refusal.CertKind.TheVariants.{NoHeader, Syntax}
use Rattle.cert_lines.specs.declared.refusal.CertRefusal.{CertRefusal}
use Rattle.cert_lines.specs.Spelling.{verdict_words}
use Rattle.cli_laws.specs.Heads.{links_line, modules_line}
use Rattle.cli_laws.specs.HeadKinds.{IsSilent}
use Rattle.cli_laws.specs.KindTexts.{hops_header, total_header, IsUnder}
use Rattle.cli_laws.specs.LineRoles.{TextKind, hops, total}
use Rattle.cli_laws.specs.Refusals.{Reason, HasReason}

-- the first lines with a header of that word, a verdict, and how links and modules are read, in the words of form 2
abbrev pub lines_under : List ℕ → Bool → NetOptions → List Line
lines_under word closed options =
    (word ∷ codes "1" ∷ []) ∷ verdict_words closed ∷ links_line Second options.links ∷ modules_line options.modules ∷ []

-- the text begins with such lines
pub record IsHeadedUnder (word : List ℕ) (text : List ℕ) : Type 0 where
  pub closed : Bool
  pub options : NetOptions
  pub more : List ℕ
  pub spelled : text ≡ text_of (lines_under word closed options) ++ more

-- what reading the first lines answers where it refuses
abbrev pub options_refused : CertRefusal → Result NetOptions CertRefusal
options_refused r = Err r

-- a refusal of the line between these: it is the first and not this header; or the first is, and this is no line of a head
abbrev pub IsHeadReasonUnder : List ℕ → TextKind → List Line → Reason
IsHeadReasonUnder header kind lines before line after r =
    ((r.line ≡ 1) × (join_with_byte 32 line ≢ header) × (r.kind ≡ NoHeader))
    ⊎ ((r.kind ≡ Syntax) × IsUnder header lines × IsSilent kind Second line after r.line)

-- the text begins as a certificate with hop limits does, or as one of a total; its first lines are refused so
abbrev pub IsHopsHeaded : List ℕ → Type 0
IsHopsHeaded text = IsHeadedUnder (codes "mcf-hops") text

abbrev pub IsTotalHeaded : List ℕ → Type 0
IsTotalHeaded text = IsHeadedUnder (codes "mcf-throughput") text

abbrev pub IsHopsHeadRefusedFor : List Line → CertRefusal → Type 0
IsHopsHeadRefusedFor lines r = HasReason lines (IsHeadReasonUnder hops_header hops lines) r

abbrev pub IsTotalHeadRefusedFor : List Line → CertRefusal → Type 0
IsTotalHeadRefusedFor lines r = HasReason lines (IsHeadReasonUnder total_header total lines) r
