-- What the kind of a refusal says of the line at which a certificate or a routing is refused.
use Rattle.std.specs.Prelude.{◌≡◌, ◌⊎◌, List, [], ◌∷◌, Some, None}
use Rattle.text_lines.specs.Lines.{Line}
use Rattle.cert_lines.specs.Sheet.{Sheets, sheet_for}
use Rattle.cert_lines.specs.declared.refusal.CertKind.TheVariants.{NoHeader}
use Rattle.cert_lines.specs.declared.refusal.CertRefusal.{CertRefusal}
use Rattle.cert_text.specs.declared.opening.Opening.{Opening}
use Rattle.cert_text.specs.Papers.{form_of}
use Rattle.cli_laws.specs.LineRoles.{paper, IsBodyReason}
use Rattle.cli_laws.specs.Refusals.{Reason, HasReason}

-- the first line says this
abbrev pub Says : List Line → Opening → Type 0
Says [] o = ⊥
Says (line ∷ lines) o = form_of line ≡ Some o

-- a refusal of the line between these: it is the first and no header; or the first is one, and this is wrong
abbrev pub IsReason : Sheets → List Line → Reason
IsReason sheets lines before line after r =
    ((r.line ≡ 1) × (form_of line ≡ None) × (r.kind ≡ NoHeader))
    ⊎ ((o : Opening) × Says lines o × IsBodyReason (sheet_for sheets o.form) (paper o.kind) before line after r)

-- the refusal is of a line of the text, for such a reason
abbrev pub IsRefusedFor : Sheets → List Line → CertRefusal → Type 0
IsRefusedFor sheets lines r = HasReason lines (IsReason sheets lines) r
