-- A refusal of a line of a text, for a reason.
use Rattle.std.specs.Prelude.{◌≡◌, ◌+◌, List, ◌∷◌, ◌++◌, length}
use Rattle.text_lines.specs.Lines.{Line}
use Rattle.cert_lines.specs.declared.refusal.CertRefusal.{CertRefusal}

-- why a line between two parts of a text is refused so
abbrev pub Reason : Type 1
Reason = List Line → Line → List Line → CertRefusal → Type 0

-- the refusal is of one of the lines, and this is why
pub record HasReason (lines : List Line) (Why : Reason) (r : CertRefusal) : Type 0 where
  pub before : List Line
  pub line : Line
  pub after : List Line
  pub parts : lines ≡ before ++ line ∷ after
  pub count : r.line ≡ length before + 1
  pub reason : Why before line after r
