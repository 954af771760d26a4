-- What the kind of a refusal says of a text that is judged on the rows of a network.
use Rattle.std.specs.Prelude.{◌≡◌, ◌⊎◌, ℕ, List, Ok}
use Rattle.text_lines.specs.Lines.{lines_of}
use Rattle.sndlib_grammar.specs.Rows.{NetRows}
use Rattle.unit_scale.specs.Scaling.{ScaledNet, scaled_of}
use Rattle.cert_lines.specs.Sheet.{sheets_of}
use Rattle.cert_lines.specs.declared.refusal.CertRefusal.{CertRefusal}
use Rattle.cert_text.specs.declared.opening.CertHead.{CertHead}
use Rattle.cert_text.specs.Whole.{head_in}
use Rattle.cert_judge.specs.Papers.{options_of}
use Rattle.cert_inverse.specs.Inverse.{read_head}
use Rattle.cli_laws.specs.PaperKinds.{IsRefusedFor}
use Rattle.cli_laws.specs.HeadKinds.{IsHeadRefusedFor}

-- the refusal is for a reason under the names of the rows and of their network, under the options that the first
-- lines say
pub record IsPaperReason (rows : NetRows) (text : List ℕ) (r : CertRefusal) : Type 0 where
  pub head : CertHead
  pub says : head_in (lines_of text) ≡ read_head head
  pub net : ScaledNet
  pub scaled : scaled_of rows (options_of head) ≡ Ok net
  pub reason : IsRefusedFor (sheets_of rows net) (lines_of text) r

-- the refusal is of one of the first lines, or of a line of the text on that network
abbrev pub IsJudgedFor : NetRows → List ℕ → CertRefusal → Type 0
IsJudgedFor rows text r = IsHeadRefusedFor (lines_of text) r ⊎ IsPaperReason rows text r
