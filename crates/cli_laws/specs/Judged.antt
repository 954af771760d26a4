-- What it says of a text and of the rows of a network that the text is refused where it is judged.
use Rattle.std.specs.Prelude.{◌≡◌, ◌⊎◌, ℕ, List, Ok}
use Rattle.text_lines.specs.Lines.{lines_of}
use Rattle.sndlib_grammar.specs.Rows.{NetRows}
use Rattle.unit_scale.specs.Scaling.{ScaledNet, scaled_of}
use Rattle.cert_lines.specs.Sheet.{sheets_of}
use Rattle.cert_text.specs.declared.opening.CertHead.{CertHead}
use Rattle.cert_text.specs.Whole.{head_in}
use Rattle.cert_judge.specs.Papers.{options_of}
use Rattle.cert_inverse.specs.Inverse.{read_head}
use Rattle.cli_laws.specs.Lines.{StopsAt}
use Rattle.cli_laws.specs.Papers.{IsPaper}
use Rattle.cli_laws.specs.Heads.{IsHeaded}

-- the text stops in this line to be one of a certificate or a routing of the network of the rows, under the options
-- that its first lines say
pub record IsPaperStop (rows : NetRows) (text : List ℕ) (number : ℕ) : Type 0 where
  pub head : CertHead
  pub says : head_in (lines_of text) ≡ read_head head
  pub net : ScaledNet
  pub scaled : scaled_of rows (options_of head) ≡ Ok net
  pub stops : StopsAt (IsPaper (sheets_of rows net)) text number

-- with that line the text begins no certificate or routing any more, or is none of the network any more
abbrev pub StopsFor : NetRows → List ℕ → ℕ → Type 0
StopsFor rows text number = StopsAt IsHeaded text number ⊎ IsPaperStop rows text number
