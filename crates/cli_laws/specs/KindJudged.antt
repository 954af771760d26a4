-- What it says of the text of a certificate with hop limits or of a total, and of the rows of a network, that the text is refused
-- where it is judged.
use Rattle.std.specs.Prelude.{◌≡◌, ◌⊎◌, ℕ, List, Ok}
use Rattle.text_lines.specs.Lines.{lines_of}
use Rattle.unit_scale.specs.declared.options.NetOptions.{NetOptions}
use Rattle.sndlib_grammar.specs.Rows.{NetRows}
use Rattle.unit_scale.specs.Scaling.{ScaledNet, scaled_of}
use Rattle.cert_lines.specs.Sheet.{Sheet, sheet_of}
use Rattle.cert_lines.specs.declared.refusal.CertRefusal.{CertRefusal}
use Rattle.kind_texts.specs.Heads.{run_head}
use Rattle.cli_laws.specs.Lines.{StopsAt}
use Rattle.cli_laws.specs.KindTexts.{hops_header, total_header, IsHopsText, IsTotalText, IsHopsRefusedFor, IsTotalRefusedFor}
use Rattle.cli_laws.specs.KindHeads.{IsHopsHeaded, IsTotalHeaded, IsHopsHeadRefusedFor, IsTotalHeadRefusedFor}

-- `Holds` of the names of the rows and of their network under the options in the first lines
pub record HoldsInNet (header : List ℕ) (rows : NetRows) (text : List ℕ) (Holds : Sheet → Type 0) : Type 0 where
  pub options : NetOptions
  pub says : run_head header (lines_of text) ≡ Ok options
  pub net : ScaledNet
  pub scaled : scaled_of rows options ≡ Ok net
  pub is : Holds (sheet_of rows net)

-- with that line the text begins no such certificate any more, or is none of the network any more
abbrev pub HopsStopsFor : NetRows → List ℕ → ℕ → Type 0
HopsStopsFor rows text number =
    StopsAt IsHopsHeaded text number
    ⊎ HoldsInNet hops_header rows text (λ sheet. StopsAt (IsHopsText sheet) text number)

abbrev pub TotalStopsFor : NetRows → List ℕ → ℕ → Type 0
TotalStopsFor rows text number =
    StopsAt IsTotalHeaded text number
    ⊎ HoldsInNet total_header rows text (λ sheet. StopsAt (IsTotalText sheet) text number)

-- the refusal is of one of the first lines, or of a line of the text on that network
abbrev pub IsHopsJudgedFor : NetRows → List ℕ → CertRefusal → Type 0
IsHopsJudgedFor rows text r =
    IsHopsHeadRefusedFor (lines_of text) r
    ⊎ HoldsInNet hops_header rows text (λ sheet. IsHopsRefusedFor sheet (lines_of text) r)

abbrev pub IsTotalJudgedFor : NetRows → List ℕ → CertRefusal → Type 0
IsTotalJudgedFor rows text r =
    IsTotalHeadRefusedFor (lines_of text) r
    ⊎ HoldsInNet total_header rows text (λ sheet. IsTotalRefusedFor sheet (lines_of text) r)
