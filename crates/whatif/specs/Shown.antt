-- The lines that a script writes.
use Rattle.std.specs.Prelude.{◌≡◌, ℕ, List, [], ◌∷◌, Option, Some, take, slice_get, codes}
use Rattle.std.specs.Io.KnownBytes.{Appends}
use Rattle.mcf_base.specs.Faults.{FailedLast}
use Rattle.mcf_base.specs.Sink.{AppendsFront, SinkView}
use Rattle.text_lines.specs.Lines.{Line, spelled, text_of}
use Rattle.text_lines.specs.Spelling.{fraction_word, millionths_word}
use Rattle.unit_scale.specs.declared.modes.LinkMode.{LinkMode}
use Rattle.gap_fraction.specs.Fraction.{Fraction}
use Rattle.gap_fraction.specs.Decimals.{millionths_down, millionths_up}
use Rattle.flow_paths.specs.Evaluation.{Evaluation}
use Rattle.script.specs.declared.step.Step.{Step}
use Rattle.script.specs.declared.step.Step.TheVariants.{Edit, Show}
use Rattle.whatif.specs.Planned.{Planned, after_step, after_steps, shown_of}

-- the lower fraction and its value rounded down, the upper one and its value rounded up
abbrev pub bounds_words : Fraction → Fraction → Line
bounds_words lower upper =
    codes "lower" ∷ fraction_word lower.num lower.den ∷ millionths_word (millionths_down lower)
    ∷ codes "upper" ∷ fraction_word upper.num upper.den ∷ millionths_word (millionths_up upper) ∷ []

-- `show`, and what the certificate is worth
abbrev pub show_line : Evaluation → Line
show_line e = codes "show" ∷ bounds_words e.lower e.upper

-- a line for each `show`, of what is shown after the steps before it
abbrev pub shown_lines : LinkMode → Planned → List Step → List Line
shown_lines mode p [] = []
shown_lines mode p (Show ∷ steps) = show_line (shown_of p) ∷ shown_lines mode p steps
shown_lines mode p (Edit link cap ∷ steps) = shown_lines mode (after_step mode p (Edit link cap)) steps

abbrev pub shown_text : LinkMode → Planned → List Step → List ℕ
shown_text mode p steps = text_of (shown_lines mode p steps)

-- The plan where the steps stopped at a `show`: after the steps before it, exactly. The lines of the earlier ones were written whole,
-- and behind them a front of its own line; one write failed, and it was the last, so nothing was written behind it.
pub record IsStopped (mode : LinkMode) (old : Planned) (steps : List Step) (new : Planned) (before after : SinkView) : Type 0 where
  pub count : ℕ
  pub shows : slice_get steps count ≡ Some Show
  pub same : new ≡ after_steps mode old (take count steps)
  pub between : Option (List ℕ)
  pub whole : Appends before.written between (shown_text mode old (take count steps))
  pub front : AppendsFront between after.written (spelled (show_line (shown_of new)))
  pub last : FailedLast before.faults after.faults
