-- The lines of a sweep, one for each link.
use Rattle.std.specs.Prelude.{ℕ, List, ◌∷◌, map, zip, codes}
use Rattle.text_lines.specs.Lines.{Line, text_of}
use Rattle.flow_paths.specs.Evaluation.{Evaluation}
use Rattle.whatif.specs.Shown.{bounds_words}

-- `sweep`, the link's id, and what the certificate is worth without the link
abbrev pub sweep_line : List ℕ × Evaluation → Line
sweep_line l = codes "sweep" ∷ l.0 ∷ bounds_words l.1.lower l.1.upper

-- the text of `sweep`: a line for each link's id and evaluation, in order
abbrev pub sweep_text : List (List ℕ) → List Evaluation → List ℕ
sweep_text ids evaluations = text_of (map sweep_line (zip ids evaluations))
