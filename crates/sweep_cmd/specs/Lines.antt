-- The lines of the solves of a sweep, one for each link.
use Rattle.std.specs.Prelude.{ℕ, Bool, true, false, List, ◌∷◌, map, zip, codes, if◌then◌else◌}
use Rattle.std.specs.List.{list_all}
use Rattle.std.specs.Fmt.{decimal}
use Rattle.text_lines.specs.Lines.{Line, text_of}
use Rattle.whatif.specs.Shown.{bounds_words}
use Rattle.sweep_cmd.specs.declared.swept.Swept.{Swept}

-- the word of a verdict
abbrev pub verdict_word : Bool → List ℕ
verdict_word true = codes "closed"
verdict_word false = codes "open"

-- `sweep`, the link's id, the verdict, the phases, and both bounds
abbrev pub swept_line : List ℕ × Swept → Line
swept_line l =
    codes "sweep" ∷ l.0 ∷ verdict_word l.1.closed ∷ codes "phases" ∷ decimal l.1.phases
    ∷ bounds_words l.1.lower l.1.upper

-- a line for each link's id and solve, in order
abbrev pub swept_text : List (List ℕ) → List Swept → List ℕ
swept_text ids swept = text_of (map swept_line (zip ids swept))

-- 0 where each link's solve is closed, 1 where some is open
abbrev pub swept_status : List Swept → ℕ
swept_status swept = if list_all (λ (s : Swept). s.closed) swept then 0 else 1
