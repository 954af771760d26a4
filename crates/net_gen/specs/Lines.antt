-- The lines of drawn links and demands, by their numbers.
use Rattle.std.specs.Prelude.{ℕ, ◌+◌, ◌%◌, [], ◌∷◌, ◌++◌, codes}
use Rattle.std.specs.Fmt.{decimal}
use Rattle.text_lines.specs.Lines.{Line}

-- the line of link i with these ends and this capacity
abbrev pub drawn_link_line : ℕ → ℕ → ℕ → ℕ → Line
drawn_link_line i source target capacity =
    [] ∷ [] ∷ (codes "L" ++ decimal i) ∷ codes "(" ∷ (codes "N" ++ decimal source) ∷ (codes "N" ++ decimal target) ∷ codes ")" ∷ decimal capacity
    ∷ codes "0" ∷ codes "0" ∷ codes "0" ∷ codes "(" ∷ codes ")" ∷ []

-- the line of demand i with these ends
abbrev pub drawn_demand_line : ℕ → ℕ → ℕ → Line
drawn_demand_line i source target =
    [] ∷ [] ∷ (codes "D" ++ decimal i) ∷ codes "(" ∷ (codes "N" ++ decimal source) ∷ (codes "N" ++ decimal target) ∷ codes ")"
    ∷ codes "1" ∷ decimal (1 + i % 10) ∷ codes "UNLIMITED" ∷ []
