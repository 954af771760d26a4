-- The canonical text of a network: one line an entry, one space between words, the words as they were read.
use Rattle.std.specs.Prelude.{◌≡◌, ℕ, true, List, [], ◌∷◌, ◌++◌, All, map, Option, Some, None, Ok, codes, slice_index_or}
use Rattle.text_lines.specs.Lines.{Line, text_of}
use Rattle.sndlib_grammar.specs.Number.{is_number}
use Rattle.sndlib_grammar.specs.Rows.{NetNode, NetLink, NetDemand, NetRows, AreNetRows, names_of_nodes}
use Rattle.sndlib_grammar.specs.Net.{rows_of}

abbrev pub name_at : List (List ℕ) → ℕ → List ℕ
name_at names i = slice_index_or names i []

-- the words of a place in parentheses, where there is one
abbrev pub place_words : Option (List (List ℕ)) → Line
place_words None = []
place_words (Some words) = codes "(" ∷ words ++ codes ")" ∷ []

-- two blanks at the front are two empty words
abbrev pub node_line : NetNode → Line
node_line n = [] ∷ [] ∷ n.id ∷ place_words n.place

abbrev pub link_line : List (List ℕ) → NetLink → Line
link_line names l = [] ∷ [] ∷ l.id ∷ codes "(" ∷ name_at names l.source ∷ name_at names l.target ∷ codes ")" ∷ l.installed ∷ l.costs ++ codes "(" ∷ l.modules ++ codes ")" ∷ []

abbrev pub demand_line : List (List ℕ) → NetDemand → Line
demand_line names d = [] ∷ [] ∷ d.id ∷ codes "(" ∷ name_at names d.source ∷ name_at names d.target ∷ codes ")" ∷ d.unit ∷ d.value ∷ d.longest ∷ []

abbrev pub first_line : Line
first_line = codes "?SNDlib" ∷ codes "native" ∷ codes "format;" ∷ codes "type:" ∷ codes "network;" ∷ codes "version:" ∷ codes "1.0" ∷ []

abbrev pub opening_line : List ℕ → Line
opening_line name = name ∷ codes "(" ∷ []

abbrev pub closing_line : Line
closing_line = codes ")" ∷ []

-- a section: its opening line, a line for each entry, and the closing line
abbrev pub section : {X : Type 0} → List ℕ → (X → Line) → List X → List Line
section name line entries = opening_line name ∷ map line entries ++ closing_line ∷ []

abbrev pub canonical_lines : NetRows → List Line
canonical_lines rows =
    first_line ∷ section (codes "NODES") node_line rows.nodes
    ++ (section (codes "LINKS") (link_line (names_of_nodes rows)) rows.links
    ++ section (codes "DEMANDS") (demand_line (names_of_nodes rows)) rows.demands)

-- the canonical text of the rows
abbrev pub canonical_text : NetRows → List ℕ
canonical_text rows = text_of (canonical_lines rows)

-- ---- the law that the canonical text reads back

-- as many costs as capacities, and the capacities are numbers
abbrev pub AreModules : List (List ℕ) → Type 0
AreModules [] = Unit {0}
AreModules (capacity ∷ []) = ⊥
AreModules (capacity ∷ cost ∷ more) = (is_number capacity ≡ true) × AreModules more

-- the rows are as those of every text
pub record ArePrintable (rows : NetRows) : Type 0 where
  pub sound : AreNetRows rows
  pub modules : All (λ l. AreModules l.modules) rows.links

abbrev pub link_without_line : NetLink → NetLink
link_without_line l = record l { line = 0 }

abbrev pub demand_without_line : NetDemand → NetDemand
demand_without_line d = record d { line = 0 }

-- the rows, where their lines and the number of skipped sections are forgotten
abbrev pub without_lines : NetRows → NetRows
without_lines rows = record { nodes = rows.nodes; links = map link_without_line rows.links; demands = map demand_without_line rows.demands; skipped = 0; end_line = 0 }

-- the canonical text of the rows is read as the same rows, lines and skipped sections apart
pub record ReadsBack (rows : NetRows) : Type 0 where
  pub found : NetRows
  pub reads : rows_of (canonical_text rows) ≡ Ok found
  pub same : without_lines found ≡ without_lines rows
