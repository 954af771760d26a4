-- The lines of a certificate, spelled.
use Rattle.std.specs.Prelude.{◌≡◌, ℕ, ◌/◌, ◌%◌, ◌<◌, ◌≤◌, Bool, List, [], ◌∷◌, length, map, codes, if◌then◌else◌, slice_index}
use Rattle.std.specs.List.{AllByRecursion}
use Rattle.std.specs.Fmt.{decimal}
use Rattle.text_lines.specs.Lines.{Line, IsInside}
use Rattle.flow_model.specs.Routing.{Row}
use Rattle.flow_paths.specs.DualRows.{Length, Potential}
use Rattle.flow_paths.specs.declared.certificate.Printed.{Printed}
use Rattle.cert_lines.specs.Sheet.{Sheet, node_word, cell_word, commodity_word, AreNames}
use Rattle.text_lines.specs.Spelling.{fraction_word, decimal_word}
use Rattle.gap_fraction.specs.declared.fraction.TheConstants.{MAX_PART}
use Rattle.mcf_limits.specs.declared.TheConstants.{MAX_LENGTH, MAX_PATH_CELLS}

abbrev pub verdict_words : Bool → Line
verdict_words closed = codes "verdict" ∷ (if closed then codes "closed" else codes "open") ∷ []

abbrev pub links_words : Sheet → Line
links_words sheet = codes "links" ∷ sheet.link_mode ∷ []

abbrev pub modules_words : Sheet → Line
modules_words sheet = codes "modules" ∷ sheet.module_mode ∷ []

abbrev pub count_at : Sheet → ℕ → List ℕ
count_at sheet i = decimal (slice_index sheet.counts i)

abbrev pub counts_words : Sheet → Line
counts_words sheet =
    codes "net" ∷ codes "nodes" ∷ count_at sheet 0 ∷ codes "cells" ∷ count_at sheet 1
    ∷ codes "commodities" ∷ count_at sheet 2 ∷ codes "decimals" ∷ count_at sheet 3
    ∷ codes "skipped" ∷ count_at sheet 4 ∷ codes "left" ∷ count_at sheet 5
    ∷ codes "hops" ∷ count_at sheet 6 ∷ []

abbrev pub gap_words : ℕ → Line
gap_words gap = codes "gap" ∷ decimal_word (gap / 1000000) (gap % 1000000) ∷ []

abbrev pub phases_words : ℕ → Line
phases_words phases = codes "phases" ∷ decimal phases ∷ []

abbrev pub scale_words : ℕ × ℕ → Line
scale_words scale = codes "scale" ∷ decimal scale.0 ∷ decimal scale.1 ∷ []

-- a fraction and its decimals, behind `lower` or `upper`
abbrev pub value_words : List ℕ → Printed → Line
value_words key p = key ∷ fraction_word p.num p.den ∷ decimal_word p.whole p.micro ∷ []

abbrev pub length_words : Sheet → Length → Line
length_words sheet r = codes "length" ∷ cell_word sheet r.cell ∷ decimal r.value ∷ []

abbrev pub potential_words : Sheet → Potential → Line
potential_words sheet r = codes "potential" ∷ node_word sheet r.node ∷ map decimal r.values

abbrev pub path_words : Sheet → Row → Line
path_words sheet r = codes "path" ∷ commodity_word sheet r.commodity ∷ decimal r.weight ∷ map (cell_word sheet) r.walk

-- the parts of a fraction and its decimals are within their limits
pub record FitsValue (most : ℕ) (p : Printed) : Type 0 where
  pub num : p.num ≤ most
  pub den : p.den ≤ most
  pub whole : p.whole ≤ MAX_PART
  pub micro : p.micro < 1000000

pub record FitsLength (sheet : Sheet) (r : Length) : Type 0 where
  pub cell : r.cell < length sheet.cells
  pub value : r.value ≤ MAX_LENGTH

pub record FitsPotential (sheet : Sheet) (r : Potential) : Type 0 where
  pub node : r.node < length sheet.nodes
  pub count : length r.values ≡ length sheet.nodes
  pub values : AllByRecursion (λ n. n ≤ MAX_LENGTH) r.values

pub record FitsPath (sheet : Sheet) (r : Row) : Type 0 where
  pub commodity : r.commodity < length sheet.commodities
  pub weight : r.weight ≤ MAX_LENGTH
  pub cells : AllByRecursion (λ c. c < length sheet.cells) r.walk
  pub short : length r.walk ≤ MAX_PATH_CELLS

-- there is no space and no line feed in these words
abbrev pub AreClean : List (List ℕ) → Type 0
AreClean words = AllByRecursion (AllByRecursion IsInside) words

-- each word of a node, cell or commodity stands once, and none is empty or has a space or a line feed in it
pub record IsClear (sheet : Sheet) : Type 0 where
  pub nodes : AreNames sheet.nodes
  pub cells : AreNames sheet.cells
  pub commodities : AreNames sheet.commodities
  pub clean_nodes : AreClean sheet.nodes
  pub clean_cells : AreClean sheet.cells
  pub clean_commodities : AreClean sheet.commodities
  pub full_modes : (0 < length sheet.link_mode) × (0 < length sheet.module_mode)
  pub clean_modes : AllByRecursion IsInside sheet.link_mode × AllByRecursion IsInside sheet.module_mode
