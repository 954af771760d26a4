-- The text of a certificate of a total.
use Rattle.std.specs.Prelude.{ℕ, ◌<◌, ◌≤◌, All, List, [], ◌∷◌, ◌++◌, length, map, codes}
use Rattle.std.specs.List.{AllByRecursion}
use Rattle.std.specs.Fmt.{decimal}
use Rattle.mcf_limits.specs.declared.TheConstants.{MAX_GAP, MAX_LENGTH}
use Rattle.gap_fraction.specs.declared.fraction.TheConstants.{MAX_PART}
use Rattle.text_lines.specs.Lines.{Line, text_of}
use Rattle.cert_lines.specs.Sheet.{Sheet}
use Rattle.cert_lines.specs.Spelling.{gap_words, phases_words, scale_words, value_words, length_words, potential_words, FitsValue, FitsLength, FitsPotential}
use Rattle.cert_writer.specs.Text.{path_lines, end_line, FitsRouting}
use Rattle.throughput.specs.declared.part_proof.PartProof.{PartProof}
use Rattle.kind_texts.specs.Heads.{head_lines}

-- `threshold` and the number
abbrev pub threshold_words : ℕ → Line
threshold_words threshold = codes "threshold" ∷ decimal threshold ∷ []

-- the gap, phases, scale, the two fractions and the threshold
abbrev pub total_lines : PartProof → List Line
total_lines p =
    gap_words p.gap ∷ phases_words p.routing.phases ∷ scale_words (p.routing.scale_cap, p.routing.scale_load)
    ∷ value_words (codes "lower") p.lower ∷ value_words (codes "upper") p.upper
    ∷ threshold_words p.bound.threshold ∷ []

-- the lines from each of the parts on
abbrev pub from_potentials : Sheet → PartProof → List Line
from_potentials sheet p = map (potential_words sheet) p.bound.dual.potentials ++ end_line ∷ []

abbrev pub from_lengths : Sheet → PartProof → List Line
from_lengths sheet p = map (length_words sheet) p.bound.dual.lengths ++ from_potentials sheet p

abbrev pub from_paths : Sheet → PartProof → List Line
from_paths sheet p = path_lines sheet p.routing ++ from_lengths sheet p

abbrev pub from_totals : Sheet → PartProof → List Line
from_totals sheet p = total_lines p ++ from_paths sheet p

-- the lines, with the words of form 2
abbrev pub part_lines : Sheet → PartProof → List Line
part_lines sheet p = head_lines (codes "mcf-throughput") sheet p.closed ++ from_totals sheet p

-- the text
abbrev pub part_text : Sheet → PartProof → List ℕ
part_text sheet p = text_of (part_lines sheet p)

-- within the limits of a text
pub record FitsPart (sheet : Sheet) (p : PartProof) : Type 0 where
  pub gap : p.gap ≤ MAX_GAP
  pub routing : FitsRouting sheet p.routing
  pub lower : FitsValue MAX_PART p.lower
  pub upper : FitsValue MAX_PART p.upper
  pub threshold : p.bound.threshold ≤ MAX_LENGTH
  pub lengths : AllByRecursion (FitsLength sheet) p.bound.dual.lengths
  pub potentials : AllByRecursion (FitsPotential sheet) p.bound.dual.potentials

-- what writing needs: each row names a commodity, cells or a node, and there are six decimals
pub record IsPartWritable (sheet : Sheet) (p : PartProof) : Type 0 where
  pub lower : p.lower.micro < 1000000
  pub upper : p.upper.micro < 1000000
  pub commodities : All (λ r. r.commodity < length sheet.commodities) p.routing.paths
  pub cells : All (λ r. All (λ c. c < length sheet.cells) r.walk) p.routing.paths
  pub lengths : All (λ r. r.cell < length sheet.cells) p.bound.dual.lengths
  pub potentials : All (λ r. r.node < length sheet.nodes) p.bound.dual.potentials
