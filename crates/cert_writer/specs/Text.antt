-- The texts of a certificate and of a routing.
use Rattle.std.specs.Prelude.{ℕ, ◌≤◌, ◌<◌, All, List, [], ◌∷◌, ◌++◌, length, map, codes}
use Rattle.std.specs.List.{AllByRecursion}
use Rattle.text_lines.specs.Lines.{Line, text_of}
use Rattle.flow_paths.specs.declared.certificate.Routing.{Routing}
use Rattle.flow_paths.specs.declared.certificate.Proof.{Proof}
use Rattle.gap_fraction.specs.declared.fraction.TheConstants.{MAX_PART}
use Rattle.mcf_limits.specs.declared.TheConstants.{MAX_GAP, MAX_LENGTH, MAX_PHASES, MAX_UNITS}
use Rattle.cert_lines.specs.Sheet.{Sheet}
use Rattle.cert_lines.specs.Spelling.{verdict_words, links_words, modules_words, counts_words, gap_words, phases_words, scale_words, value_words, length_words, potential_words, path_words, FitsValue, FitsLength, FitsPotential, FitsPath}

-- the form, the verdict and the modes
abbrev pub opening_lines : Sheet → Proof → List Line
opening_lines sheet p =
    (codes "mcf-certificate" ∷ sheet.form ∷ []) ∷ verdict_words p.closed
    ∷ links_words sheet ∷ modules_words sheet ∷ []

-- the gap, phases, scale and the two fractions
abbrev pub figure_lines : Proof → List Line
figure_lines p =
    gap_words p.gap ∷ phases_words p.routing.phases ∷ scale_words (p.routing.scale_cap, p.routing.scale_load)
    ∷ value_words (codes "lower") p.lower ∷ value_words (codes "upper") p.upper ∷ []

abbrev pub path_lines : Sheet → Routing → List Line
path_lines sheet r = map (path_words sheet) r.paths

abbrev pub length_lines : Sheet → Proof → List Line
length_lines sheet p = map (length_words sheet) p.dual.lengths

abbrev pub potential_lines : Sheet → Proof → List Line
potential_lines sheet p = map (potential_words sheet) p.dual.potentials

abbrev pub end_line : Line
end_line = codes "end" ∷ []

-- the lines from each of the parts on
abbrev pub from_potentials : Sheet → Proof → List Line
from_potentials sheet p = potential_lines sheet p ++ end_line ∷ []

abbrev pub from_lengths : Sheet → Proof → List Line
from_lengths sheet p = length_lines sheet p ++ from_potentials sheet p

abbrev pub from_paths : Sheet → Proof → List Line
from_paths sheet p = path_lines sheet p.routing ++ from_lengths sheet p

abbrev pub from_figures : Sheet → Proof → List Line
from_figures sheet p = figure_lines p ++ from_paths sheet p

abbrev pub from_counts : Sheet → Proof → List Line
from_counts sheet p = (counts_words sheet ∷ []) ++ from_figures sheet p

-- the lines of a certificate
abbrev pub certificate_lines : Sheet → Proof → List Line
certificate_lines sheet p = opening_lines sheet p ++ from_counts sheet p

-- the lines of a routing
abbrev pub routing_lines : Sheet → Routing → List Line
routing_lines sheet r =
    (codes "mcf-routing" ∷ sheet.form ∷ []) ∷ links_words sheet ∷ modules_words sheet
    ∷ phases_words r.phases ∷ scale_words (r.scale_cap, r.scale_load) ∷ (path_lines sheet r ++ end_line ∷ [])

-- the text of a certificate
abbrev pub certificate_text : Sheet → Proof → List ℕ
certificate_text sheet p = text_of (certificate_lines sheet p)

-- the text of a routing
abbrev pub routing_text : Sheet → Routing → List ℕ
routing_text sheet r = text_of (routing_lines sheet r)

-- the numbers are within their limits, and the rows name commodities and cells
pub record FitsRouting (sheet : Sheet) (r : Routing) : Type 0 where
  pub phases : r.phases ≤ MAX_PHASES
  pub scale_cap : r.scale_cap ≤ MAX_UNITS
  pub scale_load : r.scale_load ≤ MAX_LENGTH
  pub paths : AllByRecursion (FitsPath sheet) r.paths

pub record FitsProof (sheet : Sheet) (p : Proof) : Type 0 where
  pub gap : p.gap ≤ MAX_GAP
  pub routing : FitsRouting sheet p.routing
  pub lower : FitsValue MAX_LENGTH p.lower
  pub upper : FitsValue MAX_PART p.upper
  pub lengths : AllByRecursion (FitsLength sheet) p.dual.lengths
  pub potentials : AllByRecursion (FitsPotential sheet) p.dual.potentials

-- what writing needs: each row names a commodity, cells or a node, and there are six decimals
pub record IsWritable (sheet : Sheet) (p : Proof) : Type 0 where
  pub lower : p.lower.micro < 1000000
  pub upper : p.upper.micro < 1000000
  pub commodities : All (λ r. r.commodity < length sheet.commodities) p.routing.paths
  pub cells : All (λ r. All (λ c. c < length sheet.cells) r.walk) p.routing.paths
  pub lengths : All (λ r. r.cell < length sheet.cells) p.dual.lengths
  pub potentials : All (λ r. r.node < length sheet.nodes) p.dual.potentials
