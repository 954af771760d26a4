-- The text of a certificate with hop limits.
use Rattle.std.specs.Prelude.{◌≡◌, ℕ, ◌<◌, ◌≤◌, All, List, [], ◌∷◌, ◌++◌, length, map, codes}
use Rattle.std.specs.List.{AllByRecursion}
use Rattle.std.specs.Fmt.{decimal}
use Rattle.mcf_limits.specs.declared.TheConstants.{MAX_HOPS, MAX_LENGTH}
use Rattle.text_lines.specs.Lines.{Line, text_of}
use Rattle.cert_lines.specs.Sheet.{Sheet, node_word}
use Rattle.cert_writer.specs.Text.{figure_lines, path_lines, length_lines, potential_lines, end_line, FitsProof, IsWritable}
use Rattle.hop_check.specs.LayerRows.{Layer}
use Rattle.hop_check.specs.declared.hop_proof.HopProof.{HopProof}
use Rattle.kind_texts.specs.Heads.{head_lines}

-- `layer`, a node's word, the index, and one number per node
abbrev pub layer_words : Sheet → Layer → Line
layer_words sheet r = codes "layer" ∷ node_word sheet r.node ∷ decimal r.index ∷ map decimal r.values

-- the lines from each of the parts on
abbrev pub from_layers : Sheet → HopProof → List Line
from_layers sheet h = map (layer_words sheet) h.layers ++ end_line ∷ []

abbrev pub from_potentials : Sheet → HopProof → List Line
from_potentials sheet h = potential_lines sheet h.proof ++ from_layers sheet h

abbrev pub from_lengths : Sheet → HopProof → List Line
from_lengths sheet h = length_lines sheet h.proof ++ from_potentials sheet h

abbrev pub from_paths : Sheet → HopProof → List Line
from_paths sheet h = path_lines sheet h.proof.routing ++ from_lengths sheet h

abbrev pub from_figures : Sheet → HopProof → List Line
from_figures sheet h = figure_lines h.proof ++ from_paths sheet h

-- behind its head the lines of a certificate in form 2, and the layers before the end
abbrev pub hops_lines : Sheet → HopProof → List Line
hops_lines sheet h = head_lines (codes "mcf-hops") sheet h.proof.closed ++ from_figures sheet h

-- the text
abbrev pub hops_text : Sheet → HopProof → List ℕ
hops_text sheet h = text_of (hops_lines sheet h)

-- the row is of a node, its index and its numbers are within their limits, one for each node
pub record FitsLayer (sheet : Sheet) (r : Layer) : Type 0 where
  pub node : r.node < length sheet.nodes
  pub index : r.index ≤ MAX_HOPS
  pub count : length r.values ≡ length sheet.nodes
  pub values : AllByRecursion (λ n. n ≤ MAX_LENGTH) r.values

-- within the limits of a text
pub record FitsHops (sheet : Sheet) (h : HopProof) : Type 0 where
  pub proof : FitsProof sheet h.proof
  pub layers : AllByRecursion (FitsLayer sheet) h.layers

-- what writing needs: what it needs of the certificate, and that each layer is of a node
pub record IsHopsWritable (sheet : Sheet) (h : HopProof) : Type 0 where
  pub proof : IsWritable sheet h.proof
  pub layers : All (λ r. r.node < length sheet.nodes) h.layers
