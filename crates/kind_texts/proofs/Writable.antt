-- What fits a text can be written.
use Rattle.std.proofs.Common.{◌<◌, length}
use Rattle.std.specs.Prelude.{All}
use Rattle.std.proofs.lemmas.List.Elements.{All-from_recursion, All-weaker}
use Rattle.cert_lines.specs.Sheet.{Sheet}
use Rattle.cert_lines.specs.Spelling.{FitsPath, FitsLength, FitsPotential}
use Rattle.cert_writer.proofs.TextPuts.{is_writable}
use Rattle.hop_check.specs.declared.hop_proof.HopProof.{HopProof}
use Rattle.throughput.specs.declared.part_proof.PartProof.{PartProof}
use Rattle.kind_texts.specs.HopsText.{FitsLayer, FitsHops, IsHopsWritable}
use Rattle.kind_texts.specs.PartText.{FitsPart, IsPartWritable}

pub is_hops_writable : (sheet : Sheet) (h : HopProof) → FitsHops sheet h → IsHopsWritable sheet h
is_hops_writable sheet h fits = record {
  proof = is_writable sheet h.proof fits.proof;
  layers = All-weaker (FitsLayer sheet) (λ r. r.node < length sheet.nodes) (λ r f. f.node) h.layers (All-from_recursion (FitsLayer sheet) h.layers fits.layers);
}

pub is_part_writable : (sheet : Sheet) (p : PartProof) → FitsPart sheet p → IsPartWritable sheet p
is_part_writable sheet p fits = record {
  lower = fits.lower.micro;
  upper = fits.upper.micro;
  commodities = All-weaker (FitsPath sheet) (λ r. r.commodity < length sheet.commodities) (λ r f. f.commodity) p.routing.paths (All-from_recursion (FitsPath sheet) p.routing.paths fits.routing.paths);
  cells = All-weaker (FitsPath sheet) (λ r. All (λ c. c < length sheet.cells) r.walk) (λ r f. All-from_recursion (λ c. c < length sheet.cells) r.walk f.cells) p.routing.paths (All-from_recursion (FitsPath sheet) p.routing.paths fits.routing.paths);
  lengths = All-weaker (FitsLength sheet) (λ r. r.cell < length sheet.cells) (λ r f. f.cell) p.bound.dual.lengths (All-from_recursion (FitsLength sheet) p.bound.dual.lengths fits.lengths);
  potentials = All-weaker (FitsPotential sheet) (λ r. r.node < length sheet.nodes) (λ r f. f.node) p.bound.dual.potentials (All-from_recursion (FitsPotential sheet) p.bound.dual.potentials fits.potentials);
}
