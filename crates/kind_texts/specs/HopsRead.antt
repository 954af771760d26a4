-- A certificate with hop limits, read line by line with the first fault that is met.
use Rattle.std.specs.Prelude.{ℕ, Bool, List, length, Option, Some, None, Result, Ok, nat_eq, codes, if◌then◌else◌}
use Rattle.mcf_limits.specs.declared.TheConstants.{MAX_HOPS}
use Rattle.text_lines.specs.Lines.{Line}
use Rattle.cert_lines.specs.Sheet.{Sheet, place_of}
use Rattle.cert_lines.specs.declared.refusal.CertKind.{CertKind}
use Rattle.cert_lines.specs.declared.refusal.CertKind.TheVariants.{Syntax, UnknownName}
use Rattle.cert_lines.specs.declared.refusal.CertRefusal.{CertRefusal}
use Rattle.cert_lines.specs.Forms.{◌>>=◌, or_fault, row_behind}
use Rattle.cert_lines.specs.Numbers.{number_within}
use Rattle.cert_lines.specs.Rows.{potentials_from}
use Rattle.cert_text.specs.Reading.{Place, rows_at, closing}
use Rattle.cert_text.specs.Papers.{opening_at, scale_at, values_at}
use Rattle.hop_check.specs.LayerRows.{Layer}
use Rattle.hop_check.specs.declared.hop_proof.HopProof.{HopProof}
use Rattle.kind_texts.specs.Heads.{header_at}
use Rattle.kind_texts.specs.Rows.{flows_at}

-- the parts of a row behind two words, where just `count` words follow
abbrev pub with_count : ℕ → Option (List ℕ × List ℕ × Line) → Option (List ℕ × List ℕ × Line)
with_count count None = None
with_count count (Some parts) = if nat_eq (length parts.2) count then Some parts else None

-- `layer`, a node's word, an index, and one number for each node
unfoldable pub layer_row : Sheet → Line → Result Layer CertKind
layer_row sheet words = do
  parts ← or_fault Syntax (with_count (length sheet.nodes) (row_behind (codes "layer") words))
  node ← or_fault UnknownName (place_of sheet.nodes parts.0)
  index ← number_within MAX_HOPS parts.1
  values ← potentials_from parts.2
  Ok (record { node = node; index = index; values = values })

-- what follows the gap of a certificate of that verdict and that gap
unfoldable pub hops_from : Sheet → (Bool × ℕ) × Place → Result HopProof CertRefusal
hops_from sheet opening = do
  scale ← scale_at opening.1
  values ← values_at scale.1
  flows ← flows_at sheet values.1
  layers ← rows_at (codes "layer") (layer_row sheet) flows.1
  last ← closing layers.1
  Ok (record {
    proof = record {
      closed = opening.0.0;
      gap = opening.0.1;
      routing = record { phases = scale.0.0; scale_cap = scale.0.1.0; scale_load = scale.0.1.1; paths = flows.0.0 };
      lower = values.0.0;
      upper = values.0.1;
      dual = flows.0.1;
    };
    layers = layers.0;
  })

-- the certificate that the lines spell, or the first fault
unfoldable pub hops_in : Sheet → List Line → Result HopProof CertRefusal
hops_in sheet lines = do
  place ← header_at (codes "mcf-hops 1") lines
  opening ← opening_at sheet place
  hops_from sheet opening
