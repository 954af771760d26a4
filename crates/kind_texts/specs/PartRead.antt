-- A certificate of a total, read line by line with the first fault that is met.
use Rattle.std.specs.Prelude.{ℕ, Bool, List, Result, Ok, codes}
use Rattle.mcf_limits.specs.declared.TheConstants.{MAX_LENGTH}
use Rattle.gap_fraction.specs.declared.fraction.TheConstants.{MAX_PART}
use Rattle.text_lines.specs.Lines.{Line}
use Rattle.flow_paths.specs.declared.certificate.Printed.{Printed}
use Rattle.cert_lines.specs.Sheet.{Sheet}
use Rattle.cert_lines.specs.declared.refusal.CertKind.{CertKind}
use Rattle.cert_lines.specs.declared.refusal.CertKind.TheVariants.{Syntax}
use Rattle.cert_lines.specs.declared.refusal.CertRefusal.{CertRefusal}
use Rattle.cert_lines.specs.Forms.{◌>>=◌, or_fault, one_behind}
use Rattle.cert_lines.specs.Numbers.{number_within}
use Rattle.cert_lines.specs.HeadLines.{value_line}
use Rattle.cert_text.specs.Reading.{Place, next_line, closing}
use Rattle.cert_text.specs.Papers.{opening_at, scale_at}
use Rattle.throughput.specs.declared.part_proof.PartProof.{PartProof}
use Rattle.kind_texts.specs.Heads.{header_at}
use Rattle.kind_texts.specs.Rows.{flows_at}

-- `threshold` and a number
unfoldable pub threshold_line : Line → Result ℕ CertKind
threshold_line words = do
  word ← or_fault Syntax (one_behind (codes "threshold") words)
  number_within MAX_LENGTH word

-- the lower and the upper fraction, and the threshold
unfoldable pub totals_at : Place → Result ((Printed × Printed × ℕ) × Place) CertRefusal
totals_at place = do
  lower ← next_line (value_line (codes "lower") MAX_PART) place
  upper ← next_line (value_line (codes "upper") MAX_PART) lower.1
  threshold ← next_line threshold_line upper.1
  Ok ((lower.0, upper.0, threshold.0), threshold.1)

-- what follows the gap of a certificate of that verdict and that gap
unfoldable pub part_from : Sheet → (Bool × ℕ) × Place → Result PartProof CertRefusal
part_from sheet opening = do
  scale ← scale_at opening.1
  totals ← totals_at scale.1
  flows ← flows_at sheet totals.1
  last ← closing flows.1
  Ok (record {
    closed = opening.0.0;
    gap = opening.0.1;
    routing = record { phases = scale.0.0; scale_cap = scale.0.1.0; scale_load = scale.0.1.1; paths = flows.0.0 };
    lower = totals.0.0;
    upper = totals.0.1;
    bound = record { threshold = totals.0.2; dual = flows.0.1 };
  })

-- the certificate that the lines spell, or the first fault
unfoldable pub part_in : Sheet → List Line → Result PartProof CertRefusal
part_in sheet lines = do
  place ← header_at (codes "mcf-throughput 1") lines
  opening ← opening_at sheet place
  part_from sheet opening
