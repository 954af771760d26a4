-- The whole certificate and the whole routing, read.
use Rattle.std.specs.Prelude.{ℕ, Bool, true, false, List, [], ◌∷◌, Option, Some, None, Result, Ok, Err, codes, if◌then◌else◌}
use Rattle.text_lines.specs.Lines.{Line}
use Rattle.flow_paths.specs.DualRows.{DualRows}
use Rattle.flow_paths.specs.declared.certificate.Routing.{Routing as RoutingIs}
use Rattle.flow_paths.specs.declared.certificate.Printed.{Printed}
use Rattle.flow_paths.specs.declared.certificate.Proof.{Proof}
use Rattle.gap_fraction.specs.declared.fraction.TheConstants.{MAX_PART}
use Rattle.mcf_limits.specs.declared.TheConstants.{MAX_LENGTH}
use Rattle.cert_lines.specs.Sheet.{Sheet}
use Rattle.cert_lines.specs.declared.form.Form.TheVariants.{First, Second}
use Rattle.cert_lines.specs.declared.refusal.CertRefusal.{CertRefusal}
use Rattle.cert_lines.specs.declared.refusal.CertKind.TheVariants.{NoHeader, Syntax}
use Rattle.cert_lines.specs.Forms.{◌>>=◌, is_fixed}
use Rattle.cert_lines.specs.HeadLines.{verdict_line, counts_line, gap_line, phases_line, scale_line, value_line}
use Rattle.cert_lines.specs.Rows.{path_row, length_row, potential_row}
use Rattle.cert_text.specs.declared.opening.Kind.{Kind}
use Rattle.cert_text.specs.declared.opening.Kind.TheVariants.{Certificate, Routing}
use Rattle.cert_text.specs.declared.opening.Known.{Known}
use Rattle.cert_text.specs.declared.opening.Known.TheVariants.{Both, Certificates}
use Rattle.cert_text.specs.declared.opening.Opening.{Opening}
use Rattle.cert_text.specs.Reading.{Place, has_more, next_line, mode_line, rows_at, closing}

-- the lines that say how links and modules are read
unfoldable pub modes_at : Sheet → Place → Result Place CertRefusal
modes_at sheet place = do
  links ← next_line (mode_line (codes "links") sheet.link_mode) place
  modules ← next_line (mode_line (codes "modules") sheet.module_mode) links.1
  Ok modules.1

-- phases, and the scale's capacity and load
unfoldable pub scale_at : Place → Result ((ℕ × (ℕ × ℕ)) × Place) CertRefusal
scale_at place = do
  phases ← next_line phases_line place
  scale ← next_line scale_line phases.1
  Ok ((phases.0, scale.0), scale.1)

-- that verdict, and behind it the counts and the gap
unfoldable pub counted_at : Sheet → Bool → Place → Result ((Bool × ℕ) × Place) CertRefusal
counted_at sheet closed place = do
  counts ← next_line (counts_line sheet) place
  gap ← next_line gap_line counts.1
  Ok ((closed, gap.0), gap.1)

-- the verdict, the modes, the counts and the gap
unfoldable pub opening_at : Sheet → Place → Result ((Bool × ℕ) × Place) CertRefusal
opening_at sheet place = do
  verdict ← next_line verdict_line place
  modes ← modes_at sheet verdict.1
  counted_at sheet verdict.0 modes

-- the lower and the upper fraction
unfoldable pub values_at : Place → Result ((Printed × Printed) × Place) CertRefusal
values_at place = do
  lower ← next_line (value_line (codes "lower") MAX_LENGTH) place
  upper ← next_line (value_line (codes "upper") MAX_PART) lower.1
  Ok ((lower.0, upper.0), upper.1)

-- the length rows and the potential rows
unfoldable pub dual_at : Sheet → Place → Result (DualRows × Place) CertRefusal
dual_at sheet place = do
  lengths ← rows_at (codes "length") (length_row sheet) place
  potentials ← rows_at (codes "potential") (potential_row sheet) lengths.1
  Ok (record { lengths = lengths.0; potentials = potentials.0 }, potentials.1)

-- what follows the modes of a routing
unfoldable pub routing_from : Sheet → Place → Result RoutingIs CertRefusal
routing_from sheet place = do
  scale ← scale_at place
  paths ← rows_at (codes "path") (path_row sheet) scale.1
  last ← closing paths.1
  Ok (record { phases = scale.0.0; scale_cap = scale.0.1.0; scale_load = scale.0.1.1; paths = paths.0 })

-- what follows the header of a routing
unfoldable pub routing_at : Sheet → Place → Result RoutingIs CertRefusal
routing_at sheet place = do
  modes ← modes_at sheet place
  routing_from sheet modes

-- what follows the gap of a certificate of that verdict and that gap
unfoldable pub proof_from : Sheet → (Bool × ℕ) × Place → Result Proof CertRefusal
proof_from sheet opening = do
  scale ← scale_at opening.1
  values ← values_at scale.1
  paths ← rows_at (codes "path") (path_row sheet) values.1
  dual ← dual_at sheet paths.1
  last ← closing dual.1
  Ok (record {
    closed = opening.0.0;
    gap = opening.0.1;
    routing = record { phases = scale.0.0; scale_cap = scale.0.1.0; scale_load = scale.0.1.1; paths = paths.0 };
    lower = values.0.0;
    upper = values.0.1;
    dual = dual.0;
  })

-- what follows the header of a certificate
unfoldable pub proof_at : Sheet → Place → Result Proof CertRefusal
proof_at sheet place = do
  opening ← opening_at sheet place
  proof_from sheet opening

-- what the line says as a first line, where it is one of the four
abbrev pub form_of : Line → Option Opening
form_of line =
    if is_fixed (codes "mcf-certificate 1") line then Some (record { kind = Certificate; form = First })
    else (if is_fixed (codes "mcf-certificate 2") line then Some (record { kind = Certificate; form = Second })
    else (if is_fixed (codes "mcf-routing 1") line then Some (record { kind = Routing; form = First })
    else (if is_fixed (codes "mcf-routing 2") line then Some (record { kind = Routing; form = Second })
    else None)))

abbrev pub is_certificate : Kind → Bool
is_certificate Certificate = true
is_certificate Routing = false

abbrev pub of_certificate : Option Opening → Option Opening
of_certificate None = None
of_certificate (Some opening) = if is_certificate opening.kind then Some opening else None

-- what is known of a first line: where the headers of certificates alone are, that of a routing is none
abbrev pub known_form : Known → Option Opening → Option Opening
known_form Both form = form
known_form Certificates form = of_certificate form

-- a line that is not known has no header; a known one wants its line feed
abbrev pub header_of : Option Opening → List Line → Result (Opening × Place) CertRefusal
header_of None lines = Err (record { line = 1; kind = NoHeader })
header_of (Some opening) lines =
    if has_more lines then Ok (opening, record { at = 2; rest = lines })
    else Err (record { line = 1; kind = Syntax })

-- the first line, where these headers are known: of which kind it is, and of which form
unfoldable pub header_by : Known → List Line → Result (Opening × Place) CertRefusal
header_by known [] = Err (record { line = 1; kind = NoHeader })
header_by known (line ∷ lines) = header_of (known_form known (form_of line)) lines

-- the first line: whether it is that of a certificate or of a routing, and of which form
abbrev pub header : List Line → Result (Opening × Place) CertRefusal
header lines = header_by Both lines
