-- The rows of a routing and of a bound, read.
use Rattle.std.specs.Prelude.{List, Result, Ok, codes}
use Rattle.flow_model.specs.Routing.{Row}
use Rattle.flow_paths.specs.DualRows.{DualRows}
use Rattle.cert_lines.specs.Sheet.{Sheet}
use Rattle.cert_lines.specs.declared.refusal.CertRefusal.{CertRefusal}
use Rattle.cert_lines.specs.Forms.{◌>>=◌}
use Rattle.cert_lines.specs.Rows.{path_row}
use Rattle.cert_text.specs.Reading.{Place, rows_at}
use Rattle.cert_text.specs.Papers.{dual_at}

-- the path rows, the length rows and the potential rows
unfoldable pub flows_at : Sheet → Place → Result ((List Row × DualRows) × Place) CertRefusal
flows_at sheet place = do
  paths ← rows_at (codes "path") (path_row sheet) place
  dual ← dual_at sheet paths.1
  Ok ((paths.0, dual.0), dual.1)
