-- What is answered of a list's text.
use Rattle.std.specs.Prelude.{◌≡◌, ℕ, ◌≤◌, List, All, length, Option, Some, None, Result, Ok, Err}
use Rattle.std.specs.declared.vec.Vec.{Vec}
use Rattle.std.specs.declared.alloc.Global.{Global}
use Rattle.mcf_limits.specs.declared.TheConstants.{MAX_MATRICES}
use Rattle.sndlib_grammar.specs.Rows.{NetRows, AreNetRows}
use Rattle.unit_scale.specs.declared.options.NetOptions.{NetOptions}
use Rattle.unit_scale.specs.Scaling.{scaled_of}
use Rattle.matrix_batch.specs.Refusals.{InNet, InList}
use Rattle.matrix_batch.specs.Matrices.{Matrix}
use Rattle.matrix_batch.specs.Batch.{IsBatch}
use Rattle.sndlib_grammar.specs.declared.refusal.NetKind.{NetKind}
use Rattle.sndlib_grammar.specs.declared.refusal.NetKind.TheVariants as netkinds
use Rattle.unit_scale.specs.declared.refusal.RowSort.{RowSort}
use Rattle.unit_scale.specs.declared.refusal.RowSort.TheVariants.{Link}
use Rattle.unit_scale.specs.declared.refusal.RowRefusal.{RowRefusal}
use Rattle.matrix_batch.specs.declared.matrix.Matrix.{Matrix as MatrixRows}
use Rattle.matrix_batch.specs.declared.refusal.BatchEnd.{BatchEnd}
use Rattle.matrix_batch.specs.declared.refusal.BatchEnd.TheVariants.{Net, List as OfList, Memory}
use Rattle.matrix_batch.specs.Views.{batch_view}

-- the text's batch, or its first refusal; if memory ran out, nothing is said
abbrev pub Answers : NetRows → NetOptions → List ℕ → Result (Vec MatrixRows Global) BatchEnd → Type 0
Answers rows o text (Ok v) = IsBatch rows o text (Ok (batch_view v.items))
Answers rows o text (Err (Net r)) = IsBatch rows o text (Err (InNet r))
Answers rows o text (Err (OfList r)) = IsBatch rows o text (Err (InList r))
Answers rows o text (Err Memory) = Unit {0}

-- matrices within their limit, each with sound rows and the network that these stand for
pub record AreOwn (o : NetOptions) (batch : List Matrix) : Type 0 where
  pub few : length batch ≤ MAX_MATRICES
  pub each : All (λ (m : Matrix). AreNetRows m.rows × (scaled_of m.rows o ≡ Ok m.net)) batch

-- the line of a link that is too fine, where that is what is refused
abbrev pub line_of_fine_at : RowSort → NetKind → ℕ → Option ℕ
line_of_fine_at Link netkinds.TooFine line = Some line
line_of_fine_at _ _ line = None

abbrev pub line_of_fine : RowRefusal → Option ℕ
line_of_fine row = line_of_fine_at row.sort row.refusal.kind row.refusal.line
