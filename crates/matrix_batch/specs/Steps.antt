-- What the steps of scaling matrices answer.
use Rattle.std.specs.Prelude.{◌≡◌, ℕ, List, Result, Ok, Err}
use Rattle.std.specs.declared.vec.Vec.{Vec}
use Rattle.std.specs.declared.alloc.Global.{Global}
use Rattle.sndlib_grammar.specs.Rows.{NetRows}
use Rattle.unit_scale.specs.declared.options.NetOptions.{NetOptions}
use Rattle.unit_scale.specs.declared.refusal.RowRefusal.{RowRefusal}
use Rattle.matrix_batch.specs.declared.list_refusal.ListRefusal.{ListRefusal}
use Rattle.matrix_batch.specs.Lists.{NamedDemands}
use Rattle.matrix_batch.specs.declared.matrix.Matrix.{Matrix as MatrixRows}
use Rattle.matrix_batch.specs.declared.refusal.BatchEnd.{BatchEnd}
use Rattle.matrix_batch.specs.declared.refusal.BatchEnd.TheVariants.{Net, List as OfList, Memory}
use Rattle.matrix_batch.specs.declared.scaling.Sofar.{Sofar as SofarRows}
use Rattle.matrix_batch.specs.Views.{batch_view}
use Rattle.matrix_batch.specs.Scaling.{Sofar, with_refusal, scaled_one, scaled_all, finished, none_yet}

abbrev pub sofar_view : SofarRows → Sofar
sofar_view s = record { matrices = batch_view s.matrices.items; large = s.large; empty = s.empty }

-- what is kept of a matrix that is refused
abbrev pub IsRefusedOne : ℕ → RowRefusal → Sofar → Sofar → Result (Unit {0}) ListRefusal → Type 0
IsRefusedOne name row old new (Ok _) = with_refusal name row.sort row.refusal.line row.refusal.kind old ≡ Ok new
IsRefusedOne name row old new (Err r) = with_refusal name row.sort row.refusal.line row.refusal.kind old ≡ Err r

-- what is kept behind one matrix; no link is told here
abbrev pub AfterOne : NetRows → NetOptions → NamedDemands → Sofar → Sofar → Result (Unit {0}) BatchEnd → Type 0
AfterOne rows o m old new (Ok _) = scaled_one rows o m old ≡ Ok new
AfterOne rows o m old new (Err Memory) = Unit {0}
AfterOne rows o m old new (Err (OfList r)) = scaled_one rows o m old ≡ Err r
AfterOne rows o m old new (Err (Net r)) = ⊥

-- the matrices, or the first refusal behind all of them
abbrev pub IsFinished : Sofar → Result (Vec MatrixRows Global) ListRefusal → Type 0
IsFinished s (Ok v) = finished s.large s.empty s.matrices ≡ Ok (batch_view v.items)
IsFinished s (Err r) = finished s.large s.empty s.matrices ≡ Err r

-- the matrices of what was read, or the first refusal
abbrev pub AreScaled : NetRows → NetOptions → List NamedDemands → Result (Vec MatrixRows Global) BatchEnd → Type 0
AreScaled rows o read (Ok v) = scaled_all rows o read none_yet ≡ Ok (batch_view v.items)
AreScaled rows o read (Err Memory) = Unit {0}
AreScaled rows o read (Err (OfList r)) = scaled_all rows o read none_yet ≡ Err r
AreScaled rows o read (Err (Net r)) = ⊥
