use Rattle.std.proofs.Common.{take, All}
use Rattle.flow_model.specs.Bound.{IsPotential}
use Rattle.flow_paths.specs.Certificate.{lengths_in}
use Rattle.cert_check.proofs.whole.rows_are_potentials.Given as goal

abbrev pub invariant-loop-i : goal.invariant-loop-i
invariant-loop-i l = All (λ r. IsPotential l.net.cells (lengths_in l.net l.dual) r.values) (take l.i l.dual.potentials)
