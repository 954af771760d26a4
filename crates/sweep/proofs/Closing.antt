-- A certificate on the network with a link closed.
use Rattle.std.proofs.Common.{◌≡◌, ℕ, ◌≤◌, Bool, false, cond, eqb, List, [], arith, subst}
use Rattle.std.proofs.lemmas.Bool.Decides.{nat_tests}
use Rattle.flow_model.specs.Network.{Network}
use Rattle.flow_model.specs.Routing.{Row, IsFeasible, scaled}
use Rattle.flow_paths.specs.Evaluation.{Evaluation, edited, fill, loads_of}
use Rattle.unit_scale.specs.Closed.{caps_of, with_link}
use Rattle.whatif.proofs.Sound.{bound_under, feasible_under}
use Rattle.sweep.specs.Sweep.{sweep_evaluation}
use Rattle.sweep.specs.Laws.{ClosedIsBounded, ClosedIsFeasible}

no_zero : (n : ℕ) → 1 ≤ n → eqb n 0 ≡ false
no_zero n some = grind (arith, nat_tests)

pub closed_bounded : ClosedIsBounded
closed_bounded mode net proof link a q rows n v feasible =
    bound_under net (with_link mode (caps_of net) link 0) proof v rows a q feasible

pub closed_feasible : ClosedIsFeasible
closed_feasible mode net proof link n v some =
    let caps : List ℕ = with_link mode (caps_of net) link 0 in
    let shut : Network = edited net caps in
    let e : Evaluation = sweep_evaluation mode net proof (caps_of net) link in
    let rows : List Row = scaled (fill shut.cells (loads_of shut proof.routing.paths)).num proof.routing.paths in
    subst (λ (b : Bool). IsFeasible shut (cond b [] rows) e.lower.num e.lower.den) (no_zero proof.routing.phases some) (feasible_under net caps proof n v)
