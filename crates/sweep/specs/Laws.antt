-- What holds of a sweep.
use Rattle.std.specs.Prelude.{◌≡◌, ℕ, ◌*◌, ◌≤◌, List}
use Rattle.flow_model.specs.Network.{Network, IsNetwork}
use Rattle.flow_model.specs.Routing.{Row, IsFeasible, scaled}
use Rattle.flow_paths.specs.declared.certificate.Proof.{Proof}
use Rattle.flow_paths.specs.Certificate.{IsValid, upper_of}
use Rattle.flow_paths.specs.Evaluation.{Evaluation, fill, loads_of, lower_under}
use Rattle.unit_scale.specs.declared.modes.LinkMode.{LinkMode}
use Rattle.unit_scale.specs.Closed.{caps_of, closed}
use Rattle.sweep.specs.Sweep.{sweep_evaluation}

-- what a certificate is worth on a network
abbrev pub worth_on : Network → Proof → Evaluation
worth_on net proof = record {
  lower = lower_under net proof.routing.phases proof.routing.paths;
  upper = upper_of net proof.dual;
}

-- the evaluation with a link closed, from the network's own capacities, is the certificate's worth on the network with that link closed
abbrev pub EvaluationIsClosing : Type 0
EvaluationIsClosing = (mode : LinkMode) (net : Network) (proof : Proof) (link : ℕ)
    → sweep_evaluation mode net proof (caps_of net) link ≡ worth_on (closed mode net link) proof

-- the upper fraction of a valid certificate bounds every routing on the network with the link closed
abbrev pub ClosedIsBounded : Type 0
ClosedIsBounded = (mode : LinkMode) (net : Network) (proof : Proof) (link a q : ℕ) (rows : List Row)
    → IsNetwork net → IsValid net proof → IsFeasible (closed mode net link) rows a q
    → let e = sweep_evaluation mode net proof (caps_of net) link in a * e.upper.den ≤ q * e.upper.num

-- where there are phases, its paths, times the capacity of the fullest cell, carry the lower fraction there
abbrev pub ClosedIsFeasible : Type 0
ClosedIsFeasible = (mode : LinkMode) (net : Network) (proof : Proof) (link : ℕ)
    → IsNetwork net → IsValid net proof → 1 ≤ proof.routing.phases
    → let shut = closed mode net link in let e = sweep_evaluation mode net proof (caps_of net) link in
    IsFeasible shut (scaled (fill shut.cells (loads_of shut proof.routing.paths)).num proof.routing.paths) e.lower.num e.lower.den
