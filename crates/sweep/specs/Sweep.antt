-- Each single link closed: what a certificate is still worth.
use Rattle.std.specs.Prelude.{ℕ, List, map}
use Rattle.std.specs.List.{range_with_len}
use Rattle.flow_model.specs.Network.{Network}
use Rattle.flow_paths.specs.declared.certificate.Proof.{Proof}
use Rattle.flow_paths.specs.Evaluation.{Evaluation, evaluation}
use Rattle.unit_scale.specs.declared.modes.LinkMode.{LinkMode}
use Rattle.unit_scale.specs.Closed.{with_link}

-- what the certificate is worth under these capacities with the link's cells at 0
abbrev pub sweep_evaluation : LinkMode → Network → Proof → List ℕ → ℕ → Evaluation
sweep_evaluation mode net proof caps link =
    evaluation net proof.routing.phases proof.routing.paths proof.dual (with_link mode caps link 0)

-- that of each of `links` links, in their order
abbrev pub sweep_evaluations : LinkMode → Network → Proof → List ℕ → ℕ → List Evaluation
sweep_evaluations mode net proof caps links = map (sweep_evaluation mode net proof caps) (range_with_len 0 links)
