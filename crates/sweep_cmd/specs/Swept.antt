-- Solves of a network with each single link closed, each with one worker.
use Rattle.std.specs.Prelude.{◌≡◌, ℕ, List, length, Some, slice_get}
use Rattle.flow_model.specs.Network.{Network}
use Rattle.flow_paths.specs.declared.certificate.Proof.{Proof}
use Rattle.flow_paths.specs.Certificate.{lower_of, upper_of}
use Rattle.unit_scale.specs.declared.modes.LinkMode.{LinkMode}
use Rattle.unit_scale.specs.Closed.{closed}
use Rattle.solver_run.specs.History.{SolvedView}
use Rattle.solver_run.specs.Headline.{IsSolved}
use Rattle.sweep_cmd.specs.declared.asked.SweepOptions.{SweepOptions}
use Rattle.sweep_cmd.specs.declared.swept.Swept.{Swept}
use Rattle.sweep_cmd.specs.Asked.{alone}

-- the four values are those of the certificate of the network
pub record IsKeptOf (net : Network) (proof : Proof) (s : Swept) : Type 0 where
  pub verdict : s.closed ≡ proof.closed
  pub phases : s.phases ≡ proof.routing.phases
  pub lower : s.lower ≡ lower_of proof.routing
  pub upper : s.upper ≡ upper_of net proof.dual

-- the four values are those of a solve of the network with the link closed
pub record IsSwept (mode : LinkMode) (net : Network) (o : SweepOptions) (link : ℕ) (s : Swept) : Type 0 where
  pub solve : SolvedView
  pub solved : IsSolved (closed mode net link) (alone o) solve
  pub kept : IsKeptOf (closed mode net link) solve.proof s

-- one for each of `links` links, in their order
pub record AreSwept (mode : LinkMode) (net : Network) (o : SweepOptions) (links : ℕ) (swept : List Swept) : Type 0 where
  pub count : length swept ≡ links
  pub each : (link : ℕ) (s : Swept) → slice_get swept link ≡ Some s → IsSwept mode net o link s
