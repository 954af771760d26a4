-- A certificate under capacities that are edited.
use Rattle.std.specs.Prelude.{◌≡◌, ◌≢◌, ℕ, ◌*◌, ◌<◌, ◌≤◌, ◌==◌, if◌then◌else◌, List, [], ◌∷◌, All, length, slice_index, slice_set}
use Rattle.mcf_limits.specs.declared.TheConstants.{MAX_LENGTH, MAX_UNITS}
use Rattle.gap_fraction.specs.declared.fraction.TheConstants.{MAX_PART}
use Rattle.flow_model.specs.Network.{Network, IsNetwork}
use Rattle.flow_model.specs.Routing.{Row, IsFeasible, scaled}
use Rattle.flow_model.specs.Bound.{volume}
use Rattle.flow_paths.specs.declared.certificate.Proof.{Proof}
use Rattle.flow_paths.specs.Certificate.{IsProofOf, IsValid, lengths_in, upper_of}
use Rattle.flow_paths.specs.Evaluation.{Evaluation, evaluation, fill, loads_of, with_caps}
use Rattle.unit_scale.specs.declared.modes.LinkMode.{LinkMode}
use Rattle.unit_scale.specs.Closed.{with_link}
use Rattle.script.specs.declared.step.Step.{Step}
use Rattle.script.specs.declared.step.Step.TheVariants.{Edit, Show}
use Rattle.whatif.specs.declared.bounds.Bounds.{Bounds}
use Rattle.whatif.specs.declared.ratio.Ratio.{Ratio}
use Rattle.whatif.specs.declared.ratio.TheConstants.{MAX_LOAD}
use Rattle.whatif.specs.Ratios.{ratios}

-- a network, a certificate of it, and the capacities as they are now
pub record Planned : Type 0 where
  pub net : Network
  pub proof : Proof
  pub caps : List ℕ

-- both fractions of the certificate's rows and lengths under the capacities
abbrev pub shown_of : Planned → Evaluation
shown_of p = evaluation p.net p.proof.routing.phases p.proof.routing.paths p.proof.dual p.caps

-- the same plan, with another capacity of that cell
abbrev pub with_cap : Planned → ℕ → ℕ → Planned
with_cap p cell cap = record p { caps = slice_set p.caps cell cap }

-- the plan after a step of a script: an edit gives each cell of its link the capacity
abbrev pub after_step : LinkMode → Planned → Step → Planned
after_step mode p (Edit link cap) = record p { caps = with_link mode p.caps link cap }
after_step mode p Show = p

abbrev pub after_steps : LinkMode → Planned → List Step → Planned
after_steps mode p [] = p
after_steps mode p (step ∷ steps) = after_steps mode (after_step mode p step) steps

-- the certificate is valid for the network, and there is one capacity within the limits for each cell
pub record IsPlanned (p : Planned) : Type 0 where
  pub net : IsNetwork p.net
  pub proof : IsProofOf p.net p.proof
  pub valid : IsValid p.net p.proof
  pub count : length p.caps ≡ length p.net.cells
  pub caps : All (λ cap. cap ≤ MAX_UNITS) p.caps

-- ---- what the bounds are worth

-- the rows with their weights times the capacity of the fullest cell, and none where there is no phase
abbrev pub routing_under : Network → Proof → List Row
routing_under net proof =
    if proof.routing.phases == 0 then []
    else scaled (fill net.cells (loads_of net proof.routing.paths)).num proof.routing.paths

-- on the network with these capacities the lower fraction is that of a feasible routing, and the upper bounds that of every
-- feasible routing
pub record AreBounds (net : Network) (proof : Proof) (e : Evaluation) : Type 0 where
  pub feasible : IsFeasible net (routing_under net proof) e.lower.num e.lower.den
  pub positive : 1 ≤ e.upper.den
  pub bounds : (rows : List Row) (a q : ℕ) → IsFeasible net rows a q → a * e.upper.den ≤ q * e.upper.num

-- ---- what a plan keeps

-- a load, a length and a ratio for each cell, the sum of capacity times length, and the weighted distance
pub record IsKept (p : Planned) (loads lengths : List ℕ) (tree : List Ratio) (sum distance : ℕ) : Type 0 where
  pub planned : IsPlanned p
  pub loads_are : loads ≡ loads_of p.net p.proof.routing.paths
  pub load_limit : All (λ n. n ≤ MAX_LOAD) loads
  pub loaded : p.proof.routing.phases ≢ 0 → (c : ℕ) × (c < length loads) × (slice_index loads c ≢ 0)
  pub lengths_are : lengths ≡ lengths_in p.net p.proof.dual
  pub length_limit : All (λ n. n ≤ MAX_LENGTH) lengths
  pub tree_is : tree ≡ ratios 0 (with_caps p.net.cells p.caps) loads
  pub sum_is : sum ≡ volume (with_caps p.net.cells p.caps) lengths
  pub distance_is : distance ≡ (upper_of p.net p.proof.dual).den
  pub distance_low : 1 ≤ distance
  pub distance_high : distance ≤ MAX_PART

abbrev pub evaluation_of : Bounds → Evaluation
evaluation_of b = record { lower = b.lower; upper = b.upper }
