-- What a run within hop limits promises.
use Rattle.std.specs.Prelude.{ℕ, List, length, Option}
use Rattle.flow_paths.specs.Least.{IsFirstLeast}
use Rattle.flow_model.specs.Network.{Network, IsNetwork}
use Rattle.route_tally.specs.declared.options.RunOptions.{RunOptions}
use Rattle.route_tally.specs.Asked.{AreRunOptions}
use Rattle.hop_paths.specs.Allowed.{AreLimits}
use Rattle.hop_check.specs.declared.hop_proof.HopProof.{HopProof}
use Rattle.hop_check.specs.Conditions.{IsValidHops}
use Rattle.hop_check.specs.Layers.{dual_of, hop_upper_of}
use Rattle.hop_solve.specs.Run.{IsHopPhasedRun, IsHopRun}

-- the proof of a run is valid
abbrev pub HopRunsAreValid : Type 0
HopRunsAreValid = (net : Network) (limits : List (Option ℕ)) (o : RunOptions) (h : HopProof)
    → IsNetwork net → AreLimits net limits → AreRunOptions (length net.commodities) o → IsHopRun net limits o h → IsValidHops net limits h

-- of the bounds of a run's phases the certificate has the first of the least
abbrev pub HopBoundIsFirst : Type 0
HopBoundIsFirst = (net : Network) (limits : List (Option ℕ)) (o : RunOptions) (h : HopProof) → IsNetwork net → AreLimits net limits
    → (run : IsHopPhasedRun net limits o h) → IsFirstLeast (hop_upper_of net limits) run.bounds (dual_of h)
