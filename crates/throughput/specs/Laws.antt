-- What a threshold, a certificate of a total, and a run for the greatest total promise.
use Rattle.std.specs.Prelude.{◌≡◌, ℕ, ◌*◌, ◌≤◌, List, length}
use Rattle.flow_model.specs.Network.{Network, IsNetwork}
use Rattle.flow_model.specs.Routing.{Row}
use Rattle.flow_model.specs.Bound.{IsBelowItsRows}
use Rattle.flow_paths.specs.Least.{IsFirstLeast}
use Rattle.route_tally.specs.declared.options.RunOptions.{RunOptions}
use Rattle.route_tally.specs.Asked.{AreRunOptions}
use Rattle.throughput.specs.declared.part_proof.PartProof.{PartProof}
use Rattle.throughput.specs.Partial.{IsPartial, total_of, part_upper_of, part_volume}
use Rattle.throughput.specs.Conditions.{IsValidPart, IsPartCertified}
use Rattle.throughput.specs.Run.{IsPartPhasedRun, IsThroughputRun}

-- whatever the threshold: the total times it is at most the volume and the excess, where no distance is above its rows' walks
abbrev pub ThresholdBoundsTotals : Type 0
ThresholdBoundsTotals = (net : Network) (threshold : ℕ) (lengths distances : List ℕ) (rows : List Row) (q : ℕ)
    → length lengths ≡ length net.cells → length distances ≡ length net.commodities → IsBelowItsRows lengths distances rows → IsPartial net rows q
    → total_of rows * threshold ≤ q * part_volume net threshold lengths distances

-- a valid certificate certifies: its bound is one on the total of every partial routing
abbrev pub ValidPartsCertify : Type 0
ValidPartsCertify = (net : Network) (p : PartProof) → IsValidPart net p → IsPartCertified net p

-- the proof of a run is valid
abbrev pub ThroughputRunsAreValid : Type 0
ThroughputRunsAreValid = (net : Network) (o : RunOptions) (p : PartProof) → IsNetwork net → AreRunOptions (length net.commodities) o → IsThroughputRun net o p → IsValidPart net p

-- of the bounds of a run's phases the certificate has the first of the least
abbrev pub PartBoundIsFirst : Type 0
PartBoundIsFirst = (net : Network) (o : RunOptions) (p : PartProof) → IsNetwork net → (run : IsPartPhasedRun net o p)
    → IsFirstLeast (part_upper_of net) run.bounds p.bound
