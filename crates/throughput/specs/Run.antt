-- A run for the greatest total.
use Rattle.std.specs.Prelude.{◌≡◌, ◌⊎◌, ◌↔◌, ℕ, ◌+◌, ◌*◌, ◌<◌, ◌≤◌, true, false, IsTrue, List, [], ◌++◌, All, length, take, Option, Some, None, slice_get, slice_index_or}
use Rattle.std.specs.List.{filter_map, flat_map}
use Rattle.flow_model.specs.declared.net.Cell.{Cell}
use Rattle.flow_model.specs.declared.net.Commodity.{Commodity}
use Rattle.flow_model.specs.declared.setting.Setting.{Setting}
use Rattle.flow_model.specs.Network.{Network}
use Rattle.flow_model.specs.Routing.{Row}
use Rattle.flow_model.specs.Least.{IsCutOff, IsJoined, IsLeastWalk}
use Rattle.gap_fraction.specs.Fraction.{Fraction, IsWithinGap}
use Rattle.flow_paths.specs.Evaluation.{fill}
use Rattle.dual_bound.specs.Bounds.{IsBoundOf, IsCutDual}
use Rattle.route_tally.specs.declared.options.RunOptions.{RunOptions}
use Rattle.route_tally.specs.Asked.{later_setting, setting_after}
use Rattle.route_tally.specs.Tally.{IsTally}
use Rattle.flow_paths.specs.Least.{least_by}
use Rattle.throughput.specs.declared.part_proof.PartDual.{PartDual}
use Rattle.throughput.specs.declared.part_proof.PartProof.{PartProof}
use Rattle.throughput.specs.Partial.{total_of, part_upper_of}
use Rattle.throughput.specs.Conditions.{PartFractionsArePrinted}
use Rattle.gates.specs.Gates.{AreGates, gated, gated_loads, gated_lengths, IsPrice, IsLeastPrice}

-- ---- phases

-- the whole amount of commodity k goes along a least walk over positive cells, and its price is at most this one
pub record IsRouted (net : Network) (lengths : List ℕ) (most k : ℕ) (row : Row) : Type 0 where
  pub commodity : Commodity
  pub at : slice_get net.commodities k ≡ Some commodity
  pub number : row.commodity ≡ k
  pub whole : row.weight ≡ commodity.amount
  pub least : IsLeastWalk net.cells lengths commodity.from commodity.to row.walk
  pub price : ℕ
  pub is_price : IsPrice net lengths k price
  pub low : price ≤ most

-- the turn of commodity k: it is routed where its price is at most this one; nothing is, where its price is above it or it has no walk
abbrev pub IsPartTurn : Network → List ℕ → ℕ → ℕ → Option Row → Type 0
IsPartTurn net lengths most k None = (price : ℕ) → IsPrice net lengths k price → most < price
IsPartTurn net lengths most k (Some row) = IsRouted net lengths most k row

-- what was routed at these turns
abbrev pub routed : List (Option Row) → List Row
routed turns = filter_map (λ turn. turn) turns

-- behind what was routed before: each commodity has its turn, in their order, under the lengths of the loads then; most is twice
-- the least price at the phase's start
pub record IsPartPhase (net : Network) (gates : List Cell) (setting : Setting) (before : List Row) (turns : List (Option Row)) : Type 0 where
  pub least : ℕ
  pub at_start : IsLeastPrice net (gated_lengths net gates setting before) least
  pub count : length turns ≡ length net.commodities
  pub each : (k : ℕ) → k < length net.commodities
      → IsPartTurn net (gated_lengths net gates setting (before ++ routed (take k turns))) (2 * least) k (slice_index_or turns k None)

-- what was routed in the first p phases
abbrev pub turns_after : List (List (Option Row)) → ℕ → List Row
turns_after phases p = flat_map routed (take p phases)

-- capacity over load of the fullest cell or gate after p phases, cells before gates
abbrev pub part_fill_after : Network → List Cell → List (List (Option Row)) → ℕ → Fraction
part_fill_after net gates phases p = fill (gated net gates).cells (gated_loads net (turns_after phases p))

-- the total of p phases
abbrev pub part_lower_after : Network → List Cell → List (List (Option Row)) → ℕ → Fraction
part_lower_after net gates phases p = record { num = total_of (turns_after phases p) * (part_fill_after net gates phases p).num; den = (part_fill_after net gates phases p).den }

-- ---- bounds

-- the dual of these lengths of cells and gates, with the least price as its threshold
pub record IsPartBoundOf (net : Network) (lengths : List ℕ) (b : PartDual) : Type 0 where
  pub threshold : IsLeastPrice net lengths b.threshold
  pub dual : IsBoundOf net (take (length net.cells) lengths) b.dual

-- without rows
abbrev pub no_part_dual : PartDual
no_part_dual = record { threshold = 0; dual = record { lengths = []; potentials = [] } }

-- the bound that is kept after p phases: the first of the least so far
abbrev pub part_kept_after : Network → List PartDual → ℕ → PartDual
part_kept_after net bounds p = least_by (part_upper_of net) no_part_dual (take p bounds)

-- ---- the whole

-- no commodity has a walk over positive cells
abbrev pub HasNoWalk : Network → Type 0
HasNoWalk net = All (λ (k : Commodity). IsCutOff net.cells k.from k.to) net.commodities

-- some commodity has one
abbrev pub HasSomeWalk : Network → Type 0
HasSomeWalk net = (i : ℕ) × (k : Commodity) × (slice_get net.commodities i ≡ Some k) × IsJoined net.cells k.from k.to

-- the proof where nothing can be carried
pub record IsNothingProof (net : Network) (o : RunOptions) (p : PartProof) : Type 0 where
  pub closed : p.closed ≡ true
  pub gap : p.gap ≡ o.gap
  pub phases : p.routing.phases ≡ 0
  pub scale_cap : p.routing.scale_cap ≡ 0
  pub scale_load : p.routing.scale_load ≡ 1
  pub paths : p.routing.paths ≡ []
  pub threshold : p.bound.threshold ≡ 1
  pub dual : IsCutDual net p.bound.dual

-- the total and the kept bound after p phases lie within the gap
abbrev pub IsPartClosedAfter : Network → List Cell → RunOptions → List (List (Option Row)) → List PartDual → ℕ → Type 0
IsPartClosedAfter net gates o phases bounds p = IsWithinGap (part_lower_after net gates phases p) (part_upper_of net (part_kept_after net bounds p)) o.gap

-- the phase before which there were p is one, and the bound is that of the loads after it
pub record IsNextPart (net : Network) (gates : List Cell) (o : RunOptions) (phases : List (List (Option Row))) (p : ℕ) (b : PartDual) : Type 0 where
  pub phase : IsPartPhase net gates (setting_after o.step (part_fill_after net gates phases 1) p) (turns_after phases p) (slice_index_or phases p [])
  pub bound : IsPartBoundOf net (gated_lengths net gates (later_setting o.step (part_fill_after net gates phases 1)) (turns_after phases (p + 1))) b

-- the proof is that of all phases, with the kept bound
pub record IsPartProofAfter (net : Network) (gates : List Cell) (o : RunOptions) (phases : List (List (Option Row))) (bounds : List PartDual) (p : PartProof) : Type 0 where
  pub gap : p.gap ≡ o.gap
  pub phases_are : p.routing.phases ≡ length phases
  pub scale_cap : p.routing.scale_cap ≡ (part_fill_after net gates phases (length phases)).num
  pub scale_load : p.routing.scale_load ≡ (part_fill_after net gates phases (length phases)).den
  pub paths : IsTally (turns_after phases (length phases)) p.routing.paths
  pub bound : p.bound ≡ part_kept_after net bounds (length phases)

-- phases, at least one, with a bound after each, until the total and the kept bound lie within the gap or the budget is spent,
-- and the proof that they make
pub record IsPartPhasedRun (net : Network) (o : RunOptions) (p : PartProof) : Type 0 where
  pub gates : List Cell
  pub are_gates : AreGates net gates
  pub phases : List (List (Option Row))
  pub bounds : List PartDual
  pub some : 1 ≤ length phases
  pub budget : length phases ≤ o.phases
  pub count : length bounds ≡ length phases
  pub each : (i : ℕ) → i < length phases → IsNextPart net gates o phases i (slice_index_or bounds i no_part_dual)
  pub goes_on : (i : ℕ) → 1 ≤ i → i < length phases → ¬ (IsPartClosedAfter net gates o phases bounds i)
  pub closed : IsTrue p.closed ↔ IsPartClosedAfter net gates o phases bounds (length phases)
  pub spent : p.closed ≡ false → length phases ≡ o.phases
  pub proof : IsPartProofAfter net gates o phases bounds p

-- a proof of nothing where no commodity has a walk, else phases; its fractions are printed
pub record IsThroughputRun (net : Network) (o : RunOptions) (p : PartProof) : Type 0 where
  pub run : (HasNoWalk net × IsNothingProof net o p) ⊎ (HasSomeWalk net × IsPartPhasedRun net o p)
  pub printed : PartFractionsArePrinted net p
