-- What a run has reached after some phases.
use Rattle.std.specs.Prelude.{◌≡◌, ℕ, ◌*◌, ◌<◌, ◌≤◌, List, ◌++◌, All, Option, length, slice_index_or}
use Rattle.mcf_limits.specs.declared.TheConstants.{MAX_LENGTH, MAX_TOTAL}
use Rattle.flow_model.specs.declared.net.Cell.{Cell}
use Rattle.flow_model.specs.declared.setting.Setting.{Setting}
use Rattle.flow_model.specs.Network.{Network}
use Rattle.flow_model.specs.Routing.{Row}
use Rattle.gap_fraction.specs.Fraction.{Fraction, IsWithinGap}
use Rattle.flow_paths.specs.Fullness.{IsFill, fullness}
use Rattle.flow_paths.specs.Least.{least_by}
use Rattle.route_tally.specs.declared.options.RunOptions.{RunOptions}
use Rattle.route_tally.specs.Asked.{later_setting}
use Rattle.throughput.specs.declared.part_proof.PartDual.{PartDual}
use Rattle.throughput.specs.declared.loaded.Loaded.{Loaded}
use Rattle.throughput.specs.declared.reached.Room.{Room}
use Rattle.throughput.specs.declared.reached.Reached.{Reached}
use Rattle.throughput.specs.Partial.{part_upper_of}
use Rattle.gates.specs.Gates.{IsLeastPrice}
use Rattle.throughput.specs.Run.{IsPartPhase, IsNextPart, IsPartClosedAfter, no_part_dual, part_fill_after, routed, turns_after}
use Rattle.throughput.specs.Loaded.{IsLoaded, lengths_under}

-- one phase more
pub record HasPhase (net : Network) (gates : List Cell) (setting : Setting) (old new : Loaded) : Type 0 where
  pub rows : (rows : List Row) → IsLoaded net rows old → (turns : List (Option Row)) × IsPartPhase net gates setting rows turns × IsLoaded net (rows ++ routed turns) new

-- phases with a bound after each, none of which met the gap before the last
pub record ArePartPhases (net : Network) (gates : List Cell) (o : RunOptions) (phases : List (List (Option Row))) (bounds : List PartDual) : Type 0 where
  pub count : length bounds ≡ length phases
  pub each : (i : ℕ) → i < length phases → IsNextPart net gates o phases i (slice_index_or bounds i no_part_dual)
  pub goes_on : (i : ℕ) → 1 ≤ i → i < length phases → ¬ (IsPartClosedAfter net gates o phases bounds i)

-- room for searches, and for a length of each cell and gate
pub record IsRoom (net : Network) (r : Room) : Type 0 where
  pub nodes : r.scratch.nodes ≡ net.nodes
  pub cells : length r.cells.items ≡ length net.cells
  pub gates : length r.gates.items ≡ length net.commodities

-- each bound divides by something
abbrev pub AllDivide : Network → List PartDual → Type 0
AllDivide net bounds = All (λ (b : PartDual). 1 ≤ (part_upper_of net b).den) bounds

-- what was routed is that of some phases, of whose bounds the kept one is the first of the least
pub record IsReached (net : Network) (gates : List Cell) (o : RunOptions) (r : Reached) : Type 0 where
  pub phases : List (List (Option Row))
  pub bounds : List PartDual
  pub are : ArePartPhases net gates o phases bounds
  pub count : length phases ≡ r.phases
  pub some : 1 ≤ r.phases
  pub loaded : IsLoaded net (turns_after phases r.phases) r.loaded
  pub total : r.loaded.total ≤ r.phases * MAX_TOTAL
  pub few : length r.loaded.tally ≤ r.phases * length net.commodities
  pub reference : fullness r.reference ≡ part_fill_after net gates phases 1
  pub reference_fits : IsFill r.reference
  pub fill : fullness r.fill ≡ part_fill_after net gates phases r.phases
  pub fill_fits : IsFill r.fill
  pub divide : AllDivide net bounds
  pub kept : r.kept.bound ≡ least_by (part_upper_of net) no_part_dual bounds
  pub value : r.kept.value ≡ part_upper_of net r.kept.bound
  pub limit : r.kept.bound.threshold ≤ MAX_LENGTH
  pub least : IsLeastPrice net (lengths_under net gates (later_setting o.step (fullness r.reference)) r.loaded) r.least
  pub low : r.least ≤ MAX_LENGTH
  pub room : IsRoom net r.room

-- the total that is carried
abbrev pub carried_in : Reached → Fraction
carried_in r = record { num = r.loaded.total * r.fill.cap; den = r.fill.load }

-- it and the kept bound lie within the gap
abbrev pub IsMet : Network → RunOptions → Reached → Type 0
IsMet net o r = IsWithinGap (carried_in r) (part_upper_of net r.kept.bound) o.gap
