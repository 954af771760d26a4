-- What a run has reached after some phases.
use Rattle.std.specs.Prelude.{◌≡◌, ℕ, ◌*◌, ◌<◌, ◌≤◌, List, All, length, Option, slice_index_or}
use Rattle.flow_model.specs.Network.{Network}
use Rattle.flow_model.specs.Routing.{Row}
use Rattle.gap_fraction.specs.Fraction.{IsWithinGap}
use Rattle.flow_paths.specs.Fullness.{IsFill, fullness}
use Rattle.route_tally.specs.declared.options.RunOptions.{RunOptions}
use Rattle.route_tally.specs.Asked.{later_setting}
use Rattle.hop_check.specs.Layers.{HopDual, hop_upper_of}
use Rattle.hop_solve.specs.declared.reached.HopReached.{HopReached}
use Rattle.hop_solve.specs.Run.{turns_after, fill_after, kept_after, no_hop_dual, IsHopClosedAfter, IsNextHops}
use Rattle.hop_solve.specs.Turns.{IsRouted, IsFinder}
use Rattle.hop_solve.specs.Numbers.{hop_dual_of}

-- the phases are those of a run, of which the kept bound is the first of the least
pub record IsHopReached (net : Network) (limits : List (Option ℕ)) (counts : List ℕ) (o : RunOptions) (r : HopReached) : Type 0 where
  pub phases : List (List Row)
  pub bounds : List HopDual
  pub count : r.phases ≡ length phases
  pub some : 1 ≤ length phases
  pub routed : IsRouted net (turns_after phases (length phases)) r.routed
  pub setting : r.routed.table.setting ≡ later_setting o.step (fill_after net phases 1)
  pub finder : IsFinder net counts r.finder
  pub fill : fullness r.fill ≡ fill_after net phases (length phases)
  pub fill_fits : IsFill r.fill
  pub bounds_count : length bounds ≡ length phases
  pub each : (p : ℕ) → p < length phases → IsNextHops net limits o phases p (slice_index_or bounds p no_hop_dual)
  pub goes_on : (p : ℕ) → 1 ≤ p → p < length phases → ¬ (IsHopClosedAfter net limits o phases bounds p)
  pub divide : All (λ d. 1 ≤ (hop_upper_of net limits d).den) bounds
  pub kept : hop_dual_of r.kept ≡ kept_after net limits bounds (length phases)
  pub value : r.kept.value ≡ hop_upper_of net limits (hop_dual_of r.kept)

-- the carried fraction and the kept bound lie within the gap
abbrev pub IsHopMet : Network → List (Option ℕ) → RunOptions → HopReached → Type 0
IsHopMet net limits o r = IsWithinGap (record { num = r.phases * r.fill.cap; den = r.fill.load }) (hop_upper_of net limits (hop_dual_of r.kept)) o.gap
