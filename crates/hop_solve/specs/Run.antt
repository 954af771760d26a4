-- A run within hop limits.
use Rattle.std.specs.Prelude.{◌≡◌, ◌⊎◌, ◌↔◌, ℕ, ◌+◌, ◌*◌, ◌<◌, ◌≤◌, true, false, IsTrue, List, [], ◌++◌, All, length, map, take, filter, Option, Some, slice_get, slice_index, slice_index_or}
use Rattle.std.specs.List.{flat_map, range_with_len}
use Rattle.mcf_limits.specs.declared.TheConstants.{MAX_HOPS}
use Rattle.flow_model.specs.declared.net.Commodity.{Commodity}
use Rattle.flow_model.specs.declared.net.Cell.{Cell}
use Rattle.flow_model.specs.declared.setting.Setting.{Setting}
use Rattle.flow_model.specs.Network.{Network}
use Rattle.flow_model.specs.Routing.{Row}
use Rattle.flow_model.specs.Lengths.{lengths_of}
use Rattle.flow_model.specs.Least.{far_or}
use Rattle.gap_fraction.specs.Fraction.{Fraction, IsWithinGap}
use Rattle.flow_paths.specs.DualRows.{Potential}
use Rattle.flow_paths.specs.Evaluation.{fill, loads_of}
use Rattle.dual_bound.specs.Bounds.{length_rows, IsRowWith, IsDistance, cut_lengths, IsCutPotential}
use Rattle.route_tally.specs.declared.options.RunOptions.{RunOptions}
use Rattle.route_tally.specs.Asked.{later_setting, setting_after}
use Rattle.route_tally.specs.Tally.{IsTally}
use Rattle.flow_paths.specs.Least.{least_by}
use Rattle.hop_paths.specs.Allowed.{is_unlimited, has_layer, IsAllowed, IsLeastAllowed, IsShortWalk, IsLeastOf}
use Rattle.hop_check.specs.LayerRows.{Layer}
use Rattle.hop_check.specs.declared.hop_proof.HopProof.{HopProof}
use Rattle.hop_check.specs.Layers.{HopDual, dual_of, hop_upper_of}
use Rattle.hop_check.specs.Conditions.{HopFractionsArePrinted}

-- ---- turns and phases

-- behind these turns the whole amount of commodity k goes along a least of its allowed walks, under the lengths of the loads then
pub record IsTurn (net : Network) (limits : List (Option ℕ)) (setting : Setting) (before : List Row) (k : ℕ) (turn : Row) : Type 0 where
  pub commodity : Commodity
  pub at : slice_get net.commodities k ≡ Some commodity
  pub number : turn.commodity ≡ k
  pub whole : turn.weight ≡ commodity.amount
  pub least : IsLeastAllowed net limits (lengths_of net setting (loads_of net before)) k turn.walk

-- behind these turns each commodity has its turn, in their order
pub record IsHopPhase (net : Network) (limits : List (Option ℕ)) (setting : Setting) (before turns : List Row) : Type 0 where
  pub count : length turns ≡ length net.commodities
  pub each : (k : ℕ) (turn : Row) → slice_get turns k ≡ Some turn → IsTurn net limits setting (before ++ take k turns) k turn

-- the turns of the first p phases
abbrev pub turns_after : List (List Row) → ℕ → List Row
turns_after phases p = flat_map (λ turns. turns) (take p phases)

-- capacity over load of the fullest cell after p phases
abbrev pub fill_after : Network → List (List Row) → ℕ → Fraction
fill_after net phases p = fill net.cells (loads_of net (turns_after phases p))

-- the fraction of every amount that p phases carry
abbrev pub lower_after : Network → List (List Row) → ℕ → Fraction
lower_after net phases p = record { num = p * (fill_after net phases p).num; den = (fill_after net phases p).den }

-- ---- bounds

-- the length of a least of the walks of which the fact holds, or 2 ^ 62 where there is none
abbrev pub IsLeastLength : (List ℕ → Type 0) → List ℕ → ℕ → Type 0
IsLeastLength Is lengths n = (d : Option ℕ) × IsLeastOf Is lengths d × (n ≡ far_or d)

-- the source and the index of each layer that is asked for, node after node and in order of the index
abbrev pub layers_asked : Network → List (Option ℕ) → List (ℕ × ℕ)
layers_asked net limits = flat_map (λ v. map (λ i. (v, i)) (filter (has_layer net limits v) (range_with_len 0 (MAX_HOPS + 1)))) (range_with_len 0 net.nodes)

-- the row of a layer has a number for each node, of which the fact holds
pub record IsLayerWith (nodes : ℕ) (Q : ℕ → ℕ → ℕ → ℕ → Type 0) (r : Layer) : Type 0 where
  pub count : length r.values ≡ nodes
  pub each : (v : ℕ) → v < nodes → Q r.node r.index v (slice_index r.values v)

-- these lengths in order of cells, and the rows that are asked for in order of nodes, with potentials of which P and layers of
-- which Q holds
pub record IsHopDualWith (net : Network) (limits : List (Option ℕ)) (lengths : List ℕ) (P : ℕ → ℕ → ℕ → Type 0) (Q : ℕ → ℕ → ℕ → ℕ → Type 0) (d : HopDual) : Type 0 where
  pub lengths_are : d.dual.lengths ≡ length_rows 0 lengths
  pub sources : map (λ (r : Potential). r.node) d.dual.potentials ≡ filter (is_unlimited net limits) (range_with_len 0 net.nodes)
  pub potentials : All (IsRowWith net.nodes P) d.dual.potentials
  pub places : map (λ (r : Layer). (r.node, r.index)) d.layers ≡ layers_asked net limits
  pub layers : All (IsLayerWith net.nodes Q) d.layers

-- least lengths of walks over positive cells as potentials, and of those of at most i cells in layer i
abbrev pub IsHopBoundOf : Network → List (Option ℕ) → List ℕ → HopDual → Type 0
IsHopBoundOf net limits lengths d =
    IsHopDualWith net limits lengths (IsDistance net.cells lengths) (λ s i v n. IsLeastLength (IsShortWalk net.cells s v i) lengths n) d

-- 0 for a node that at most i positive cells lead to, 1 for every other
abbrev pub IsCutLayer : List Cell → ℕ → ℕ → ℕ → ℕ → Type 0
IsCutLayer cells s i v n = (((walk : List ℕ) × IsShortWalk cells s v i walk) × (n ≡ 0)) ⊎ (((walk : List ℕ) → IsShortWalk cells s v i walk → ⊥) × (n ≡ 1))

-- the dual where some commodity has no allowed walk
abbrev pub IsHopCutDual : Network → List (Option ℕ) → HopDual → Type 0
IsHopCutDual net limits d = IsHopDualWith net limits (cut_lengths net.cells) (IsCutPotential net.cells) (IsCutLayer net.cells) d

-- ---- the whole

-- some commodity has no allowed walk
abbrev pub HasHopCut : Network → List (Option ℕ) → Type 0
HasHopCut net limits = (k : ℕ) × (k < length net.commodities) × ((walk : List ℕ) → IsAllowed net limits k walk → ⊥)

-- each commodity has an allowed walk
abbrev pub HasNoHopCut : Network → List (Option ℕ) → Type 0
HasNoHopCut net limits = (k : ℕ) → k < length net.commodities → (walk : List ℕ) × IsAllowed net limits k walk

-- the proof of a network with such a cut
pub record IsHopCutProof (net : Network) (limits : List (Option ℕ)) (o : RunOptions) (h : HopProof) : Type 0 where
  pub closed : h.proof.closed ≡ true
  pub gap : h.proof.gap ≡ o.gap
  pub phases : h.proof.routing.phases ≡ 0
  pub scale_cap : h.proof.routing.scale_cap ≡ 0
  pub scale_load : h.proof.routing.scale_load ≡ 1
  pub paths : h.proof.routing.paths ≡ []
  pub dual : IsHopCutDual net limits (dual_of h)

-- without rows
abbrev pub no_hop_dual : HopDual
no_hop_dual = record { dual = record { lengths = []; potentials = [] }; layers = [] }

-- the bound that is kept after p phases: the first of the least so far
abbrev pub kept_after : Network → List (Option ℕ) → List HopDual → ℕ → HopDual
kept_after net limits bounds p = least_by (hop_upper_of net limits) no_hop_dual (take p bounds)

-- the lower fraction and the kept bound after p phases lie within the gap
abbrev pub IsHopClosedAfter : Network → List (Option ℕ) → RunOptions → List (List Row) → List HopDual → ℕ → Type 0
IsHopClosedAfter net limits o phases bounds p = IsWithinGap (lower_after net phases p) (hop_upper_of net limits (kept_after net limits bounds p)) o.gap

-- the phase before which there were p is one, and the bound is that of the loads after it
pub record IsNextHops (net : Network) (limits : List (Option ℕ)) (o : RunOptions) (phases : List (List Row)) (p : ℕ) (d : HopDual) : Type 0 where
  pub phase : IsHopPhase net limits (setting_after o.step (fill_after net phases 1) p) (turns_after phases p) (slice_index_or phases p [])
  pub bound : IsHopBoundOf net limits (lengths_of net (later_setting o.step (fill_after net phases 1)) (loads_of net (turns_after phases (p + 1)))) d

-- the proof is that of all phases, with the kept bound
pub record IsHopProofAfter (net : Network) (limits : List (Option ℕ)) (o : RunOptions) (phases : List (List Row)) (bounds : List HopDual) (h : HopProof) : Type 0 where
  pub gap : h.proof.gap ≡ o.gap
  pub phases_are : h.proof.routing.phases ≡ length phases
  pub scale_cap : h.proof.routing.scale_cap ≡ (fill_after net phases (length phases)).num
  pub scale_load : h.proof.routing.scale_load ≡ (fill_after net phases (length phases)).den
  pub paths : IsTally (turns_after phases (length phases)) h.proof.routing.paths
  pub dual : dual_of h ≡ kept_after net limits bounds (length phases)

-- phases, at least one, with a bound after each, until the fraction and the kept bound lie within the gap or the budget is spent,
-- and the proof that they make
pub record IsHopPhasedRun (net : Network) (limits : List (Option ℕ)) (o : RunOptions) (h : HopProof) : Type 0 where
  pub phases : List (List Row)
  pub bounds : List HopDual
  pub some : 1 ≤ length phases
  pub budget : length phases ≤ o.phases
  pub count : length bounds ≡ length phases
  pub each : (p : ℕ) → p < length phases → IsNextHops net limits o phases p (slice_index_or bounds p no_hop_dual)
  pub goes_on : (p : ℕ) → 1 ≤ p → p < length phases → ¬ (IsHopClosedAfter net limits o phases bounds p)
  pub closed : IsTrue h.proof.closed ↔ IsHopClosedAfter net limits o phases bounds (length phases)
  pub spent : h.proof.closed ≡ false → length phases ≡ o.phases
  pub proof : IsHopProofAfter net limits o phases bounds h

-- a proof without a phase where some commodity has no allowed walk, else phases; its fractions are printed
pub record IsHopRun (net : Network) (limits : List (Option ℕ)) (o : RunOptions) (h : HopProof) : Type 0 where
  pub run : (HasHopCut net limits × IsHopCutProof net limits o h) ⊎ (HasNoHopCut net limits × IsHopPhasedRun net limits o h)
  pub printed : HopFractionsArePrinted net limits h
