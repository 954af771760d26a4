-- What a search by layers keeps: the numbers of nodes, layer after layer in one list, and beside them the steps that lead there.
use Rattle.std.specs.Prelude.{◌≡◌, ◌≢◌, ℕ, ◌+◌, ◌*◌, ◌<◌, ◌≤◌, List, length, Option, None, MatchOption, IsSome, slice_index, slice_index_or}
use Rattle.flow_model.specs.declared.net.Cell.{Cell}
use Rattle.flow_model.specs.Walk.{PassesOver}
use Rattle.mcf_limits.specs.declared.TheConstants.{MAX_LENGTH}
use Rattle.hop_paths.specs.declared.search.HopStep.{HopStep}

-- the step that leads to a place, if the layer before has none as short
abbrev pub step_at : List (Option HopStep) → ℕ → Option HopStep
step_at steps k = slice_index_or steps k None

-- the node's number in the layer behind the one at that base is that of the way by this step
pub record IsOver (cells : List Cell) (lengths : List ℕ) (nodes : ℕ) (dist : List ℕ) (base v : ℕ) (step : HopStep) : Type 0 where
  pub inside : step.from < nodes
  pub near : slice_index dist (base + step.from) < MAX_LENGTH
  pub passes : PassesOver cells step.cell step.from v
  pub is : slice_index dist (base + nodes + v) ≡ slice_index dist (base + step.from) + slice_index lengths step.cell

-- in the layer behind, each node's number is no greater, and the same, or that of the way by its step
pub record IsNext (cells : List Cell) (lengths : List ℕ) (nodes : ℕ) (dist : List ℕ) (steps : List (Option HopStep)) (base : ℕ) : Type 0 where
  pub falls : (v : ℕ) → v < nodes → slice_index dist (base + nodes + v) ≤ slice_index dist (base + v)
  pub by : (v : ℕ) → v < nodes → MatchOption (step_at steps (base + nodes + v)) (slice_index dist (base + nodes + v) ≡ slice_index dist (base + v)) (IsOver cells lengths nodes dist base v)

-- no way from the node is shorter than what the layer behind has
abbrev pub IsGoneOn : List Cell → List ℕ → ℕ → List ℕ → ℕ → ℕ → Type 0
IsGoneOn cells lengths nodes dist base u =
    (c x : ℕ) → x < nodes → PassesOver cells c u x → slice_index dist (base + nodes + x) ≤ slice_index dist (base + u) + slice_index lengths c

-- no way from a node without a step is shorter than what its own layer has
abbrev pub IsSettled : List Cell → List ℕ → ℕ → List ℕ → List (Option HopStep) → ℕ → Type 0
IsSettled cells lengths nodes dist steps base = (u c x : ℕ) → u < nodes → x < nodes → step_at steps (base + u) ≡ None → slice_index dist (base + u) < MAX_LENGTH → PassesOver cells c u x
    → slice_index dist (base + x) ≤ slice_index dist (base + u) + slice_index lengths c

-- both lists stay so long, and below that place they stay as they were
pub record IsSameBelow (k : ℕ) (dist_old dist_new : List ℕ) (steps_old steps_new : List (Option HopStep)) : Type 0 where
  pub len : length dist_new ≡ length dist_old
  pub steps_len : length steps_new ≡ length steps_old
  pub dist : (j : ℕ) → j < k → slice_index dist_new j ≡ slice_index dist_old j
  pub steps : (j : ℕ) → j < k → step_at steps_new j ≡ step_at steps_old j

-- the layer behind has the same numbers, and no steps
pub record IsBegun (nodes : ℕ) (dist : List ℕ) (steps : List (Option HopStep)) (base : ℕ) : Type 0 where
  pub same : (v : ℕ) → v < nodes → slice_index dist (base + nodes + v) ≡ slice_index dist (base + v)
  pub none : (v : ℕ) → v < nodes → step_at steps (base + nodes + v) ≡ None

-- the layer behind the one at that base is whole
pub record IsBehind (cells : List Cell) (lengths : List ℕ) (nodes : ℕ) (dist : List ℕ) (steps : List (Option HopStep)) (base : ℕ) : Type 0 where
  pub next : IsNext cells lengths nodes dist steps base
  pub all : (u : ℕ) → u < nodes → slice_index dist (base + u) < MAX_LENGTH → IsGoneOn cells lengths nodes dist base u

-- the first layer and `layers` layers behind it
pub record IsSearched (cells : List Cell) (lengths : List ℕ) (from nodes : ℕ) (dist : List ℕ) (steps : List (Option HopStep)) (layers : ℕ) : Type 0 where
  pub start : slice_index dist from ≡ 0
  pub far : (v : ℕ) → v < nodes → v ≢ from → slice_index dist v ≡ MAX_LENGTH
  pub first : IsSome (step_at steps from)
  pub each : (i : ℕ) → i < layers → IsBehind cells lengths nodes dist steps (i * nodes)
