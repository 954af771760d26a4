-- A scratch of layers as contracts see it.
use Rattle.std.specs.Prelude.{◌≡◌, ℕ, zero, suc, ◌+◌, ◌*◌, ◌≤◌, List, [], ◌∷◌, ◌++◌, Option, None, length, slice_index_or}
use Rattle.std.specs.Option.{option_map_or, option_map}
use Rattle.flow_model.specs.declared.net.Cell.{Cell}
use Rattle.flow_model.specs.Bound.{walk_length}
use Rattle.mcf_limits.specs.declared.TheConstants.{MAX_HOPS}
use Rattle.hop_paths.specs.declared.search.HopStep.{HopStep}
use Rattle.hop_paths.specs.Allowed.{IsShortWalk}
use Rattle.hop_paths.specs.Searching.{step_at}

-- the cells of the steps that lead to a node in that layer: its last step, or those that lead to it in the layer before
abbrev pub hop_trail : List (Option HopStep) → ℕ → ℕ → ℕ → List ℕ
hop_trail steps nodes zero v = []
hop_trail steps nodes (suc i) v = option_map_or (λ s. hop_trail steps nodes i s.from ++ s.cell ∷ []) (step_at steps (suc i * nodes + v)) (hop_trail steps nodes i v)

-- the number of nodes, the greatest layer, how many layers the last search made, and each node's distance in each layer, layer
-- after layer, with the steps that lead there
pub record HopSearched : Type 0 where
  pub nodes : ℕ
  pub layers : ℕ
  pub made : ℕ
  pub dists : List (Option ℕ)
  pub steps : List (Option HopStep)

-- the distance of the node in that layer
abbrev pub layer_dist : HopSearched → ℕ → ℕ → Option ℕ
layer_dist s i v = slice_index_or s.dists (i * s.nodes + v) None

-- the path to the node in that layer, if it has a distance
abbrev pub layer_path : HopSearched → ℕ → ℕ → Option (List ℕ)
layer_path s i v = option_map (λ _. hop_trail s.steps s.nodes i v) (layer_dist s i v)

-- the path is a walk of the distance, of at most i cells
abbrev pub IsShortPath : List Cell → List ℕ → ℕ → ℕ → ℕ → ℕ → List ℕ → Type 0
IsShortPath cells lengths u v i d walk = IsShortWalk cells u v i walk × (walk_length lengths walk ≡ d)

-- a number and a step for each node and layer, within the limit of layers, of which `made` are made, and room for a path
pub record IsHopReady (nodes layers made : ℕ) (dist : List ℕ) (steps : List (Option HopStep)) (path : List ℕ) : Type 0 where
  pub small : layers ≤ MAX_HOPS
  pub made_few : made ≤ layers + 1
  pub count : length dist ≡ (layers + 1) * nodes
  pub beside : length steps ≡ length dist
  pub room : length path ≡ layers
