-- A scratch as contracts see it.
use Rattle.std.specs.Prelude.{◌≡◌, ◌≢◌, ◌⊎◌, ℕ, zero, suc, [], ◌∷◌, ◌++◌, ◌==◌, ◌<◌, ◌≤◌, List, Option, Some, None, length, nat_lt, if◌then◌else◌, slice_index, slice_index_or, ◌+◌, MatchOption, IfSome, IsSomeAnd}
use Rattle.flow_model.specs.declared.net.Cell.{Cell}
use Rattle.flow_model.specs.Walk.{PassesOver, PositiveWalk}
use Rattle.flow_model.specs.Bound.{walk_length}
use Rattle.dijkstra_paths.specs.declared.search.Step.{Step}
use Rattle.dijkstra_paths.specs.declared.search.Front.{Front}
use Rattle.dijkstra_paths.specs.Tree.{step_at, IsFront}
use Rattle.flow_model.specs.Least.{AreDifferent}
use Rattle.mcf_limits.specs.declared.TheConstants.{MAX_LENGTH}

-- the cells of the steps that lead to a node, cut off after a number of steps
unfoldable pub trail : List Step → ℕ → ℕ → ℕ → List ℕ
trail via from zero v = []
trail via from (suc fuel) v = if v == from then [] else trail via from fuel (step_at via v).from ++ (step_at via v).cell ∷ []

-- the steps lead back to the first node within a number of steps
abbrev pub Ends : List Step → ℕ → ℕ → ℕ → ℕ → Type 0
Ends via nodes from zero v = ⊥
Ends via nodes from (suc fuel) v = (v ≡ from) ⊎ (((step_at via v).from < nodes) × Ends via nodes from fuel (step_at via v).from)

-- the path of each node from v on
abbrev pub paths_from : List Step → ℕ → ℕ → ℕ → List ℕ → List (Option (List ℕ))
paths_from via from nodes v [] = []
paths_from via from nodes v (d ∷ dists) = (if nat_lt d MAX_LENGTH then Some (trail via from nodes v) else None) ∷ paths_from via from nodes (suc v) dists

-- the numbers of nodes and cells, and each node's distance and path, if it was reached
pub record Searched : Type 0 where
  pub nodes : ℕ
  pub cells : ℕ
  pub dists : List (Option ℕ)
  pub paths : List (Option (List ℕ))

abbrev pub known : ℕ → Option ℕ
known d = if nat_lt d MAX_LENGTH then Some d else None

abbrev pub dist_at : Searched → ℕ → Option ℕ
dist_at s v = slice_index_or s.dists v None

abbrev pub path_at : Searched → ℕ → Option (List ℕ)
path_at s v = slice_index_or s.paths v None

-- all lists have an item for each node, and the steps lead back to the first node
pub record IsReady (nodes from : ℕ) (front : Front) (path : List ℕ) : Type 0 where
  pub fits : IsFront nodes front
  pub room : length path ≡ nodes
  pub first : nodes ≢ 0 → from < nodes
  pub ends : (v : ℕ) → v < nodes → slice_index front.dist.items v < MAX_LENGTH → Ends front.steps.items nodes from nodes v

-- over a positive cell from a node with a distance, the next has one that is at most the cell's length more
abbrev pub IsNear : List Cell → List ℕ → Searched → Type 0
IsNear cells lengths s =
    (c u v : ℕ) → u < s.nodes → PassesOver cells c u v → IfSome (dist_at s u) (λ d. IsSomeAnd (dist_at s v) (λ e. e ≤ d + slice_index lengths c))

-- the path is a walk of the distance, of different cells, fewer than there are nodes
abbrev pub IsPath : List Cell → List ℕ → ℕ → ℕ → ℕ → Option ℕ → Option (List ℕ) → Type 0
IsPath cells lengths nodes from v d p = MatchOption d (p ≡ None)
    (λ d. IsSomeAnd p (λ walk. PositiveWalk cells from v walk × (walk_length lengths walk ≡ d) × AreDifferent walk × (length walk < nodes)))
