-- The bounds among which the best is chosen.
use Rattle.std.specs.Prelude.{◌≡◌, ◌↔◌, ℕ, ◌<◌, ◌==◌, nat_lt, not, Bool, List, [], ◌∷◌, ◌++◌, Any, Contains, filter, map, slice_index, if◌then◌else◌}
use Rattle.std.specs.List.{flat_map, range_with_len, AllZip, zip}
use Rattle.std.specs.List.Sorted.{IsStrictlyIncreasing}
use Rattle.flow_model.specs.Network.{Network}
use Rattle.flow_paths.specs.DualRows.{Potential, DualRows}
use Rattle.flow_paths.specs.Certificate.{upper_of}
use Rattle.flow_paths.specs.Least.{least_by}
use Rattle.cut_bound.specs.Cuts.{Side, cut_value, cut_dual}

-- ---- cuts round one node

-- the cut out of the node, and, where cells go one way, the cut into it, out of all others
abbrev pub node_sides : Bool → ℕ → List Side
node_sides both v = if both then (λ u. u == v) ∷ [] else (λ u. u == v) ∷ (λ u. not (u == v)) ∷ []

-- ---- fronts of a row of potentials

-- the row's numbers above its least, each once, ascending
pub record AreLevels (values levels : List ℕ) : Type 0 where
  pub ascending : IsStrictlyIncreasing levels
  pub each : (t : ℕ) → Contains levels t ↔ (Contains values t × Any (λ x. x < t) values)

-- the nodes whose potential is below the level
abbrev pub front : List ℕ → ℕ → Side
front values level = λ v. nat_lt (slice_index values v) level

-- the fronts of the rows, row after row, from the smallest to the greatest
abbrev pub fronts : List Potential → List (List ℕ) → List Side
fronts rows levels = flat_map (λ r. map (front r.0.values) r.1) (zip rows levels)

-- ---- all of them

-- some commodity crosses
abbrev pub is_crossed : Network → Bool → Side → Bool
is_crossed net both side = nat_lt 0 (cut_value net both side).den

-- the duals that are there, and those of the cuts that some commodity crosses
abbrev pub with_cuts : Network → Bool → List DualRows → List Side → List DualRows
with_cuts net both own sides = own ++ map (cut_dual net both) (filter (is_crossed net both) sides)

-- the potential rows of all duals, one after the other
abbrev pub rows_in : List DualRows → List Potential
rows_in own = flat_map (λ (d : DualRows). d.potentials) own

-- the duals that are there; then the cuts round each node, in order; then the fronts of the rows; no cut that no commodity
-- crosses
abbrev pub candidates : Network → Bool → List DualRows → List (List ℕ) → List DualRows
candidates net both own levels =
    with_cuts net both own (flat_map (node_sides both) (range_with_len 0 net.nodes) ++ fronts (rows_in own) levels)

-- without rows
abbrev pub no_dual : DualRows
no_dual = record { lengths = []; potentials = [] }

-- the first candidate whose bound none of them is below
pub record IsBestDual (net : Network) (both : Bool) (own : List DualRows) (best : DualRows) : Type 0 where
  pub levels : List (List ℕ)
  pub are_levels : AllZip (λ (row : Potential) (ts : List ℕ). AreLevels row.values ts) (rows_in own) levels
  pub best_is : best ≡ least_by (upper_of net) no_dual (candidates net both own levels)
