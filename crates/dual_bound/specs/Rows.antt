-- A row for each source, on the way to a dual.
use Rattle.std.specs.Prelude.{◌≡◌, ℕ, ◌-◌, ◌*◌, ◌<◌, ◌≤◌, ◌==◌, List, Bool, false, IsTrue, All, filter, length, map, slice_index, slice_index_or}
use Rattle.std.specs.List.{sum_by}
use Rattle.flow_model.specs.declared.net.Commodity.{Commodity}
use Rattle.flow_model.specs.Network.{Network}
use Rattle.flow_model.specs.Groups.{group_sources}
use Rattle.flow_paths.specs.DualRows.{Potential, DualRows}
use Rattle.flow_paths.specs.Certificate.{distance_of, upper_of}
use Rattle.flow_model.specs.Bound.{weighted_distance}
use Rattle.mcf_limits.specs.declared.TheConstants.{MAX_LENGTH, MAX_TOTAL}
use Rattle.dual_bound.specs.declared.bounds.Bounded.{Bounded}
use Rattle.dual_bound.specs.declared.rows.Row.{Row}
use Rattle.dual_bound.specs.declared.rows.Target.{Target}
use Rattle.dual_bound.specs.Bounds.{length_rows, IsDistance}

abbrev pub mark_at : List Bool → ℕ → Bool
mark_at marks v = slice_index_or marks v false

-- the row of potentials that it stands for
abbrev pub potential_of : Row → Potential
potential_of row = record { node = row.source; values = row.values.items }

abbrev pub potentials_of : List Row → List Potential
potentials_of rows = map potential_of rows

-- the dual of these lengths and rows
abbrev pub dual_of : List ℕ → List Row → DualRows
dual_of lengths rows = record { lengths = length_rows 0 lengths; potentials = potentials_of rows }

-- that dual with its value, volume over weighted distance
abbrev pub bounded_of : Network → List ℕ → List Row → Bounded
bounded_of net lengths rows = record { dual = dual_of lengths rows; value = upper_of net (dual_of lengths rows) }

abbrev pub sources_of : List Row → List ℕ
sources_of rows = map (λ (r : Row). r.source) rows

-- a node, and what is to go from it
pub record Demands : Type 0 where
  pub source : ℕ
  pub targets : List Target

-- where a commodity goes to, with its amount
abbrev pub target_of : Commodity → Target
target_of k = record { to = k.to; amount = k.amount }

abbrev pub no_commodity : Commodity
no_commodity = record { from = 0; to = 0; amount = 0 }

-- that of the commodity with this number
abbrev pub target_at : List Commodity → ℕ → Target
target_at commodities k = target_of (slice_index_or commodities k no_commodity)

-- what goes from a node
abbrev pub demands_from : List Commodity → ℕ → Demands
demands_from commodities v = record { source = v; targets = map target_of (filter (λ k. k.from == v) commodities) }

-- for each source, in the order of nodes, what goes from it
abbrev pub demands_in : Network → List Demands
demands_in net = map (demands_from net.commodities) (group_sources net)

-- the source and the targets of a row
abbrev pub demand_of : Row → Demands
demand_of row = record { source = row.source; targets = row.targets.items }

abbrev pub demands_of : List Row → List Demands
demands_of rows = map demand_of rows

-- amount times the target's number less the source's, or 0 where that is negative, over these targets
abbrev pub weighted_from : ℕ → List ℕ → List Target → ℕ
weighted_from source values targets = sum_by (λ (t : Target). t.amount * (slice_index values t.to - slice_index values source)) targets

-- what the rows are weighted with, added up
abbrev pub weight_of : List Row → ℕ
weight_of rows = sum_by (λ (r : Row). r.weighted) rows

-- the row has a number for each node, of which the fact holds, and its targets are weighted by them
pub record IsFilledWith (nodes : ℕ) (P : ℕ → ℕ → ℕ → Type 0) (row : Row) : Type 0 where
  pub node : row.source < nodes
  pub count : length row.values.items ≡ nodes
  pub small : All (λ x. x ≤ MAX_LENGTH) row.values.items
  pub each : (v : ℕ) → v < nodes → P row.source v (slice_index row.values.items v)
  pub weighted : row.weighted ≡ weighted_from row.source row.values.items row.targets.items

-- a row of a source, with room for a number for each node; its targets are nodes, and their amounts are within the limit
pub record IsRoom (nodes : ℕ) (row : Row) : Type 0 where
  pub source : row.source < nodes
  pub count : length row.values.items ≡ nodes
  pub targets : All (λ (t : Target). t.to < nodes) row.targets.items
  pub total : sum_by (λ (t : Target). t.amount) row.targets.items ≤ MAX_TOTAL

-- a row for each source of a commodity, in the order of nodes, with what goes from it
pub record AreRoom (net : Network) (rows : List Row) : Type 0 where
  pub demands : demands_of rows ≡ demands_in net
  pub each : All (IsRoom net.nodes) rows

-- an empty row of a source, with its room
pub record IsBlank (nodes : ℕ) (row : Row) : Type 0 where
  pub room : IsRoom nodes row
  pub blank : row.is_filled ≡ false

-- the row was made blank, and kept its source, its targets and its room
pub record IsMadeBlank (old new : Row) : Type 0 where
  pub source : new.source ≡ old.source
  pub targets : new.targets ≡ old.targets
  pub values : new.values ≡ old.values
  pub blank : new.is_filled ≡ false

-- where the row is filled, it is with distances
abbrev pub HasDistances : Network → List ℕ → Row → Type 0
HasDistances net lengths row = IsTrue row.is_filled → IsFilledWith net.nodes (IsDistance net.cells lengths) row

-- the row of a source was filled with distances, or is not filled
pub record Fills (net : Network) (lengths : List ℕ) (old new : Row) : Type 0 where
  pub source : new.source ≡ old.source
  pub targets : new.targets ≡ old.targets
  pub filled : HasDistances net lengths new

-- the row is of the same source and targets, with as many numbers
pub record KeepsRoom (old new : Row) : Type 0 where
  pub source : new.source ≡ old.source
  pub targets : new.targets ≡ old.targets
  pub count : length new.values.items ≡ length old.values.items

-- the row gave up its numbers for as many others, and is blank
pub record HasGiven (old new : Row) : Type 0 where
  pub kept : KeepsRoom old new
  pub blank : new.is_filled ≡ false

-- what the rows are weighted with is the weighted distance of their potentials
abbrev pub AreWeighted : Network → List Row → Type 0
AreWeighted net rows = weight_of rows ≡ weighted_distance net.commodities (map (distance_of (potentials_of rows)) net.commodities)
