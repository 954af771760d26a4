-- Partial routings, which carry at most every amount, and the bound on their total.
use Rattle.std.specs.Prelude.{◌≡◌, ℕ, ◌+◌, ◌-◌, ◌*◌, ◌≤◌, List, All, map, Some, slice_get}
use Rattle.std.specs.List.{sum_by}
use Rattle.flow_model.specs.declared.net.Cell.{Cell}
use Rattle.flow_model.specs.declared.net.Commodity.{Commodity}
use Rattle.flow_model.specs.Network.{Network}
use Rattle.flow_model.specs.Routing.{Row, carried, load_of, Joins}
use Rattle.flow_model.specs.Bound.{volume, weighted_distance}
use Rattle.gap_fraction.specs.Fraction.{Fraction}
use Rattle.flow_paths.specs.declared.certificate.Routing.{Routing}
use Rattle.flow_paths.specs.Certificate.{lengths_in, distances_in}
use Rattle.throughput.specs.declared.part_proof.PartDual.{PartDual}

-- the weights, over q, carry at most every amount within every capacity
pub record IsPartial (net : Network) (rows : List Row) (q : ℕ) : Type 0 where
  pub parts : 1 ≤ q
  pub walks : All (Joins net) rows
  pub carried : (k : ℕ) (commodity : Commodity) → slice_get net.commodities k ≡ Some commodity → carried rows k ≤ q * commodity.amount
  pub within : (c : ℕ) (cell : Cell) → slice_get net.cells c ≡ Some cell → load_of rows c ≤ q * cell.cap

-- all that the rows carry
abbrev pub total_of : List Row → ℕ
total_of rows = sum_by (λ row. row.weight) rows

-- what the threshold has above each distance
abbrev pub excess : ℕ → List ℕ → List ℕ
excess threshold distances = map (λ distance. threshold - distance) distances

-- volume, and amount times excess over all commodities: over the threshold it bounds the total
abbrev pub part_volume : Network → ℕ → List ℕ → List ℕ → ℕ
part_volume net threshold lengths distances = volume net.cells lengths + weighted_distance net.commodities (excess threshold distances)

-- the total of the routing
abbrev pub part_lower_of : Routing → Fraction
part_lower_of r = record { num = total_of r.paths * r.scale_cap; den = r.scale_load }

-- the bound on the total
abbrev pub part_upper_of : Network → PartDual → Fraction
part_upper_of net b = record { num = part_volume net b.threshold (lengths_in net b.dual) (distances_in net b.dual); den = b.threshold }
