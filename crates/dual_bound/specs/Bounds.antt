-- The dual of given lengths, and that of a cut.
use Rattle.std.specs.Prelude.{◌≡◌, ◌⊎◌, ℕ, ◌+◌, ◌<◌, ◌≤◌, ◌==◌, count_by, if◌then◌else◌, List, [], ◌∷◌, All, Option, length, map, slice_index}
use Rattle.std.specs.Option.{option_map_or}
use Rattle.flow_model.specs.declared.net.Cell.{Cell}
use Rattle.flow_model.specs.Network.{Network}
use Rattle.flow_model.specs.Groups.{group_sources}
use Rattle.flow_model.specs.Least.{IsJoined, IsCutOff, IsLeast, far_or}
use Rattle.flow_model.specs.declared.net.Commodity.{Commodity}
use Rattle.flow_model.specs.Bound.{weighted_distance}
use Rattle.flow_paths.specs.DualRows.{Length, Potential, DualRows}
use Rattle.flow_paths.specs.Certificate.{CellsHaveLengths, SourcesHaveRows, RowsArePotentials, DistanceDivides, IsPotentialOf, distances_in, lengths_in, upper_of}
use Rattle.flow_paths.specs.Evaluation.{fraction_le}
use Rattle.dual_bound.specs.declared.bounds.Bounded.{Bounded}
use Rattle.mcf_limits.specs.declared.TheConstants.{MAX_LENGTH}

-- a row for each length, the cells numbered from c on
abbrev pub length_rows : ℕ → List ℕ → List Length
length_rows c [] = []
length_rows c (value ∷ values) = record { cell = c; value = value } ∷ length_rows (c + 1) values

-- the row has a potential for each node, of which the fact holds
pub record IsRowWith (nodes : ℕ) (P : ℕ → ℕ → ℕ → Type 0) (row : Potential) : Type 0 where
  pub count : length row.values ≡ nodes
  pub each : (v : ℕ) → v < nodes → P row.node v (slice_index row.values v)

-- these lengths in order of cells, and a row for each source, ascending, with potentials of which the fact holds
pub record IsDualWith (net : Network) (lengths : List ℕ) (P : ℕ → ℕ → ℕ → Type 0) (dual : DualRows) : Type 0 where
  pub lengths_are : dual.lengths ≡ length_rows 0 lengths
  pub sources : map (λ (r : Potential). r.node) dual.potentials ≡ group_sources net
  pub potentials : All (IsRowWith net.nodes P) dual.potentials

-- the length of a least walk over positive cells, or 2 ^ 62 where there is no walk
abbrev pub IsDistance : List Cell → List ℕ → ℕ → ℕ → ℕ → Type 0
IsDistance cells lengths u v potential = (d : Option ℕ) × IsLeast cells lengths u v d × (potential ≡ far_or d)

-- the dual with these lengths and with least lengths as potentials
abbrev pub IsBoundOf : Network → List ℕ → DualRows → Type 0
IsBoundOf net lengths dual = IsDualWith net lengths (IsDistance net.cells lengths) dual

-- 1 for a cell without capacity, 0 for every other
abbrev pub cut_lengths : List Cell → List ℕ
cut_lengths cells = map (λ (cell : Cell). if cell.cap == 0 then 1 else 0) cells

-- 0 for a node that is reached over positive cells, 1 for every other
abbrev pub IsCutPotential : List Cell → ℕ → ℕ → ℕ → Type 0
IsCutPotential cells u v potential = (IsJoined cells u v × (potential ≡ 0)) ⊎ (IsCutOff cells u v × (potential ≡ 1))

-- the dual of a network with a cut
abbrev pub IsCutDual : Network → DualRows → Type 0
IsCutDual net dual = IsDualWith net (cut_lengths net.cells) (IsCutPotential net.cells) dual

-- the dual meets the conditions of a certificate, and its lengths are these
pub record ShowsBound (net : Network) (given : List ℕ) (dual : DualRows) : Type 0 where
  pub lengths_are : lengths_in net dual ≡ given
  pub cells : CellsHaveLengths net dual
  pub sources : SourcesHaveRows net dual
  pub potentials : RowsArePotentials net dual
  pub distance : DistanceDivides net dual
  pub numbers : All (λ r. r.cell < length net.cells) dual.lengths
  pub rows : All (IsPotentialOf net) dual.potentials

-- the value of the dual can be taken
pub record CanDivide (net : Network) (given : List ℕ) (dual : DualRows) : Type 0 where
  pub lengths_are : lengths_in net dual ≡ given
  pub sizes : length given ≡ length net.cells
  pub size_limit : All (λ n. n ≤ MAX_LENGTH) given
  pub named : All (λ r. r.node < net.nodes) dual.potentials
  pub once : (v : ℕ) → v < net.nodes → count_by (λ r. r.node == v) dual.potentials ≤ 1
  pub sources : All (λ (k : Commodity). count_by (λ r. r.node == k.from) dual.potentials ≡ 1) net.commodities
  pub wide : All (λ r. length r.values ≡ net.nodes) dual.potentials
  pub positive : 1 ≤ weighted_distance net.commodities (distances_in net dual)

-- the bound of these lengths, with its value
abbrev pub IsBounded : Network → List ℕ → Bounded → Type 0
IsBounded net lengths b = IsBoundOf net lengths b.dual × ShowsBound net lengths b.dual × (b.value ≡ upper_of net b.dual)

-- the earlier bound, where there is one and the later is not less; else the later
abbrev pub lesser : Option Bounded → Bounded → Bounded
lesser earlier later = option_map_or (λ e. if fraction_le e.value later.value then e else later) earlier later

-- the smaller of an earlier bound, if there is one, and that of these lengths
abbrev pub IsLesser : Network → List ℕ → Option Bounded → Bounded → Type 0
IsLesser net lengths earlier b = (later : Bounded) × IsBounded net lengths later × (b ≡ lesser earlier later)
