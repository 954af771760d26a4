-- Cuts: a side of the network, what leaves it, who crosses from it, and the bound that follows.
use Rattle.std.specs.Prelude.{ℕ, ◌+◌, ◌&&◌, ◌||◌, not, Bool, List, [], ◌∷◌, filter, map, if◌then◌else◌}
use Rattle.std.specs.List.{sum_by, range_with_len}
use Rattle.flow_model.specs.declared.net.Cell.{Cell}
use Rattle.flow_model.specs.declared.net.Commodity.{Commodity}
use Rattle.flow_model.specs.Network.{Network}
use Rattle.flow_model.specs.Groups.{group_sources}
use Rattle.gap_fraction.specs.Fraction.{Fraction}
use Rattle.flow_paths.specs.DualRows.{Length, Potential, DualRows}

-- which nodes are on a side of a cut; the others are beyond
abbrev pub Side : Type 0
Side = ℕ → Bool

-- from the first node, on the side, to the second, beyond it
abbrev pub goes_out : Side → ℕ → ℕ → Bool
goes_out side u v = side u && not (side v)

-- the cell can be gone over from the side to beyond
abbrev pub leaves : Side → Cell → Bool
leaves side cell = goes_out side cell.tail cell.head || (cell.both && goes_out side cell.head cell.tail)

-- the commodity starts on the side and ends beyond, or, where cells go both ways, the other way round
abbrev pub crosses : Bool → Side → Commodity → Bool
crosses both side k = goes_out side k.from k.to || (both && goes_out side k.to k.from)

-- the capacity of what leaves the side, over the amount of who crosses
abbrev pub cut_value : Network → Bool → Side → Fraction
cut_value net both side = record {
  num = sum_by (λ (cell : Cell). cell.cap) (filter (leaves side) net.cells);
  den = sum_by (λ (k : Commodity). k.amount) (filter (crosses both side) net.commodities);
}

-- ---- the same as lengths and potentials

-- 1 for a cell that leaves the side, 0 for every other
abbrev pub side_lengths : Network → Side → List ℕ
side_lengths net side = map (λ (cell : Cell). if leaves side cell then 1 else 0) net.cells

-- a row for each length, the cells numbered from c on
abbrev pub length_rows : ℕ → List ℕ → List Length
length_rows c [] = []
length_rows c (value ∷ values) = record { cell = c; value = value } ∷ length_rows (c + 1) values

-- the potential of v in the row of a source: 1 beyond the side, for a source on it; for a source beyond it 1 on the side where
-- cells go both ways, else 0
abbrev pub side_potential : Bool → Side → ℕ → ℕ → ℕ
side_potential both side source v =
    if side source then (if side v then 0 else 1) else (if both && side v then 1 else 0)

-- the row of potentials of a source
abbrev pub side_row : Network → Bool → Side → ℕ → Potential
side_row net both side source =
    record { node = source; values = map (side_potential both side source) (range_with_len 0 net.nodes) }

-- the dual of the cut: a length for each cell in order, and a row for each source, ascending
abbrev pub cut_dual : Network → Bool → Side → DualRows
cut_dual net both side = record {
  lengths = length_rows 0 (side_lengths net side);
  potentials = map (side_row net both side) (group_sources net);
}
