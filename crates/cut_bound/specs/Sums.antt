-- What leaves many sides, by sums over cells.
use Rattle.std.specs.Prelude.{◌≡◌, ℕ, ◌+◌, ◌^◌, ◌<◌, ◌==◌, nat_le, nat_lt, ◌||◌, not, Bool, List, filter, length, max, min, slice_index, if◌then◌else◌}
use Rattle.std.specs.List.{sum_by}
use Rattle.flow_model.specs.declared.net.Cell.{Cell}
use Rattle.flow_model.specs.declared.net.Commodity.{Commodity}
use Rattle.cut_bound.specs.declared.sums.Arc.{Arc}
use Rattle.cut_bound.specs.declared.sums.Span.{Span}
use Rattle.cut_bound.specs.Cuts.{Side, leaves}

-- the capacity of what leaves the side
abbrev pub leaving : Side → List Cell → ℕ
leaving side cells = sum_by (λ (cell : Cell). cell.cap) (filter (leaves side) cells)

-- the capacities of all cells together
abbrev pub total_capacity : List Cell → ℕ
total_capacity cells = sum_by (λ (cell : Cell). cell.cap) cells

-- the commodity as a cell from its source to its target: it crosses a cut where that cell leaves the side
abbrev pub as_cell : Bool → Commodity → Cell
as_cell both k = record { tail = k.from; head = k.to; both = both; cap = k.amount }

-- ---- cuts round one node

-- the node alone, or all nodes but it
abbrev pub node_side : Bool → ℕ → Side
node_side into v = if into then (λ u. not (u == v)) else (λ u. u == v)

-- the cell's ends, exchanged for cuts into a node, and what it adds to the cut round each
abbrev pub arc_in : Bool → Cell → Arc
arc_in into cell = record {
  from = if into then cell.head else cell.tail;
  to = if into then cell.tail else cell.head;
  amount = if cell.tail == cell.head then 0 else cell.cap;
  back = if cell.both then (if cell.tail == cell.head then 0 else cell.cap) else 0;
}

-- what the cell adds to the cut round the node
abbrev pub node_part : Bool → ℕ → Cell → ℕ
node_part into v cell =
    (if (arc_in into cell).from == v then (arc_in into cell).amount else 0)
    + (if (arc_in into cell).to == v then (arc_in into cell).back else 0)

-- ---- fronts of nodes by rank

-- the nodes whose rank is below j
abbrev pub rank_front : (ℕ → ℕ) → ℕ → Side
rank_front rank j = λ v. nat_lt (rank v) j

-- the ranks of the cell's ends, and what it adds to the fronts that have the lower and not the higher
abbrev pub span_in : (ℕ → ℕ) → Cell → Span
span_in rank cell = record {
  low = min (rank cell.tail) (rank cell.head);
  high = max (rank cell.tail) (rank cell.head);
  amount = if nat_le (rank cell.tail) (rank cell.head) || cell.both then cell.cap else 0;
}

-- what begins at rank p
abbrev pub starting : (ℕ → ℕ) → ℕ → List Cell → ℕ
starting rank p cells = sum_by (λ cell. if (span_in rank cell).low == p then (span_in rank cell).amount else 0) cells

-- what ends at rank p
abbrev pub ending : (ℕ → ℕ) → ℕ → List Cell → ℕ
ending rank p cells = sum_by (λ cell. if (span_in rank cell).high == p then (span_in rank cell).amount else 0) cells

-- numbers from 0 on, each of which comes from the one before by what begins there and what ends there
pub record AreSteps (level : ℕ → ℕ) (starts ends : List ℕ) : Type 0 where
  pub first : level 0 ≡ 0
  pub next : (j : ℕ) → j < length starts → level j + slice_index starts j ≡ level (j + 1) + slice_index ends j
  pub small : (j : ℕ) → j < length starts → level j + slice_index starts j < 2 ^ 64
