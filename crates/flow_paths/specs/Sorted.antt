-- Rows with what they are ordered by.
use Rattle.std.specs.Prelude.{◌≡◌, ℕ, ◌<◌, List, length, map}
use Rattle.flow_model.specs.Routing.{Row}
use Rattle.flow_paths.specs.PathRows.{row_at}
use Rattle.flow_paths.specs.declared.ordering.OrderedRow.{OrderedRow}

-- the commodity and the path are those of the row of that number
pub record IsOrderedRow (rows : List Row) (r : OrderedRow) : Type 0 where
  pub within : r.row < length rows
  pub commodity : r.commodity ≡ (row_at rows r.row).commodity
  pub path : r.path.now ≡ (row_at rows r.row).walk

-- their numbers
abbrev pub numbers_of : List OrderedRow → List ℕ
numbers_of rows = map (λ (r : OrderedRow). r.row) rows
