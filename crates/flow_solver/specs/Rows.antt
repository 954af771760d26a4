-- The rows and the entries of some phases, which belong together.
use Rattle.std.specs.Prelude.{◌≡◌, ℕ, ◌*◌, ◌<◌, ◌≤◌, List, All, length, map, Some, slice_get}
use Rattle.flow_model.specs.Network.{Network}
use Rattle.flow_model.specs.Routing.{Row}
use Rattle.flow_paths.specs.PathRows.{row_at, HasPath}
use Rattle.flow_core.specs.Phase.{Routed}
use Rattle.solver_run.specs.declared.options.Entry.{Entry}
use Rattle.solver_run.specs.History.{routed_in, IsWeighed, NamesRows}

-- how many commodities there are, the path rows, and for each phase an entry for each commodity
pub record HistoryView : Type 0 where
  pub commodities : ℕ
  pub rows : List Row
  pub history : List (List Entry)

-- the entries of all phases, with their paths
abbrev pub phases_kept : HistoryView → List (List Routed)
phases_kept h = map (routed_in h.rows) h.history

-- this row is there, and is of this commodity and path
abbrev pub IsRowOf : List Row → ℕ → List ℕ → ℕ → Type 0
IsRowOf rows k path n = (n < length rows) × HasPath k path (row_at rows n)

-- no two rows are of one commodity and path
abbrev pub AreApart : List Row → Type 0
AreApart rows = (i j : ℕ) → i < j → j < length rows → ¬ (HasPath (row_at rows i).commodity (row_at rows i).walk (row_at rows j))

-- one row for each commodity and path that occurs, in any order
pub record AreRowsFor (net : Network) (history : List (List Entry)) (rows : List Row) : Type 0 where
  pub apart : AreApart rows
  pub entries : All (NamesRows net rows) history
  pub weighed : (n : ℕ) (row : Row) → slice_get rows n ≡ Some row → IsWeighed net history n row
  pub few : length rows ≤ length net.commodities * length history
