-- A network that was read: its rows, and the numbers of their names.
use Rattle.std.specs.Prelude.{◌≡◌, ℕ, List}
use Rattle.std.specs.Arc.{arc_value}
use Rattle.sndlib_rows.specs.declared.net.RawNet.TheInside.{Inside}
use Rattle.sndlib_rows.specs.declared.part.NetPart.{NetPart}
use Rattle.sndlib_rows.specs.declared.row.DemandRow.{DemandRow}
use Rattle.sndlib_grammar.specs.Rows.{NetRows, names_of_demands, AreNetRows}
use Rattle.sndlib_rows.specs.Names.{names_of}
use Rattle.sndlib_rows.specs.Parts.{rows_with, IsNetPart}

abbrev pub rows_in : Inside → NetRows
rows_in n = rows_with (arc_value n.part) n.demands.items

-- the rows of both parts are sound, and what is kept beside them is theirs
pub record AreRawParts (p : NetPart) (demands : List DemandRow) (names : List (List ℕ)) : Type 0 where
  pub rows : AreNetRows (rows_with p demands)
  pub beside : IsNetPart p (rows_with p demands)
  pub demand_names : names ≡ names_of_demands (rows_with p demands)

abbrev pub IsRawNet : Inside → Type 0
IsRawNet n = AreRawParts (arc_value n.part) n.demands.items (names_of n.demand_names)
