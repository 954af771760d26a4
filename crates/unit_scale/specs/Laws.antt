-- What holds of cells and their names.
use Rattle.std.specs.Prelude.{◌≡◌, ◌≢◌, ◌↔◌, ℕ, ◌<◌, List, length, Some, slice_get, slice_index}
use Rattle.unit_scale.specs.declared.modes.LinkMode.{LinkMode}
use Rattle.unit_scale.specs.declared.options.NetOptions.{NetOptions}
use Rattle.sndlib_grammar.specs.Rows.{NetRows, link_at}
use Rattle.unit_scale.specs.Scaling.{cell_going, capacity_in, net_of}
use Rattle.unit_scale.specs.declared.names.CellName.{CellName}
use Rattle.unit_scale.specs.Names.{cells_of, name_of, cell_of}
use Rattle.unit_scale.specs.Closed.{with_link}

-- cells and names are inverse
abbrev pub NamesAreInverse : Type 0
NamesAreInverse = (mode : LinkMode) (cell : ℕ) (name : CellName)
    → (name_of mode cell ≡ name) ↔ (cell_of mode name ≡ Some cell)

-- the cells of the network of rows are as many as their links have, and each is that of the link and the sign that its name gives
abbrev pub CellsAreNamed : Type 0
CellsAreNamed = (o : NetOptions) (s : ℕ) (rows : NetRows)
    → (length (net_of o s rows).cells ≡ cells_of o.links (length rows.links))
    × ((cell : ℕ) → cell < cells_of o.links (length rows.links)
    → let name = name_of o.links cell in let link = link_at rows name.link in
    slice_get (net_of o s rows).cells cell ≡ Some (cell_going link.source link.target (capacity_in o s link) name.sign))

-- a link's new capacity stands at each cell of the link, and every other cell keeps its own
abbrev pub LinkIsSet : Type 0
LinkIsSet = (mode : LinkMode) (caps : List ℕ) (link cap cell : ℕ) → cell < length caps
    → (((name_of mode cell).link ≡ link) → slice_index (with_link mode caps link cap) cell ≡ cap)
    × (((name_of mode cell).link ≢ link) → slice_index (with_link mode caps link cap) cell ≡ slice_index caps cell)
