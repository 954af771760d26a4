-- The cells of links by name: the number of a cell's link, and which way the cell goes over it.
use Rattle.std.specs.Prelude.{ℕ, ◌+◌, ◌*◌, ◌/◌, ◌%◌, length, Option, Some, None, slice_index_or}
use Rattle.std.specs.Option.{option_map}
use Rattle.unit_scale.specs.Modes.{signs}
use Rattle.unit_scale.specs.declared.modes.LinkMode.{LinkMode}
use Rattle.unit_scale.specs.declared.modes.LinkMode.TheVariants.{Directed, Undirected, Bidirected}
use Rattle.unit_scale.specs.declared.modes.Sign.{Sign}
use Rattle.unit_scale.specs.declared.modes.Sign.TheVariants.{Along, Against, Both}
use Rattle.unit_scale.specs.declared.names.CellName.{CellName}

-- the place of a sign among those of a link's cells, where it is one of them
abbrev pub sign_place : LinkMode → Sign → Option ℕ
sign_place Directed Along = Some 0
sign_place Undirected Both = Some 0
sign_place Bidirected Along = Some 0
sign_place Bidirected Against = Some 1
sign_place _ _ = None

-- how many cells a link has
abbrev pub per : LinkMode → ℕ
per mode = length (signs mode)

-- how many cells `links` links have
abbrev pub cells_of : LinkMode → ℕ → ℕ
cells_of mode links = per mode * links

-- the name of the cell of that number
abbrev pub name_of : LinkMode → ℕ → CellName
name_of mode cell = record { link = cell / per mode; sign = slice_index_or (signs mode) (cell % per mode) Along }

-- the number of the cell of that name, where the mode has such cells
abbrev pub cell_of : LinkMode → CellName → Option ℕ
cell_of mode name = option_map (λ place. per mode * name.link + place) (sign_place mode name.sign)
