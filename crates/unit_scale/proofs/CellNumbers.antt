-- Cells by number and by name.
use Rattle.std.proofs.Common.{◌≡◌, ℕ, ◌+◌, ◌*◌, ◌/◌, ◌%◌, ◌<◌, arith}
use Rattle.unit_scale.specs.declared.modes.LinkMode.{LinkMode}
use Rattle.unit_scale.specs.declared.modes.LinkMode.TheVariants.{Directed, Undirected, Bidirected}
use Rattle.unit_scale.specs.Names.{per, cells_of}

-- the number of the cell at that place among those of its link
pub link_from : (mode : LinkMode) (link place : ℕ) → place < per mode → (per mode * link + place) / per mode ≡ link
link_from Directed link place h = omega arith
link_from Undirected link place h = omega arith
link_from Bidirected link place h = omega arith

pub place_from : (mode : LinkMode) (link place : ℕ) → place < per mode → (per mode * link + place) % per mode ≡ place
place_from Directed link place h = omega arith
place_from Undirected link place h = omega arith
place_from Bidirected link place h = omega arith

pub number_from : (mode : LinkMode) (cell : ℕ) → per mode * (cell / per mode) + cell % per mode ≡ cell
number_from Directed cell = omega arith
number_from Undirected cell = omega arith
number_from Bidirected cell = omega arith

pub place_below : (mode : LinkMode) (cell : ℕ) → cell % per mode < per mode
place_below Directed cell = omega arith
place_below Undirected cell = omega arith
place_below Bidirected cell = omega arith

-- a cell of so many links is of one of them
pub link_below : (mode : LinkMode) (links cell : ℕ) → cell < cells_of mode links → cell / per mode < links
link_below Directed links cell h = omega arith
link_below Undirected links cell h = omega arith
link_below Bidirected links cell h = omega arith

-- and each place of one of so many links is a cell of theirs
pub cell_below : (mode : LinkMode) (links link place : ℕ) → link < links → place < per mode → per mode * link + place < cells_of mode links
cell_below Directed links link place h l = omega arith
cell_below Undirected links link place h l = omega arith
cell_below Bidirected links link place h l = omega arith
