-- The cells of a network of rows, by their names.
use Rattle.std.proofs.Common.{◌≡◌, ℕ, ◌/◌, ◌%◌, ◌<◌, List, length, get_or, map, Some, ap, sym, ◌∙◌}
use Rattle.std.specs.List.{flat_map, slice_get}
use Rattle.std.proofs.lemmas.List.{length-map}
use Rattle.std.proofs.lemmas.Option.{slice_get-map, slice_get-get_or}
use Rattle.std.specs.Option.{option_map}
use Rattle.unit_scale.specs.Modes.{signs}
use Rattle.unit_scale.specs.declared.modes.Sign.{Sign}
use Rattle.unit_scale.specs.declared.modes.Sign.TheVariants.{Along}
use Rattle.unit_scale.specs.declared.options.NetOptions.{NetOptions}
use Rattle.sndlib_grammar.specs.Rows.{NetLink, NetRows, link_at, no_link}
use Rattle.unit_scale.specs.Scaling.{cell_going, capacity_in, cells_of_link, net_of}
use Rattle.unit_scale.specs.Names.{per, cells_of, name_of}
use Rattle.unit_scale.proofs.Parts.{parts_length, part_at}
use Rattle.unit_scale.proofs.CellNumbers.{number_from, place_below, link_below}

-- a link has as many cells as there are ways to go over it
pub link_count : (o : NetOptions) (s : ℕ) (l : NetLink) → length (cells_of_link o s l) ≡ per o.links
link_count o s l = length-map (signs o.links) (cell_going l.source l.target (capacity_in o s l))

pub cells_counted : (o : NetOptions) (s : ℕ) (rows : NetRows) → length (net_of o s rows).cells ≡ cells_of o.links (length rows.links)
cells_counted o s rows = parts_length (cells_of_link o s) (per o.links) (link_count o s) rows.links

-- the cell of a link at a place among the link's own
going_at : (source target cap : ℕ) (ways : List Sign) (place : ℕ) → place < length ways
    → slice_get (map (cell_going source target cap) ways) place ≡ Some (cell_going source target cap (get_or ways place Along))
going_at source target cap ways place h =
    slice_get-map (cell_going source target cap) ways place
    ∙ ap (option_map (cell_going source target cap)) (slice_get-get_or ways place Along h)

pub cell_named : (o : NetOptions) (s : ℕ) (rows : NetRows) (cell : ℕ) → cell < cells_of o.links (length rows.links)
    → let name = name_of o.links cell in let link = link_at rows name.link in
    slice_get (net_of o s rows).cells cell ≡ Some (cell_going link.source link.target (capacity_in o s link) name.sign)
cell_named o s rows cell h =
    let mode = o.links in
    let l = link_at rows (cell / per mode) in
    let place = place_below mode cell in
    ap (slice_get (flat_map (cells_of_link o s) rows.links)) (sym (number_from mode cell))
    ∙ part_at (cells_of_link o s) (per mode) (link_count o s) rows.links (cell / per mode) (cell % per mode) no_link (link_below mode (length rows.links) cell h) place
    ∙ going_at l.source l.target (capacity_in o s l) (signs mode) (cell % per mode) place
