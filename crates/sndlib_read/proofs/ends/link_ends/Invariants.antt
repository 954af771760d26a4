use Rattle.std.proofs.Common.{◌≡◌, take, drop}
use Rattle.std.specs.Prelude.{map}
use Rattle.sndlib_grammar.specs.Faults.{first_of}
use Rattle.sndlib_read.specs.Numbering.{unknown_of_stored}
use Rattle.sndlib_rows.specs.Numbering.{link_ends_of}
use Rattle.sndlib_rows.specs.Names.{names_of}
use Rattle.sndlib_rows.specs.Views.{link_view}
use Rattle.sndlib_read.proofs.ends.link_ends.Given as goal

abbrev pub invariant-loop-link : goal.invariant-loop-link
invariant-loop-link l =
    (first_of (unknown_of_stored (names_of l.names)) (map link_view (drop l.link-index l.links)) ≡ first_of (unknown_of_stored (names_of l.names)) (map link_view l.links))
    × (l.ends.items ≡ map (link_ends_of (names_of l.names)) (map link_view (take l.link-index l.links)))
