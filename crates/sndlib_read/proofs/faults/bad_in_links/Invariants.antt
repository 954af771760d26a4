use Rattle.std.proofs.Common.{◌≡◌, drop}
use Rattle.std.specs.Prelude.{map}
use Rattle.sndlib_rows.specs.Views.{link_view}
use Rattle.sndlib_grammar.specs.Faults.{first_of}
use Rattle.sndlib_read.specs.Numbering.{bad_of_stored}
use Rattle.sndlib_read.proofs.faults.bad_in_links.Given as goal

abbrev pub invariant-loop-link : goal.invariant-loop-link
invariant-loop-link l = first_of bad_of_stored (map link_view (drop l.link-index l.links)) ≡ first_of bad_of_stored (map link_view l.links)
