-- The names of all sections.
use Rattle.std.specs.Prelude.{◌≡◌, Some, None, Result, Ok, Err}
use Rattle.sndlib_grammar.specs.declared.refusal.NetKind.TheVariants as netkinds
use Rattle.sndlib_grammar.specs.Faults.{texts, at_line}
use Rattle.sndlib_rows.specs.declared.refusal.ReadNetEnd.{ReadNetEnd}
use Rattle.sndlib_rows.specs.declared.refusal.ReadNetEnd.TheVariants.{Refused, Memory}
use Rattle.sndlib_rows.specs.Names.{names_of}
use Rattle.sndlib_read.specs.declared.names.Names.{Names}
use Rattle.sndlib_read.specs.Stored.{Stored}
use Rattle.sndlib_read.specs.Numbering.{stored_nodes, stored_links, stored_demands, repeated_of}

-- the names of all sections, each of which stands once; else the first that stands twice
abbrev pub AreAllNamed : Stored → Result Names ReadNetEnd → Type 0
AreAllNamed r (Ok names) = (repeated_of r ≡ None) × (names_of names.nodes ≡ texts (stored_nodes r)) × (names_of names.links ≡ texts (stored_links r)) × (names_of names.demands ≡ texts (stored_demands r))
AreAllNamed r (Err Memory) = Unit {0}
AreAllNamed r (Err (Refused f)) = at_line netkinds.Duplicate (repeated_of r) ≡ Some f
