-- What is wrong with what is kept of entries, and the rows that it stands for.
use Rattle.std.specs.Prelude.{ℕ, List, [], ◌∷◌, map, find, Option, Some, None, Result, Ok, Err, slice_get}
use Rattle.mcf_limits.specs.declared.TheConstants.{MAX_DEMANDS, MAX_LINKS, MAX_NODES}
use Rattle.sndlib_grammar.specs.declared.refusal.NetKind.TheVariants as netkinds
use Rattle.sndlib_grammar.specs.declared.refusal.NetRefusal.{NetRefusal}
use Rattle.sndlib_grammar.specs.Grammar.{Word}
use Rattle.sndlib_grammar.specs.Faults.{texts, or_else, line_of, first_of, first_repeated, first_unknown, unknown_of_demand, is_bad, bad_of_demand, at_line}
use Rattle.sndlib_grammar.specs.Rows.{NetRows, net_demand}
use Rattle.sndlib_rows.specs.Stored.{StoredLink}
use Rattle.sndlib_rows.specs.Numbering.{node_of, link_of}
use Rattle.sndlib_read.specs.Stored.{Stored}

abbrev pub stored_nodes : Stored → List Word
stored_nodes r = map (λ n. n.id) r.nodes

abbrev pub stored_links : Stored → List Word
stored_links r = map (λ l. l.id) r.links

abbrev pub stored_demands : Stored → List Word
stored_demands r = map (λ d. d.id) r.demands

abbrev pub too_many_of : Stored → Option ℕ
too_many_of r = or_else (line_of (slice_get (stored_nodes r) MAX_NODES)) (or_else (line_of (slice_get (stored_links r) MAX_LINKS)) (line_of (slice_get (stored_demands r) MAX_DEMANDS)))

abbrev pub repeated_of : Stored → Option ℕ
repeated_of r = or_else (line_of (first_repeated [] (stored_nodes r))) (or_else (line_of (first_repeated [] (stored_links r))) (line_of (first_repeated [] (stored_demands r))))

abbrev pub unknown_of_stored : List (List ℕ) → StoredLink → Option ℕ
unknown_of_stored known l = first_unknown known (l.source ∷ l.target ∷ [])

abbrev pub unknown_of : Stored → Option ℕ
unknown_of r = or_else (first_of (unknown_of_stored (texts (stored_nodes r))) r.links) (first_of (unknown_of_demand (texts (stored_nodes r))) r.demands)

abbrev pub bad_of_stored : StoredLink → Option ℕ
bad_of_stored l = or_else (line_of (find is_bad (l.installed ∷ []))) l.bad

abbrev pub bad_of : Stored → Option ℕ
bad_of r = or_else (first_of bad_of_stored r.links) (first_of bad_of_demand r.demands)

abbrev pub stored_fault : Stored → Option NetRefusal
stored_fault r = or_else (at_line netkinds.TooMany (too_many_of r)) (or_else (at_line netkinds.Duplicate (repeated_of r)) (or_else (at_line netkinds.UnknownNode (unknown_of r)) (at_line netkinds.BadNumber (bad_of r))))

-- ---- rows

abbrev pub stored_rows : ℕ → Stored → NetRows
stored_rows end r = record {
  nodes = map node_of r.nodes;
  links = map (link_of (texts (stored_nodes r))) r.links;
  demands = map (net_demand (texts (stored_nodes r))) r.demands;
  skipped = r.skipped;
  end_line = end;
}

abbrev pub stored_judged : ℕ → Stored → Option NetRefusal → Result NetRows NetRefusal
stored_judged end r None = Ok (stored_rows end r)
stored_judged end r (Some f) = Err f
