-- The rows that what is kept stands for, and the numbers of their ends.
use Rattle.std.specs.Prelude.{ℕ, List, [], ◌∷◌}
use Rattle.sndlib_grammar.specs.Rows.{NetNode, NetLink, node_number}
use Rattle.sndlib_rows.specs.declared.ends.Ends.{Ends}
use Rattle.sndlib_rows.specs.Stored.{StoredNode, StoredLink}

abbrev pub node_of : StoredNode → NetNode
node_of n = record { id = n.id.text; place = n.place }

abbrev pub link_of : List (List ℕ) → StoredLink → NetLink
link_of known l = record {
  id = l.id.text;
  source = node_number known l.source;
  target = node_number known l.target;
  installed = l.installed.text;
  costs = l.installed_cost.text ∷ l.routing_cost.text ∷ l.setup_cost.text ∷ [];
  modules = l.modules;
  line = l.id.line;
}

-- the numbers of the ends
abbrev pub link_ends_of : List (List ℕ) → StoredLink → Ends
link_ends_of known l = record { source = node_number known l.source; target = node_number known l.target }
