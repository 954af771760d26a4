-- What the reader keeps of the entries of a text: no lines of the words of places and modules, and no rows past the first one too many.
use Rattle.std.specs.Prelude.{ℕ, zero, ◌+◌, List, [], ◌∷◌, ◌++◌, length, map, take, find, Option, Some, None, nat_lt, if◌then◌else◌}
use Rattle.std.specs.List.{flat_map}
use Rattle.std.specs.Option.{option_map}
use Rattle.mcf_limits.specs.declared.TheConstants.{MAX_DEMANDS, MAX_LINKS, MAX_NODES}
use Rattle.sndlib_grammar.specs.declared.mode.Mode.{Mode}
use Rattle.sndlib_grammar.specs.declared.mode.Mode.TheVariants.{Skipping, Nodes, Node, Place, Links, LinkSource, LinkTarget, Installed, InstalledCost, RoutingCost, SetupCost, Modules, Capacity, CapacityCost, Demands, DemandSource, DemandTarget, Unit as Units, Value, Longest}
use Rattle.sndlib_grammar.specs.Grammar.{Word, Symbol, Left, Right, Name, NodeEntry, LinkEntry, DemandEntry, Entries}
use Rattle.sndlib_grammar.specs.Faults.{texts, or_else, line_of, is_bad, bad_module}
use Rattle.sndlib_grammar.specs.Reading.{Draft, Sofar, demand_of}
use Rattle.sndlib_grammar.specs.Rows.{module_words}
use Rattle.sndlib_rows.specs.Stored.{StoredNode, StoredLink}

pub record Stored : Type 0 where
  pub nodes : List StoredNode
  pub links : List StoredLink
  pub demands : List DemandEntry
  pub skipped : ℕ

-- the rows so far, and what was read of the next
pub record Partial : Type 0 where
  pub draft : Draft
  pub words : List (List ℕ)
  pub modules : List (List ℕ)
  pub bad : Option ℕ
  pub rows : Stored

-- ---- of entries

abbrev pub stored_node : NodeEntry → StoredNode
stored_node n = record { id = n.id; place = option_map texts n.place }

abbrev pub stored_link : LinkEntry → StoredLink
stored_link l = record {
  id = l.id;
  source = l.source;
  target = l.target;
  installed = l.installed;
  installed_cost = l.installed_cost;
  routing_cost = l.routing_cost;
  setup_cost = l.setup_cost;
  modules = flat_map module_words l.modules;
  bad = bad_module l.modules;
}

abbrev pub stored : Entries → Stored
stored e = record {
  nodes = take (MAX_NODES + 1) (map stored_node e.nodes);
  links = take (MAX_LINKS + 1) (map stored_link e.links);
  demands = take (MAX_DEMANDS + 1) e.demands;
  skipped = e.skipped;
}

abbrev pub partial : Sofar → Partial
partial s = record { draft = s.draft; words = texts s.words; modules = flat_map module_words s.modules; bad = bad_module s.modules; rows = stored s.entries }

-- ---- one token more

-- at the end of a list of fewer
abbrev pub add_below : {X : Type 0} → ℕ → List X → X → List X
add_below n xs x = if nat_lt (length xs) n then xs ++ x ∷ [] else xs

abbrev pub add_node : Stored → StoredNode → Stored
add_node r n = record r { nodes = add_below (MAX_NODES + 1) r.nodes n }

abbrev pub add_link : Stored → StoredLink → Stored
add_link r l = record r { links = add_below (MAX_LINKS + 1) r.links l }

abbrev pub add_demand : Stored → DemandEntry → Stored
add_demand r d = record r { demands = add_below (MAX_DEMANDS + 1) r.demands d }

abbrev pub link_from : Draft → List (List ℕ) → Option ℕ → StoredLink
link_from d modules bad = record { id = d.id; source = d.source; target = d.target; installed = d.first; installed_cost = d.second; routing_cost = d.third; setup_cost = d.fourth; modules = modules; bad = bad }

-- a module behind the others
abbrev pub add_module : Partial → Word → Partial
add_module p cost = record p {
  modules = (p.modules ++ p.draft.capacity.text ∷ []) ++ cost.text ∷ [];
  bad = or_else p.bad (line_of (find is_bad (p.draft.capacity ∷ [])));
}

abbrev pub put_left : Mode → Partial → Partial
put_left Node p = record p { words = [] }
put_left Modules p = record p { modules = []; bad = None }
put_left _ p = p

abbrev pub put_right : Mode → Partial → Partial
put_right (Skipping part zero) p = record p { rows = record p.rows { skipped = p.rows.skipped + 1 } }
put_right Node p = record p { rows = add_node p.rows (record { id = p.draft.id; place = None }) }
put_right Place p = record p { words = []; rows = add_node p.rows (record { id = p.draft.id; place = Some p.words }) }
put_right Capacity p = record p { modules = []; bad = None; rows = add_link p.rows (link_from p.draft p.modules p.bad) }
put_right _ p = p

abbrev pub put_word : Mode → Word → Partial → Partial
put_word Nodes w p = record p { draft = record p.draft { id = w } }
put_word Node w p = record p { draft = record p.draft { id = w }; rows = add_node p.rows (record { id = p.draft.id; place = None }) }
put_word Place w p = record p { words = p.words ++ w.text ∷ [] }
put_word Links w p = record p { draft = record p.draft { id = w } }
put_word LinkSource w p = record p { draft = record p.draft { source = w } }
put_word LinkTarget w p = record p { draft = record p.draft { target = w } }
put_word Installed w p = record p { draft = record p.draft { first = w } }
put_word InstalledCost w p = record p { draft = record p.draft { second = w } }
put_word RoutingCost w p = record p { draft = record p.draft { third = w } }
put_word SetupCost w p = record p { draft = record p.draft { fourth = w } }
put_word Capacity w p = record p { draft = record p.draft { capacity = w } }
put_word CapacityCost w p = add_module p w
put_word Demands w p = record p { draft = record p.draft { id = w } }
put_word DemandSource w p = record p { draft = record p.draft { source = w } }
put_word DemandTarget w p = record p { draft = record p.draft { target = w } }
put_word Units w p = record p { draft = record p.draft { first = w } }
put_word Value w p = record p { draft = record p.draft { second = w } }
put_word Longest w p = record p { rows = add_demand p.rows (demand_of p.draft w) }
put_word _ w p = p

abbrev pub put : Mode → Symbol → Partial → Partial
put m Left p = put_left m p
put m Right p = put_right m p
put m (Name w) p = put_word m w p
