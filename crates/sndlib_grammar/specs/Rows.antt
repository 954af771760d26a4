-- The rows of a network: what the entries of a text say, with its nodes by their numbers.
use Rattle.std.specs.Prelude.{◌≡◌, ◌≢◌, ℕ, ◌<◌, ◌≤◌, true, ◌||◌, List, [], ◌∷◌, length, map, Option, None, codes, slice_index_or, All, IfSome}
use Rattle.std.specs.List.{AllPairs, flat_map, list_all, position_or_len}
use Rattle.std.specs.Option.{option_map}
use Rattle.std.specs.Str.{bytes_eq}
use Rattle.mcf_limits.specs.declared.TheConstants.{MAX_DEMANDS, MAX_LINKS, MAX_NODES, MAX_WORD_BYTES}
use Rattle.sndlib_grammar.specs.Tokens.{is_word_byte}
use Rattle.sndlib_grammar.specs.Number.{is_number}
use Rattle.sndlib_grammar.specs.Grammar.{Word, Module, NodeEntry, LinkEntry, DemandEntry, Entries}
use Rattle.sndlib_grammar.specs.Faults.{node_ids, texts}

-- a node: its id, and the words of its place where there is one
pub record NetNode : Type 0 where
  pub id : List ℕ
  pub place : Option (List (List ℕ))

-- a link: its id, the numbers of its ends, its pre-installed capacity, its costs (of what is installed, of routing, of the setup),
-- its modules (a capacity and a cost in turn), and the line of its id
pub record NetLink : Type 0 where
  pub id : List ℕ
  pub source : ℕ
  pub target : ℕ
  pub installed : List ℕ
  pub costs : List (List ℕ)
  pub modules : List (List ℕ)
  pub line : ℕ

-- a demand: its id, the numbers of its ends, its words, and the line of its id
pub record NetDemand : Type 0 where
  pub id : List ℕ
  pub source : ℕ
  pub target : ℕ
  pub unit : List ℕ
  pub value : List ℕ
  pub longest : List ℕ
  pub line : ℕ

-- the rows of a network text, the number of its skipped sections, and the line of its end
pub record NetRows : Type 0 where
  pub nodes : List NetNode
  pub links : List NetLink
  pub demands : List NetDemand
  pub skipped : ℕ
  pub end_line : ℕ

-- ---- from entries to rows

-- the number of the node of that name
abbrev pub node_number : List (List ℕ) → Word → ℕ
node_number known w = position_or_len (bytes_eq w.text) known

abbrev pub module_words : Module → List (List ℕ)
module_words m = m.capacity.text ∷ m.cost.text ∷ []

abbrev pub net_node : NodeEntry → NetNode
net_node n = record { id = n.id.text; place = option_map texts n.place }

abbrev pub net_link : List (List ℕ) → LinkEntry → NetLink
net_link known l = record {
  id = l.id.text;
  source = node_number known l.source;
  target = node_number known l.target;
  installed = l.installed.text;
  costs = texts (l.installed_cost ∷ l.routing_cost ∷ l.setup_cost ∷ []);
  modules = flat_map module_words l.modules;
  line = l.id.line;
}

abbrev pub net_demand : List (List ℕ) → DemandEntry → NetDemand
net_demand known d = record {
  id = d.id.text;
  source = node_number known d.source;
  target = node_number known d.target;
  unit = d.unit.text;
  value = d.value.text;
  longest = d.longest.text;
  line = d.id.line;
}

-- the rows of the entries of a text that ends in this line
abbrev pub net_rows : ℕ → Entries → NetRows
net_rows end e = record {
  nodes = map net_node e.nodes;
  links = map (net_link (texts (node_ids e))) e.links;
  demands = map (net_demand (texts (node_ids e))) e.demands;
  skipped = e.skipped;
  end_line = end;
}

-- ---- rows by their numbers

abbrev pub no_node : NetNode
no_node = record { id = []; place = None }

abbrev pub no_link : NetLink
no_link = record { id = []; source = 0; target = 0; installed = []; costs = []; modules = []; line = 0 }

abbrev pub no_demand : NetDemand
no_demand = record { id = []; source = 0; target = 0; unit = []; value = []; longest = []; line = 0 }

-- the row of that number
abbrev pub node_at : NetRows → ℕ → NetNode
node_at rows i = slice_index_or rows.nodes i no_node

abbrev pub link_at : NetRows → ℕ → NetLink
link_at rows i = slice_index_or rows.links i no_link

abbrev pub demand_at : NetRows → ℕ → NetDemand
demand_at rows i = slice_index_or rows.demands i no_demand

-- the ids of the rows, in order
abbrev pub names_of_nodes : NetRows → List (List ℕ)
names_of_nodes rows = map (λ n. n.id) rows.nodes

abbrev pub names_of_links : NetRows → List (List ℕ)
names_of_links rows = map (λ l. l.id) rows.links

abbrev pub names_of_demands : NetRows → List (List ℕ)
names_of_demands rows = map (λ d. d.id) rows.demands

-- ---- what holds of the rows of every text

-- a word of a text: neither empty nor too long, without blanks, parentheses and `#`
pub record IsWord (w : List ℕ) : Type 0 where
  pub some : 0 < length w
  pub short : length w ≤ MAX_WORD_BYTES
  pub bytes : list_all is_word_byte w ≡ true

-- no two are the same
abbrev pub AreDistinct : List (List ℕ) → Type 0
AreDistinct names = AllPairs (λ a b. a ≢ b) names

pub record IsNetNode (n : NetNode) : Type 0 where
  pub id : IsWord n.id
  pub place : IfSome n.place (All IsWord)

-- words, ends that are nodes, and numbers where numbers are wanted
pub record IsNetLink (nodes : ℕ) (l : NetLink) : Type 0 where
  pub id : IsWord l.id
  pub source : l.source < nodes
  pub target : l.target < nodes
  pub installed : IsWord l.installed
  pub costs : All IsWord l.costs
  pub cost_count : length l.costs ≡ 3
  pub modules : All IsWord l.modules
  pub number : is_number l.installed ≡ true

pub record IsNetDemand (nodes : ℕ) (d : NetDemand) : Type 0 where
  pub id : IsWord d.id
  pub source : d.source < nodes
  pub target : d.target < nodes
  pub unit : IsWord d.unit
  pub value : IsWord d.value
  pub longest : IsWord d.longest
  pub unit_number : is_number d.unit ≡ true
  pub value_number : is_number d.value ≡ true
  pub longest_number : (bytes_eq d.longest (codes "UNLIMITED") || is_number d.longest) ≡ true

-- within the limits, no id twice in a section, and each row as it should be
pub record AreNetRows (rows : NetRows) : Type 0 where
  pub node_count : length rows.nodes ≤ MAX_NODES
  pub link_count : length rows.links ≤ MAX_LINKS
  pub demand_count : length rows.demands ≤ MAX_DEMANDS
  pub node_names : AreDistinct (names_of_nodes rows)
  pub link_names : AreDistinct (names_of_links rows)
  pub demand_names : AreDistinct (names_of_demands rows)
  pub nodes : All IsNetNode rows.nodes
  pub links : All (IsNetLink (length rows.nodes)) rows.links
  pub demands : All (IsNetDemand (length rows.nodes)) rows.demands
