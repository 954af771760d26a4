-- The networks that are drawn from a seed.
use Rattle.std.specs.Prelude.{ℕ, ◌+◌, ◌-◌, ◌*◌, ◌%◌, ◌≤◌, nat_lt, ◌==◌, if◌then◌else◌, List, [], ◌∷◌, ◌++◌, map, None, codes, sum_by}
use Rattle.std.specs.List.{range_with_len}
use Rattle.std.specs.Fmt.{decimal}
use Rattle.mcf_limits.specs.declared.TheConstants.{MAX_DEMANDS, MAX_LINKS, MAX_NODES}
use Rattle.rand_pcg.specs.Lcg.{Lcg}
use Rattle.sndlib_grammar.specs.Rows.{NetNode, NetLink, NetDemand, NetRows}
use Rattle.sndlib_grammar.specs.Canonical.{canonical_text}
use Rattle.net_gen.specs.Draws.{generator_of, past, drawn_below}

-- how many nodes, links and demands a network may be drawn with
pub record AreCounts (nodes links demands : ℕ) : Type 0 where
  pub some_nodes : 2 ≤ nodes
  pub most_nodes : nodes ≤ MAX_NODES
  pub some_links : nodes ≤ links
  pub most_links : links ≤ MAX_LINKS
  pub some_demands : 1 ≤ demands
  pub most_demands : demands ≤ MAX_DEMANDS

-- two different nodes, by the next two words
abbrev pub drawn_ends : Lcg → ℕ → ℕ × ℕ
drawn_ends g nodes =
    let source = drawn_below g 0 nodes in
    (source, (source + 1 + drawn_below g 1 (nodes - 1)) % nodes)

-- ---- nodes

abbrev pub generated_node : ℕ → NetNode
generated_node i = record { id = codes "N" ++ decimal i; place = None }

-- the names of the nodes
abbrev pub generated_names : ℕ → List (List ℕ)
generated_names nodes = map (λ n. n.id) (map generated_node (range_with_len 0 nodes))

-- ---- links: first a ring, then links with drawn ends

-- how many words the ends of link i take: none in the ring, two where they are drawn
abbrev pub words_of_ends : ℕ → ℕ → ℕ
words_of_ends nodes i = if nat_lt i nodes then 0 else 2

-- and its capacity: none for the first link, one for each other
abbrev pub words_of_capacity : ℕ → ℕ
words_of_capacity i = if i == 0 then 0 else 1

abbrev pub words_of_link : ℕ → ℕ → ℕ
words_of_link nodes i = words_of_ends nodes i + words_of_capacity i

-- how many words the links before link i take
abbrev pub words_before_link : ℕ → ℕ → ℕ
words_before_link nodes i = sum_by (words_of_link nodes) (range_with_len 0 i)

-- the ends of link i, whose words are next
abbrev pub link_ends : Lcg → ℕ → ℕ → ℕ × ℕ
link_ends g nodes i = if nat_lt i nodes then (i, (i + 1) % nodes) else drawn_ends g nodes

-- its capacity, whose word is behind those of its ends
abbrev pub link_capacity : Lcg → ℕ → ℕ → ℕ
link_capacity g nodes i = if i == 0 then 1000000000 else 1 + drawn_below g (words_of_ends nodes i) 1000

abbrev pub generated_link : Lcg → ℕ → ℕ → NetLink
generated_link g nodes i = record {
  id = codes "L" ++ decimal i;
  source = (link_ends g nodes i).0;
  target = (link_ends g nodes i).1;
  installed = decimal (link_capacity g nodes i);
  costs = codes "0" ∷ codes "0" ∷ codes "0" ∷ [];
  modules = [];
  line = 0;
}

-- each with the words behind those of the links before it
abbrev pub generated_links : Lcg → ℕ → ℕ → List NetLink
generated_links g nodes links = map (λ i. generated_link (past (words_before_link nodes i) g) nodes i) (range_with_len 0 links)

-- ---- demands: each by two words

abbrev pub generated_demand : Lcg → ℕ → ℕ → NetDemand
generated_demand g nodes i = record {
  id = codes "D" ++ decimal i;
  source = (drawn_ends g nodes).0;
  target = (drawn_ends g nodes).1;
  unit = codes "1";
  value = decimal (1 + i % 10);
  longest = codes "UNLIMITED";
  line = 0;
}

abbrev pub generated_demands : Lcg → ℕ → ℕ → List NetDemand
generated_demands g nodes demands = map (λ i. generated_demand (past (2 * i) g) nodes i) (range_with_len 0 demands)

-- ---- the whole network

-- the words of the demands are behind those of all links
abbrev pub generated_rows : ℕ → ℕ → ℕ → ℕ → NetRows
generated_rows seed nodes links demands = record {
  nodes = map generated_node (range_with_len 0 nodes);
  links = generated_links (generator_of seed) nodes links;
  demands = generated_demands (past (words_before_link nodes links) (generator_of seed)) nodes demands;
  skipped = 0;
  end_line = 0;
}

abbrev pub generated_text : ℕ → ℕ → ℕ → ℕ → List ℕ
generated_text seed nodes links demands = canonical_text (generated_rows seed nodes links demands)
