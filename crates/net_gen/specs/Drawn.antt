-- The network that is drawn from a seed, in units.
use Rattle.std.specs.Prelude.{ℕ, ◌+◌, ◌*◌, ◌%◌, List, map}
use Rattle.std.specs.List.{flat_map, range_with_len}
use Rattle.flow_model.specs.declared.net.Cell.{Cell}
use Rattle.flow_model.specs.declared.net.Commodity.{Commodity}
use Rattle.flow_model.specs.Network.{Network}
use Rattle.unit_scale.specs.declared.modes.LinkMode.{LinkMode}
use Rattle.unit_scale.specs.declared.options.NetOptions.{NetOptions}
use Rattle.rand_pcg.specs.Lcg.{Lcg}
use Rattle.unit_scale.specs.Scaling.{ScaledNet, link_cells}
use Rattle.net_gen.specs.Draws.{generator_of, past}
use Rattle.net_gen.specs.Generated.{drawn_ends, link_ends, link_capacity, words_before_link}

-- the cells of link i, whose words are next
abbrev pub drawn_cells : LinkMode → Lcg → ℕ → ℕ → List Cell
drawn_cells mode g nodes i = link_cells mode (link_ends g nodes i).0 (link_ends g nodes i).1 (link_capacity g nodes i)

-- the commodity of demand i, whose words are next
abbrev pub drawn_commodity : Lcg → ℕ → ℕ → Commodity
drawn_commodity g nodes i = record { from = (drawn_ends g nodes).0; to = (drawn_ends g nodes).1; amount = 1 + i % 10 }

-- the cells of each link, and behind the words of all links a commodity for each demand
abbrev pub drawn_network : LinkMode → ℕ → ℕ → ℕ → ℕ → Network
drawn_network mode seed nodes links demands = record {
  nodes = nodes;
  cells = flat_map (λ i. drawn_cells mode (past (words_before_link nodes i) (generator_of seed)) nodes i)
      (range_with_len 0 links);
  commodities = map (λ i. drawn_commodity (past (2 * i) (past (words_before_link nodes links) (generator_of seed))) nodes i)
      (range_with_len 0 demands);
}

-- in whole numbers, with every demand kept
abbrev pub drawn_net : NetOptions → ℕ → ℕ → ℕ → ℕ → ScaledNet
drawn_net o seed nodes links demands = record {
  options = o;
  net = drawn_network o.links seed nodes links demands;
  decimals = 0;
  kept = range_with_len 0 demands;
  left = 0;
  hops = 0;
}
