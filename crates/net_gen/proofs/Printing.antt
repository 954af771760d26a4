-- The drawn rows are as those of every text.
use Rattle.std.proofs.Common.{◌≡◌, ℕ, ◌+◌, ◌*◌, ◌%◌, ◌<◌, ◌≤◌, ◌^◌, [], ◌∷◌, length, map, Bool, true, false, refl, sym, arith, lit<, lit≤}
use Rattle.std.specs.Prelude.{codes, if◌then◌else◌, ◌==◌}
use Rattle.std.specs.List.{range_with_len}
use Rattle.std.proofs.lemmas.List.Elements.{All-from_recursion}
use Rattle.std.proofs.lemmas.List.FromFn.{length-map-range_with_len}
use Rattle.std.proofs.Math.Nat.{mod-lt}
use Rattle.rand_pcg.specs.Lcg.{Lcg}
use Rattle.sndlib_grammar.specs.Rows.{IsWord, NetLink, NetDemand, IsNetNode, IsNetLink, IsNetDemand}
use Rattle.sndlib_grammar.specs.Canonical.{ArePrintable, AreModules}
use Rattle.net_gen.specs.Draws.{generator_of, past, drawn, drawn_below}
use Rattle.net_gen.specs.Generated.{AreCounts, generated_node, generated_link, generated_demand, generated_rows, link_capacity, words_of_ends, words_before_link}
use Rattle.net_gen.proofs.Drawing.{ends_are_nodes, drawn_are_nodes}
use Rattle.net_gen.proofs.WordFacts.{decimal_word, name_word, decimal_number, all_rows, distinct_names}

zero_word : IsWord (codes "0")
zero_word = record { some = lit< tt; short = lit≤ tt; bytes = refl }

one_word : IsWord (codes "1")
one_word = record { some = lit< tt; short = lit≤ tt; bytes = refl }

unlimited_word : IsWord (codes "UNLIMITED")
unlimited_word = record { some = lit< tt; short = lit≤ tt; bytes = refl }

either_small : (t : Bool) (drew : ℕ) → drew < 1000 → (if t then 1000000000 else 1 + drew) < 10 ^ 12
either_small true drew small = lit< tt
either_small false drew small = omega arith

pub small_capacity : (g : Lcg) (nodes i : ℕ) → link_capacity g nodes i < 10 ^ 12
small_capacity g nodes i = either_small (i == 0) (drawn_below g (words_of_ends nodes i) 1000) (mod-lt (drawn g (words_of_ends nodes i)) (lit< tt))

node_sound : (i : ℕ) → i < 10 ^ 12 → IsNetNode (generated_node i)
node_sound i small = record { id = name_word 78 i refl small; place = tt }

link_sound : (g : Lcg) (nodes count i : ℕ) → 2 ≤ nodes → nodes ≡ count → i < 10 ^ 12 → IsNetLink count (generated_link g nodes i)
link_sound g nodes count i some same small =
    let ends = ends_are_nodes g nodes i some in
    record {
      id = name_word 76 i refl small;
      source = omega (arith, ends.0);
      target = omega (arith, ends.1);
      installed = decimal_word (link_capacity g nodes i) (small_capacity g nodes i);
      costs = All-from_recursion IsWord (codes "0" ∷ codes "0" ∷ codes "0" ∷ []) (zero_word, (zero_word, (zero_word, tt)));
      cost_count = refl;
      modules = All-from_recursion IsWord [] tt;
      number = decimal_number (link_capacity g nodes i) (small_capacity g nodes i);
    }

demand_sound : (g : Lcg) (nodes count i : ℕ) → 2 ≤ nodes → nodes ≡ count → i < 10 ^ 12 → IsNetDemand count (generated_demand g nodes i)
demand_sound g nodes count i some same small =
    let ends = drawn_are_nodes g nodes some in
    let value : 1 + i % 10 < 10 ^ 12 = omega arith in
    record {
      id = name_word 68 i refl small;
      source = omega (arith, ends.0);
      target = omega (arith, ends.1);
      unit = one_word;
      value = decimal_word (1 + i % 10) value;
      longest = unlimited_word;
      unit_number = refl;
      value_number = decimal_number (1 + i % 10) value;
      longest_number = refl;
    }

pub rows_printable : (seed nodes links demands : ℕ) → AreCounts nodes links demands → ArePrintable (generated_rows seed nodes links demands)
rows_printable seed nodes links demands are =
    let g = generator_of seed in
    let h = past (words_before_link nodes links) g in
    let link_of : ℕ → NetLink = λ i. generated_link (past (words_before_link nodes i) g) nodes i in
    let demand_of : ℕ → NetDemand = λ i. generated_demand (past (2 * i) h) nodes i in
    let n_count = length-map-range_with_len generated_node 0 nodes in
    let l_count = length-map-range_with_len link_of 0 links in
    let d_count = length-map-range_with_len demand_of 0 demands in
    record {
      sound = record {
        node_count = omega (arith, n_count, are.most_nodes);
        link_count = omega (arith, l_count, are.most_links);
        demand_count = omega (arith, d_count, are.most_demands);
        node_names = distinct_names (λ n. n.id) generated_node 78 nodes (omega (arith, are.most_nodes)) (λ i. refl);
        link_names = distinct_names (λ l. l.id) link_of 76 links (omega (arith, are.most_links)) (λ i. refl);
        demand_names = distinct_names (λ d. d.id) demand_of 68 demands (omega (arith, are.most_demands)) (λ i. refl);
        nodes = all_rows IsNetNode generated_node nodes (λ i lt. node_sound i (omega (arith, are.most_nodes)));
        links = all_rows (IsNetLink (length (map generated_node (range_with_len 0 nodes)))) link_of links (λ i lt. link_sound (past (words_before_link nodes i) g) nodes _ i are.some_nodes (sym n_count) (omega (arith, are.most_links)));
        demands = all_rows (IsNetDemand (length (map generated_node (range_with_len 0 nodes)))) demand_of demands (λ i lt. demand_sound (past (2 * i) h) nodes _ i are.some_nodes (sym n_count) (omega (arith, are.most_demands)));
      };
      modules = all_rows (λ l. AreModules l.modules) link_of links (λ i lt. tt);
    }
