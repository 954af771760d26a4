-- What is drawn is a network, of the counts that were asked for.
use Rattle.std.proofs.Common.{◌≡◌, ℕ, ◌+◌, ◌*◌, ◌%◌, ◌≤◌, List, [], ◌∷◌, length, map, refl, sym, ap, subst, ◌∙◌, arith}
use Rattle.std.specs.List.{range_with_len, sum_by}
use Rattle.std.proofs.lemmas.List.FromFn.{length-range_with_len, length-map-range_with_len}
use Rattle.std.proofs.lemmas.List.{length-map}
use Rattle.std.proofs.lemmas.List.Sums.{sum_by-cons}
use Rattle.flow_model.specs.declared.net.Cell.{Cell}
use Rattle.flow_model.specs.declared.net.Commodity.{Commodity}
use Rattle.flow_model.specs.Network.{IsNetwork}
use Rattle.unit_scale.specs.Modes.{signs}
use Rattle.unit_scale.specs.declared.modes.LinkMode.{LinkMode}
use Rattle.unit_scale.specs.declared.modes.ModuleMode.TheVariants.{Ignore}
use Rattle.unit_scale.specs.declared.options.NetOptions.{NetOptions}
use Rattle.unit_scale.specs.Scaling.{net_of, cell_going}
use Rattle.unit_scale.specs.Sizes.{AreDecimals, sizes}
use Rattle.unit_scale.proofs.NetworkFacts.{network_ok}
use Rattle.unit_scale.proofs.WholeScaling.{decimals_are}
use Rattle.unit_scale.specs.Names.{per, cells_of}
use Rattle.unit_scale.proofs.Parts.{parts_length}
use Rattle.net_gen.specs.Draws.{generator_of, past}
use Rattle.net_gen.specs.Generated.{AreCounts, generated_node, generated_rows, link_ends, link_capacity, words_before_link}
use Rattle.net_gen.proofs.Printing.{rows_printable}
use Rattle.net_gen.specs.Drawn.{drawn_cells, drawn_commodity, drawn_network}
use Rattle.net_gen.proofs.Each.{small_links, small_demands}
use Rattle.net_gen.proofs.Accepted.{drawn_whole, no_decimals, cells_drawn, commodities_drawn}

abbrev cells_row : LinkMode → ℕ → ℕ → ℕ → List Cell
cells_row mode seed nodes i = drawn_cells mode (past (words_before_link nodes i) (generator_of seed)) nodes i

link_count : (mode : LinkMode) (seed nodes i : ℕ) → length (cells_row mode seed nodes i) ≡ per mode
link_count mode seed nodes i =
    let g = past (words_before_link nodes i) (generator_of seed) in
    length-map (signs mode) (cell_going (link_ends g nodes i).0 (link_ends g nodes i).1 (link_capacity g nodes i))

pub cells_count : (mode : LinkMode) (seed nodes links demands : ℕ) → length (drawn_network mode seed nodes links demands).cells ≡ cells_of mode links
cells_count mode seed nodes links demands =
    parts_length (cells_row mode seed nodes) (per mode) (link_count mode seed nodes) (range_with_len 0 links)
    ∙ ap (λ (n : ℕ). per mode * n) (length-range_with_len 0 links)

abbrev commodity_row : ℕ → ℕ → ℕ → ℕ → Commodity
commodity_row seed nodes links i = drawn_commodity (past (2 * i) (past (words_before_link nodes links) (generator_of seed))) nodes i

pub commodities_count : (mode : LinkMode) (seed nodes links demands : ℕ) → length (drawn_network mode seed nodes links demands).commodities ≡ demands
commodities_count mode seed nodes links demands = length-map-range_with_len (commodity_row seed nodes links) 0 demands

mapped_sum : {X : Type 0} (f : X → ℕ) (row : ℕ → X) (is : List ℕ) → sum_by f (map row is) ≡ sum_by (λ i. f (row i)) is
mapped_sum f row [] = refl
mapped_sum f row (i ∷ is) = sum_by-cons f (row i) (map row is) ∙ ap (λ (n : ℕ). f (row i) + n) (mapped_sum f row is) ∙ sym (sum_by-cons (λ j. f (row j)) i is)

pub amounts_are : (mode : LinkMode) (seed nodes links demands : ℕ) → sum_by (λ k. k.amount) (drawn_network mode seed nodes links demands).commodities ≡ sum_by (λ i. 1 + i % 10) (range_with_len 0 demands)
amounts_are mode seed nodes links demands = mapped_sum (λ k. k.amount) (commodity_row seed nodes links) (range_with_len 0 demands)

pub drawn_is_network : (mode : LinkMode) (seed nodes links demands : ℕ) → AreCounts nodes links demands → IsNetwork (drawn_network mode seed nodes links demands)
drawn_is_network mode seed nodes links demands are =
    let o : NetOptions = record { links = mode; modules = Ignore } in
    let rows = generated_rows seed nodes links demands in
    let w = drawn_whole Ignore seed nodes links demands are in
    let decimals : AreDecimals (sizes Ignore rows) 0 = subst (AreDecimals (sizes Ignore rows)) (no_decimals Ignore rows w) (decimals_are (sizes Ignore rows)) in
    let ks = commodities_drawn o seed nodes links demands are in
    let some : 1 ≤ length (net_of o 0 rows).commodities = omega (arith, ap (length {A = Commodity}) ks, commodities_count mode seed nodes links demands, are.some_demands) in
    let net = network_ok rows o 0 (rows_printable seed nodes links demands are).sound decimals (small_links Ignore rows.links w.links) (small_demands rows.demands 0 w.demands (omega (arith, w.few))) some in
    let node_count : length rows.nodes ≡ nodes = length-map-range_with_len generated_node 0 nodes in
    let same : net_of o 0 rows ≡ drawn_network mode seed nodes links demands = rw (node_count, cells_drawn o seed nodes links demands, ks) refl in
    subst IsNetwork same net
