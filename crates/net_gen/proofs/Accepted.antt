-- The rows of a drawn text are scaled to the network that was drawn.
use Rattle.std.proofs.Common.{◌≡◌, ◌≢◌, ℕ, suc, ◌+◌, ◌*◌, ◌%◌, ◌<◌, ◌≤◌, ◌^◌, Bool, true, false, List, [], ◌∷◌, length, map, refl, sym, ap, subst, ◌∙◌, arith, lit≤}
use Rattle.std.specs.Prelude.{◌==◌, None, Result, Ok, Err, if◌then◌else◌}
use Rattle.std.specs.List.{list_all, flat_map, filter_map, range_with_len}
use Rattle.std.proofs.Math.Nat.{mod-lt}
use Rattle.std.proofs.lemmas.List.Folds.{list_all-append}
use Rattle.std.proofs.lemmas.List.FromFn.{get_or-map-range_with_len, length-map-range_with_len}
use Rattle.mcf_limits.specs.declared.TheConstants.{MAX_DEMANDS}
use Rattle.flow_model.specs.declared.net.Cell.{Cell}
use Rattle.flow_model.specs.declared.net.Commodity.{Commodity}
use Rattle.unit_scale.specs.declared.modes.ModuleMode.{ModuleMode}
use Rattle.unit_scale.specs.declared.options.NetOptions.{NetOptions}
use Rattle.rand_pcg.specs.Lcg.{Lcg}
use Rattle.sndlib_grammar.specs.declared.refusal.NetRefusal.{NetRefusal}
use Rattle.sndlib_grammar.specs.Net.{rows_of}
use Rattle.sndlib_grammar.specs.Rows.{NetLink, NetDemand, NetRows, no_demand}
use Rattle.sndlib_grammar.specs.Canonical.{link_without_line, demand_without_line, without_lines}
use Rattle.sndlib_grammar.proofs.ReadBack.{reads_back}
use Rattle.unit_scale.specs.Sizes.{decimals_of, sizes, serves, capacity, counted, in_units}
use Rattle.unit_scale.specs.Scaling.{ScaledNet, scaled_of, scaled_with, unless_refused, refusal, cells_of_link, link_cells, commodity_of}
use Rattle.net_gen.specs.Draws.{generator_of, past, drawn, drawn_below}
use Rattle.net_gen.specs.Generated.{AreCounts, generated_node, generated_link, generated_demand, generated_rows, generated_text, link_capacity, words_of_ends, words_before_link}
use Rattle.net_gen.proofs.Differing.{all_demands_differ}
use Rattle.net_gen.proofs.Printing.{rows_printable}
use Rattle.net_gen.specs.Drawn.{drawn_cells, drawn_commodity, drawn_network, drawn_net}
use Rattle.net_gen.proofs.Rows.{IsWholeLink, IsWholeDemand, link_whole, demand_whole, capacity_is, commodity_is, units_are}
use Rattle.net_gen.proofs.Each.{Each, each_back, each_along, each_drawn, fine_links, small_links, whole_links, fine_demands, small_demands, whole_demands, some_kept, all_kept, none_left, none_bound, link_back, link_along, demand_back, demand_along, flat_along, filter_along, flat_drawn, filter_drawn}

-- ---- rows of whole numbers are not refused, and need no decimals

pub record AreWhole (mode : ModuleMode) (rows : NetRows) : Type 0 where
  pub links : Each (IsWholeLink mode) rows.links
  pub demands : Each IsWholeDemand rows.demands
  pub some : 1 ≤ length rows.demands
  pub few : length rows.demands ≤ MAX_DEMANDS

pub not_refused : (mode : ModuleMode) (rows : NetRows) → AreWhole mode rows → refusal mode 0 rows ≡ None
not_refused mode rows w =
    rw (fine_links mode rows.links w.links, fine_demands rows.demands w.demands, small_links mode rows.links w.links, small_demands rows.demands 0 w.demands (omega (arith, w.few)), some_kept rows.demands w.demands w.some) refl

pub all_serve : (mode : ModuleMode) (rows : NetRows) → AreWhole mode rows → list_all (serves 0) (sizes mode rows) ≡ true
all_serve mode rows w =
    list_all-append (serves 0) (map (capacity mode) rows.links) (map counted rows.demands) ∙ rw (whole_links mode rows.links w.links, whole_demands rows.demands w.demands) refl

first_serves : (b : Bool) (n : ℕ) → b ≡ true → (if b then 0 else n) ≡ 0
first_serves true n e = refl
first_serves false n e = cc

pub no_decimals : (mode : ModuleMode) (rows : NetRows) → AreWhole mode rows → decimals_of (sizes mode rows) ≡ 0
no_decimals mode rows w = first_serves (list_all (serves 0) (sizes mode rows)) _ (all_serve mode rows w)

-- ---- the rows that are drawn

abbrev pub link_row : ℕ → ℕ → ℕ → NetLink
link_row seed nodes i = generated_link (past (words_before_link nodes i) (generator_of seed)) nodes i

abbrev pub demand_row : ℕ → ℕ → ℕ → ℕ → NetDemand
demand_row seed nodes links i = generated_demand (past (2 * i) (past (words_before_link nodes links) (generator_of seed))) nodes i

either_most : (t : Bool) (drew : ℕ) → drew < 1000 → (if t then 1000000000 else 1 + drew) ≤ 10 ^ 9
either_most true drew small = lit≤ tt
either_most false drew small = omega arith

most_capacity : (g : Lcg) (nodes i : ℕ) → link_capacity g nodes i ≤ 10 ^ 9
most_capacity g nodes i = either_most (i == 0) (drawn_below g (words_of_ends nodes i) 1000) (mod-lt (drawn g (words_of_ends nodes i)) (omega arith))

apart_at : (seed nodes links demands : ℕ) → AreCounts nodes links demands → (i : ℕ) → i < demands → (demand_row seed nodes links i).source ≢ (demand_row seed nodes links i).target
apart_at seed nodes links demands are i lt =
    let row : ℕ → NetDemand = demand_row seed nodes links in
    let here : 0 + i ≡ i = omega arith in
    let inside : i < length (map row (range_with_len 0 demands)) = omega (arith, lt, length-map-range_with_len row 0 demands) in
    subst (λ (d : NetDemand). d.source ≢ d.target) (get_or-map-range_with_len row 0 demands i i no_demand lt here) (all_demands_differ seed nodes links demands are i no_demand inside)

links_whole : (mode : ModuleMode) (seed nodes links : ℕ) → Each (IsWholeLink mode) (map (link_row seed nodes) (range_with_len 0 links))
links_whole mode seed nodes links =
    each_drawn (IsWholeLink mode) (link_row seed nodes) 0 links (λ i lt.
    let g = past (words_before_link nodes i) (generator_of seed) in
    link_whole mode (link_row seed nodes i) (link_capacity g nodes i) refl refl (most_capacity g nodes i))

demands_whole : (seed nodes links demands : ℕ) → AreCounts nodes links demands → Each IsWholeDemand (map (demand_row seed nodes links) (range_with_len 0 demands))
demands_whole seed nodes links demands are =
    each_drawn IsWholeDemand (demand_row seed nodes links) 0 demands (λ i lt.
    demand_whole (demand_row seed nodes links i) (1 + i % 10) refl refl refl (apart_at seed nodes links demands are i (omega (arith, lt))) (omega arith) (omega arith))

pub drawn_whole : (mode : ModuleMode) (seed nodes links demands : ℕ) → AreCounts nodes links demands → AreWhole mode (generated_rows seed nodes links demands)
drawn_whole mode seed nodes links demands are =
    let count = length-map-range_with_len (demand_row seed nodes links) 0 demands in
    record {
      links = links_whole mode seed nodes links;
      demands = demands_whole seed nodes links demands are;
      some = omega (arith, count, are.some_demands);
      few = omega (arith, count, are.most_demands);
    }

-- ---- the same rows in other lines

link_list : (a b : NetRows) → without_lines a ≡ without_lines b → map link_without_line a.links ≡ map link_without_line b.links
link_list a b e = ap (λ (rows : NetRows). rows.links) e

demand_list : (a b : NetRows) → without_lines a ≡ without_lines b → map demand_without_line a.demands ≡ map demand_without_line b.demands
demand_list a b e = ap (λ (rows : NetRows). rows.demands) e

mapped_count : {X Y : Type 0} (f : X → Y) (xs : List X) → length (map f xs) ≡ length xs
mapped_count f [] = refl
mapped_count f (x ∷ xs) = ap suc (mapped_count f xs)

demand_count : (a b : NetRows) → without_lines a ≡ without_lines b → length a.demands ≡ length b.demands
demand_count a b e = sym (mapped_count demand_without_line a.demands) ∙ ap (length {A = NetDemand}) (demand_list a b e) ∙ mapped_count demand_without_line b.demands

pub whole_elsewhere : (mode : ModuleMode) (a b : NetRows) → without_lines a ≡ without_lines b → AreWhole mode b → AreWhole mode a
whole_elsewhere mode a b e w = record {
  links = each_back (IsWholeLink mode) link_without_line (link_back mode) a.links (subst (Each (IsWholeLink mode)) (sym (link_list a b e)) (each_along (IsWholeLink mode) link_without_line (link_along mode) b.links w.links));
  demands = each_back IsWholeDemand demand_without_line demand_back a.demands (subst (Each IsWholeDemand) (sym (demand_list a b e)) (each_along IsWholeDemand demand_without_line demand_along b.demands w.demands));
  some = omega (arith, demand_count a b e, w.some);
  few = omega (arith, demand_count a b e, w.few);
}

cells_elsewhere : (o : NetOptions) (l : NetLink) → cells_of_link o 0 (link_without_line l) ≡ cells_of_link o 0 l
cells_elsewhere o l = ap (λ (cap : ℕ). link_cells o.links l.source l.target (in_units 0 cap)) (same_capacity o.modules l)
  where
    same_capacity : (mode : ModuleMode) (l : NetLink) → capacity mode (link_without_line l) ≡ capacity mode l
    same_capacity mode l = refl

same_cells : (o : NetOptions) (a b : NetRows) → without_lines a ≡ without_lines b → flat_map (cells_of_link o 0) a.links ≡ flat_map (cells_of_link o 0) b.links
same_cells o a b e =
    sym (flat_along (cells_of_link o 0) link_without_line (cells_elsewhere o) a.links) ∙ ap (flat_map (cells_of_link o 0)) (link_list a b e) ∙ flat_along (cells_of_link o 0) link_without_line (cells_elsewhere o) b.links

same_commodities : (a b : NetRows) → without_lines a ≡ without_lines b → filter_map (commodity_of 0) a.demands ≡ filter_map (commodity_of 0) b.demands
same_commodities a b e =
    sym (filter_along (commodity_of 0) demand_without_line (λ d. refl) a.demands) ∙ ap (filter_map (commodity_of 0)) (demand_list a b e) ∙ filter_along (commodity_of 0) demand_without_line (λ d. refl) b.demands

-- ---- cells and commodities

pub cells_drawn : (o : NetOptions) (seed nodes links demands : ℕ) → flat_map (cells_of_link o 0) (generated_rows seed nodes links demands).links ≡ (drawn_network o.links seed nodes links demands).cells
cells_drawn o seed nodes links demands =
    flat_drawn (cells_of_link o 0) (link_row seed nodes) (λ i. drawn_cells o.links (past (words_before_link nodes i) (generator_of seed)) nodes i) 0 links (λ i lt.
    let g = past (words_before_link nodes i) (generator_of seed) in
    let l = link_row seed nodes i in
    let cap = link_capacity g nodes i in
    let size : in_units 0 (capacity o.modules l) ≡ cap = ap (in_units 0) (capacity_is o.modules l cap refl refl (most_capacity g nodes i)) ∙ units_are cap in
    ap (link_cells o.links l.source l.target) size)

pub commodities_drawn : (o : NetOptions) (seed nodes links demands : ℕ) → AreCounts nodes links demands → filter_map (commodity_of 0) (generated_rows seed nodes links demands).demands ≡ (drawn_network o.links seed nodes links demands).commodities
commodities_drawn o seed nodes links demands are =
    filter_drawn (commodity_of 0) (demand_row seed nodes links) (λ i. drawn_commodity (past (2 * i) (past (words_before_link nodes links) (generator_of seed))) nodes i) 0 demands (λ i lt.
    commodity_is (demand_row seed nodes links i) (1 + i % 10) refl refl (apart_at seed nodes links demands are i (omega (arith, lt))) (omega arith) (omega arith))

same_net : (o : NetOptions) (n m : ℕ) (cs ds : List Cell) (ks ls : List Commodity) (a b : List ℕ) (l h : ℕ) → n ≡ m → cs ≡ ds → ks ≡ ls → a ≡ b → l ≡ 0 → h ≡ 0
    → (let x : ScaledNet = record { options = o; net = record { nodes = n; cells = cs; commodities = ks }; decimals = 0; kept = a; left = l; hops = h } in x)
    ≡ record { options = o; net = record { nodes = m; cells = ds; commodities = ls }; decimals = 0; kept = b; left = 0; hops = 0 }
same_net o n m cs ds ks ls a b l h p q r s t u = rw (p, q, r, s, t, u) refl

-- ---- the whole

pub scaled_elsewhere : (o : NetOptions) (seed nodes links demands : ℕ) (rows : NetRows) → AreCounts nodes links demands → without_lines rows ≡ without_lines (generated_rows seed nodes links demands) → scaled_of rows o ≡ Ok (drawn_net o seed nodes links demands)
scaled_elsewhere o seed nodes links demands rows are same =
    let rows-drawn : NetRows = generated_rows seed nodes links demands in
    let w = whole_elsewhere o.modules rows rows-drawn same (drawn_whole o.modules seed nodes links demands are) in
    let node_count : length rows.nodes ≡ nodes = ap (λ (r : NetRows). length r.nodes) same ∙ length-map-range_with_len generated_node 0 nodes in
    let count : length rows.demands ≡ demands = demand_count rows rows-drawn same ∙ length-map-range_with_len (demand_row seed nodes links) 0 demands in
    let net : scaled_with o 0 rows ≡ drawn_net o seed nodes links demands =
    same_net o _ _ _ _ _ _ _ _ _ _ node_count (same_cells o rows rows-drawn same ∙ cells_drawn o seed nodes links demands) (same_commodities rows rows-drawn same ∙ commodities_drawn o seed nodes links demands are) (all_kept rows.demands 0 w.demands ∙ ap (range_with_len 0) count) (none_left rows.demands w.demands) (none_bound rows.demands w.demands) in
    ap (λ (s : ℕ). unless_refused (scaled_with o s rows) (refusal o.modules s rows)) (no_decimals o.modules rows w)
    ∙ ap (unless_refused (scaled_with o 0 rows)) (not_refused o.modules rows w)
    ∙ ap read net
  where
    read : ScaledNet → Result ScaledNet NetRefusal
    read n = Ok n

abbrev found : NetRows → Result NetRows NetRefusal
found rows = Ok rows

found_is : (a b : NetRows) → found a ≡ found b → a ≡ b
found_is a b e = cc

pub text_scaled : (seed nodes links demands : ℕ) (rows : NetRows) (o : NetOptions) → AreCounts nodes links demands → rows_of (generated_text seed nodes links demands) ≡ Ok rows → scaled_of rows o ≡ Ok (drawn_net o seed nodes links demands)
text_scaled seed nodes links demands rows o are e =
    let back = reads_back (generated_rows seed nodes links demands) (rows_printable seed nodes links demands are) in
    let is : rows ≡ back.found = found_is rows back.found (sym e ∙ back.reads) in
    scaled_elsewhere o seed nodes links demands rows are (ap without_lines is ∙ back.same)

never_both : (x : Result ScaledNet NetRefusal) (n : ScaledNet) (r : NetRefusal) → x ≡ Ok n → x ≢ Err r
never_both x n r ok err = let both : (let y : Result ScaledNet NetRefusal = Ok n in y) ≡ Err r = sym ok ∙ err in cc

pub text_accepted : (seed nodes links demands : ℕ) (rows : NetRows) (o : NetOptions) (r : NetRefusal) → AreCounts nodes links demands → rows_of (generated_text seed nodes links demands) ≡ Ok rows → scaled_of rows o ≢ Err r
text_accepted seed nodes links demands rows o r are e = never_both (scaled_of rows o) (drawn_net o seed nodes links demands) r (text_scaled seed nodes links demands rows o are e)
