-- What the text of a network's certificate cites can be told apart in it.
use Rattle.std.proofs.Common.{◌≡◌, ◌≢◌, ℕ, zero, suc, ◌+◌, ◌*◌, ◌≤◌, ◌<◌, Bool, true, false, eqb, List, [], ◌∷◌, length, get_or, drop, map, Option, Some, None, Ok, refl, ap, sym, subst, ◌∙◌, arith, cond}
use Rattle.std.specs.Prelude.{All, codes, ◌||◌}
use Rattle.std.specs.List.{AllByRecursion, flat_map, list_all}
use Rattle.std.specs.Str.{bytes_eq}
use Rattle.std.proofs.Math.Nat.{mul-le-mul_right}
use Rattle.std.proofs.lemmas.Bool.{false_from_ne_true, not-true, or_parts}
use Rattle.std.proofs.lemmas.List.{length-map, get_or-map}
use Rattle.std.proofs.lemmas.List.Elements.{All-head, All-tail, All-map, All-weaker, All-get_or}
use Rattle.std.proofs.lemmas.List.Sums.{count_by-le-length}
use Rattle.text_lines.specs.Lines.{IsInside}
use Rattle.mcf_limits.specs.declared.TheConstants.{MAX_DECIMALS}
use Rattle.unit_scale.specs.Modes.{link_word, old_link_word, module_word, signs}
use Rattle.unit_scale.specs.declared.modes.LinkMode.{LinkMode}
use Rattle.unit_scale.specs.declared.modes.LinkMode.TheVariants.{Directed, Undirected, Bidirected}
use Rattle.unit_scale.specs.declared.modes.ModuleMode.{ModuleMode}
use Rattle.unit_scale.specs.declared.modes.ModuleMode.TheVariants.{Ignore, Largest, Sum}
use Rattle.sndlib_grammar.specs.Tokens.{is_word_byte, is_blank}
use Rattle.sndlib_grammar.specs.Rows.{NetRows, NetDemand, IsWord, IsNetNode, IsNetLink, IsNetDemand, AreNetRows, AreDistinct, names_of_nodes, names_of_links, names_of_demands, no_demand}
use Rattle.sndlib_grammar.specs.declared.refusal.NetRefusal.{NetRefusal}
use Rattle.unit_scale.specs.Sizes.{decimals_of, sizes, is_left_out}
use Rattle.unit_scale.specs.Scaling.{ScaledNet, scaled_with, unless_refused, refusal, kept_from, has_hops}
use Rattle.unit_scale.proofs.NetworkFacts.{cell_count}
use Rattle.unit_scale.proofs.WholeScaling.{decimals_are}
use Rattle.cert_lines.specs.Sheet.{IsOf, AreNames, counts_of, demand_word, old_sheet_of, sheet_of, sheets_of, signed_words}
use Rattle.cert_lines.proofs.Looked.{few, is_demand}
use Rattle.cert_lines.specs.declared.net_line.TheConstants.{MAX_COUNT}
use Rattle.cert_lines.specs.Spelling.{AreClean, IsClear}
use Rattle.cert_lines.proofs.NumberSteps.{both_true}
use Rattle.cert_judge.specs.Fits.{HasLinkWord}
use Rattle.cert_inverse.specs.Inverse.{AreCounts, AreInForms, AreCitable, IsCitable}
use Rattle.cert_inverse.proofs.Words.{same_bytes, equal_bytes}
use Rattle.cert_inverse.proofs.Clean.{Clean, clean}

-- ---- words that are distinct

each : {X : Type 0} (P : X → Type 0) (xs : List X) → All P xs → AllByRecursion P xs
each P [] h = tt
each P (x ∷ xs) h = (All-head P x xs h, each P xs (All-tail P x xs h))

not_same : (a b : List ℕ) → a ≢ b → bytes_eq b a ≡ false
not_same a b h = false_from_ne_true (bytes_eq b a) (λ e. h (sym (same_bytes b a e)))

others : (word : List ℕ) (words : List (List ℕ)) → ((j : ℕ) → j < length words → word ≢ get_or words j []) → AllByRecursion (λ other. bytes_eq other word ≡ false) words
others word [] h = tt
others word (w ∷ ws) h = (not_same word w (h 0 (omega arith)), others word ws (λ j lt. h (suc j) (omega arith)))

are_names : (words : List (List ℕ)) → AreDistinct words → All IsWord words → AreNames words
are_names [] d h = tt
are_names (w ∷ ws) d h = (
  (All-head IsWord w ws h).some,
  others w ws (λ j lt. d 0 (suc j) [] (omega arith) (omega arith)),
  are_names ws (λ i j e lt within. d (suc i) (suc j) e (omega arith) (omega arith)) (All-tail IsWord w ws h),
)

-- ---- words without blanks

inside_byte : (b : ℕ) → is_word_byte b ≡ true → IsInside b
inside_byte b h =
    let none = not-true (eqb b 10 || is_blank b || eqb b 35 || eqb b 40 || eqb b 41) h in
    let feed = or_parts (eqb b 10 || is_blank b) (eqb b 35) (or_parts (eqb b 10 || is_blank b || eqb b 35) (eqb b 40) (or_parts (eqb b 10 || is_blank b || eqb b 35 || eqb b 40) (eqb b 41) none).0).0 in
    let parts = or_parts (eqb b 10) (is_blank b) feed.0 in
    ((or_parts (eqb b 32) (eqb b 9) (or_parts (eqb b 32 || eqb b 9) (eqb b 13) parts.1).0).0, parts.0)

clean_word : (w : List ℕ) → list_all is_word_byte w ≡ true → Clean w
clean_word [] h = tt
clean_word (b ∷ w) h = let p = both_true (is_word_byte b) (list_all is_word_byte w) h in (inside_byte b p.0, clean_word w p.1)

are_clean : (words : List (List ℕ)) → All IsWord words → AreClean words
are_clean [] h = tt
are_clean (w ∷ ws) h = (clean_word w (All-head IsWord w ws h).bytes, are_clean ws (All-tail IsWord w ws h))

-- ---- the demands that are kept

abbrev Rises : List ℕ → Type 0
Rises [] = Unit {0}
Rises (k ∷ ks) = AllByRecursion (λ r. k < r) ks × Rises ks

kept_above : (k n : ℕ) (ds : List NetDemand) → k < n → AllByRecursion (λ r. k < r) (kept_from n ds)
kept_above k n [] lt = tt
kept_above k n (d ∷ ds) lt =
    let rest = kept_above k (n + 1) ds (omega arith) in
    elim (is_left_out d) as (λ (b : Bool). AllByRecursion (λ r. k < r) (cond b (kept_from (n + 1) ds) (n ∷ kept_from (n + 1) ds))) [ true ↦ rest | false ↦ (lt, rest) ]

kept_rises : (n : ℕ) (ds : List NetDemand) → Rises (kept_from n ds)
kept_rises n [] = tt
kept_rises n (d ∷ ds) =
    let rest = kept_rises (n + 1) ds in
    let above = kept_above n (n + 1) ds (omega arith) in
    elim (is_left_out d) as (λ (b : Bool). Rises (cond b (kept_from (n + 1) ds) (n ∷ kept_from (n + 1) ds))) [ true ↦ rest | false ↦ (above, rest) ]

-- an answer that is not refused
pub accepted : (a net : ScaledNet) (r : Option NetRefusal) → unless_refused a r ≡ Ok net → a ≡ net
accepted a net None e = cc
accepted a net (Some r) e = absurd cc

pub is_scaled : (rows : NetRows) (net : ScaledNet) (h : IsOf rows net) → scaled_with h.options (decimals_of (sizes h.options.modules rows)) rows ≡ net
is_scaled rows net h = accepted (scaled_with h.options (decimals_of (sizes h.options.modules rows)) rows) net (refusal h.options.modules (decimals_of (sizes h.options.modules rows)) rows) h.scaled

word_is : (rows : NetRows) (r : ℕ) → r < length rows.demands → get_or (names_of_demands rows) r [] ≡ demand_word rows r
word_is rows r lt = get_or-map (λ d. d.id) rows.demands r no_demand [] lt

apart : (rows : NetRows) → AreNetRows rows → (k r : ℕ) → k < r → r < length rows.demands → demand_word rows k ≢ demand_word rows r
apart rows well k r lt below same =
    let size = length-map rows.demands (λ d. d.id) in
    well.demand_names k r [] lt (omega arith) (word_is rows k (omega arith) ∙ same ∙ sym (word_is rows r below))

is_word : (rows : NetRows) → AreNetRows rows → (k : ℕ) → k < length rows.demands → IsWord (demand_word rows k)
is_word rows well k lt = (All-get_or (IsNetDemand (length rows.nodes)) rows.demands k no_demand lt well.demands).id

kept_names : (rows : NetRows) → AreNetRows rows → (ks : List ℕ) → Rises ks → AllByRecursion (λ r. r < length rows.demands) ks → AreNames (map (demand_word rows) ks)
kept_names rows well [] up below = tt
kept_names rows well (k ∷ ks) up below = ((is_word rows well k below.0).some, differ ks up.0 below.1, kept_names rows well ks up.1 below.1)
  where
    differ : (rs : List ℕ) → AllByRecursion (λ r. k < r) rs → AllByRecursion (λ r. r < length rows.demands) rs → AllByRecursion (λ other. bytes_eq other (demand_word rows k) ≡ false) (map (demand_word rows) rs)
    differ [] a b = tt
    differ (r ∷ rs) a b = (not_same (demand_word rows k) (demand_word rows r) (apart rows well k r a.0 b.0), differ rs a.1 b.1)

kept_clean : (rows : NetRows) → AreNetRows rows → (ks : List ℕ) → AllByRecursion (λ r. r < length rows.demands) ks → AreClean (map (demand_word rows) ks)
kept_clean rows well [] below = tt
kept_clean rows well (k ∷ ks) below = (clean_word (demand_word rows k) (is_word rows well k below.0).bytes, kept_clean rows well ks below.1)

-- ---- signs

-- words that go on behind their first bytes with other words are others
apart_behind : (b c : ℕ) (word other : List ℕ) → bytes_eq other word ≡ false → bytes_eq (c ∷ other) (b ∷ word) ≡ false
apart_behind b c word other h = false_from_ne_true (bytes_eq (c ∷ other) (b ∷ word)) (λ e.
    let same : other ≡ word = ap (drop 1) (same_bytes (c ∷ other) (b ∷ word) e) in
    let eq : bytes_eq other word ≡ true = ap (λ (w : List ℕ). bytes_eq w word) same ∙ equal_bytes word in
    absurd cc)

-- no signed word of other ids is this one
others_signed : (mode : LinkMode) (b : ℕ) (word : List ℕ) (ids : List (List ℕ)) → AllByRecursion (λ other. bytes_eq other word ≡ false) ids → AllByRecursion (λ other. bytes_eq other (b ∷ word) ≡ false) (flat_map (signed_words mode) ids)
others_signed mode b word [] h = tt
others_signed Directed b word (id ∷ ids) h = (apart_behind b 43 word id h.0, others_signed Directed b word ids h.1)
others_signed Undirected b word (id ∷ ids) h = (apart_behind b 61 word id h.0, others_signed Undirected b word ids h.1)
others_signed Bidirected b word (id ∷ ids) h = (apart_behind b 43 word id h.0, (apart_behind b 45 word id h.0, others_signed Bidirected b word ids h.1))

-- there and back are two words
two_ways : (id : List ℕ) → bytes_eq (45 ∷ id) (43 ∷ id) ≡ false
two_ways id = false_from_ne_true (bytes_eq (45 ∷ id) (43 ∷ id)) (λ e.
    let same : 45 ≡ 43 = ap (λ (w : List ℕ). get_or w 0 0) (same_bytes (45 ∷ id) (43 ∷ id) e) in
    absurd (omega (arith, same)))

-- signed words of distinct ids are distinct
signed_names : (mode : LinkMode) (ids : List (List ℕ)) → AreNames ids → AreNames (flat_map (signed_words mode) ids)
signed_names mode [] h = tt
signed_names Directed (id ∷ ids) h = (omega arith, others_signed Directed 43 id ids h.1, signed_names Directed ids h.2)
signed_names Undirected (id ∷ ids) h = (omega arith, others_signed Undirected 61 id ids h.1, signed_names Undirected ids h.2)
signed_names Bidirected (id ∷ ids) h = (
  omega arith,
  (two_ways id, others_signed Bidirected 43 id ids h.1),
  (omega arith, others_signed Bidirected 45 id ids h.1, signed_names Bidirected ids h.2),
)

-- a sign is no space and no line feed
signed_clean : (mode : LinkMode) (ids : List (List ℕ)) → AreClean ids → AreClean (flat_map (signed_words mode) ids)
signed_clean mode [] h = tt
signed_clean Directed (id ∷ ids) h = (((refl, refl), h.0), signed_clean Directed ids h.1)
signed_clean Undirected (id ∷ ids) h = (((refl, refl), h.0), signed_clean Undirected ids h.1)
signed_clean Bidirected (id ∷ ids) h = (((refl, refl), h.0), (((refl, refl), h.0), signed_clean Bidirected ids h.1))

-- ---- modes

full_link : (mode : LinkMode) → 0 < length (link_word mode)
full_link Directed = omega arith
full_link Undirected = omega arith
full_link Bidirected = omega arith

clean_link : (mode : LinkMode) → Clean (link_word mode)
clean_link Directed = clean (codes "directed") refl
clean_link Undirected = clean (codes "undirected") refl
clean_link Bidirected = clean (codes "bidirected") refl

clean_old_link : (mode : LinkMode) → Clean (old_link_word mode)
clean_old_link Directed = clean (codes "directed") refl
clean_old_link Undirected = clean (codes "undirected") refl
clean_old_link Bidirected = tt

-- form 1 has a word for how links are read but where they are bidirected
pub old_word : (mode : LinkMode) → mode ≢ Bidirected → 0 < length (old_link_word mode)
old_word Directed h = omega arith
old_word Undirected h = omega arith
old_word Bidirected h = absurd (h refl)

full_module : (mode : ModuleMode) → 0 < length (module_word mode)
full_module Ignore = omega arith
full_module Largest = omega arith
full_module Sum = omega arith

clean_module : (mode : ModuleMode) → Clean (module_word mode)
clean_module Ignore = clean (codes "none") refl
clean_module Largest = clean (codes "largest") refl
clean_module Sum = clean (codes "sum") refl

-- ---- the whole

node_words : (rows : NetRows) → AreNetRows rows → All IsWord (names_of_nodes rows)
node_words rows well = All-map IsWord (λ n. n.id) rows.nodes (All-weaker IsNetNode (λ n. IsWord n.id) (λ n h. h.id) rows.nodes well.nodes)

link_words : (rows : NetRows) → AreNetRows rows → All IsWord (names_of_links rows)
link_words rows well = All-map IsWord (λ l. l.id) rows.links (All-weaker (IsNetLink (length rows.nodes)) (λ l. IsWord l.id) (λ l h. h.id) rows.links well.links)

-- the commodities' words of a network
record HasCommodities (rows : NetRows) (net : ScaledNet) : Type 0 where
  names : AreNames (map (demand_word rows) net.kept)
  clean_names : AreClean (map (demand_word rows) net.kept)

commodities : (rows : NetRows) (net : ScaledNet) → IsOf rows net → HasCommodities rows net
commodities rows net h =
    let kept : kept_from 0 rows.demands ≡ net.kept = ap (λ (n : ScaledNet). n.kept) (is_scaled rows net h) in
    let up = subst Rises kept (kept_rises 0 rows.demands) in
    let below = each (λ r. r < length rows.demands) net.kept (λ k d lt. within k d lt) in
    record { names = kept_names rows h.well net.kept up below; clean_names = kept_clean rows h.well net.kept below }
  where
    within : (k : ℕ) (d : ℕ) → k < length net.kept → get_or net.kept k d < length rows.demands
    within k d lt = subst (λ n. n < length rows.demands) (same net.kept k d lt) (is_demand rows net h k lt)
      where
        same : (xs : List ℕ) (i e : ℕ) → i < length xs → get_or xs i 0 ≡ get_or xs i e
        same [] i e l = absurd (omega arith)
        same (x ∷ xs) zero e l = refl
        same (x ∷ xs) (suc i) e l = same xs i e (omega arith)

is_clear : (rows : NetRows) (net : ScaledNet) → IsOf rows net → IsClear (sheet_of rows net)
is_clear rows net h =
    let ids = names_of_links rows in
    let kept = commodities rows net h in
    record {
      nodes = are_names (names_of_nodes rows) h.well.node_names (node_words rows h.well);
      cells = signed_names net.options.links ids (are_names ids h.well.link_names (link_words rows h.well));
      commodities = kept.names;
      clean_nodes = are_clean (names_of_nodes rows) (node_words rows h.well);
      clean_cells = signed_clean net.options.links ids (are_clean ids (link_words rows h.well));
      clean_commodities = kept.clean_names;
      full_modes = (full_link net.options.links, full_module net.options.modules);
      clean_modes = (clean_link net.options.links, clean_module net.options.modules);
    }

is_clear_old : (rows : NetRows) (net : ScaledNet) → IsOf rows net → HasLinkWord (old_sheet_of rows net) → IsClear (old_sheet_of rows net)
is_clear_old rows net h word =
    let ids = names_of_links rows in
    let kept = commodities rows net h in
    record {
      nodes = are_names (names_of_nodes rows) h.well.node_names (node_words rows h.well);
      cells = are_names ids h.well.link_names (link_words rows h.well);
      commodities = kept.names;
      clean_nodes = are_clean (names_of_nodes rows) (node_words rows h.well);
      clean_cells = are_clean ids (link_words rows h.well);
      clean_commodities = kept.clean_names;
      full_modes = (word, full_module net.options.modules);
      clean_modes = (clean_old_link net.options.links, clean_module net.options.modules);
    }

-- there are at most two cells a link
few_ways : (mode : LinkMode) → length (signs mode) ≤ 2
few_ways Directed = omega arith
few_ways Undirected = omega arith
few_ways Bidirected = omega arith

cells_are_few : (rows : NetRows) (net : ScaledNet) → IsOf rows net → length net.net.cells ≤ 2 * length rows.links
cells_are_few rows net h =
    let s = decimals_of (sizes h.options.modules rows) in
    let count = cell_count h.options s rows.links in
    let most : length (signs h.options.links) * length rows.links ≤ 2 * length rows.links = mul-le-mul_right (length rows.links) (few_ways h.options.links) in
    subst (λ (n : ScaledNet). length n.net.cells ≤ 2 * length rows.links) (is_scaled rows net h) (subst (λ (k : ℕ). k ≤ 2 * length rows.links) (sym count) most)

are_counted : (rows : NetRows) (net : ScaledNet) → IsOf rows net → rows.skipped ≤ MAX_COUNT → AreCounts (counts_of rows net)
are_counted rows net h few_skipped =
    let decimals : net.decimals ≤ MAX_DECIMALS = subst (λ (n : ScaledNet). n.decimals ≤ MAX_DECIMALS) (is_scaled rows net h) (decimals_are (sizes h.options.modules rows)).within in
    let left : net.left ≤ length rows.demands = subst (λ (n : ScaledNet). n.left ≤ length rows.demands) (is_scaled rows net h) (count_by-le-length is_left_out rows.demands) in
    let hops : net.hops ≤ length rows.demands = subst (λ (n : ScaledNet). n.hops ≤ length rows.demands) (is_scaled rows net h) (count_by-le-length has_hops rows.demands) in
    let fewer = few rows net h in
    let cells = cells_are_few rows net h in
    let node_count = h.well.node_count in
    let link_count = h.well.link_count in
    let demand_count = h.well.demand_count in
    record { seven = refl; within = (omega arith, (omega arith, (omega arith, (omega arith, (few_skipped, (omega arith, (omega arith, tt))))))) }

pub citable : (rows : NetRows) (net : ScaledNet) → IsOf rows net → rows.skipped ≤ MAX_COUNT → IsCitable (sheet_of rows net)
citable rows net h skipped = record { clear = is_clear rows net h; counts = are_counted rows net h skipped }

pub citable_old : (rows : NetRows) (net : ScaledNet) → IsOf rows net → rows.skipped ≤ MAX_COUNT → HasLinkWord (old_sheet_of rows net) → IsCitable (old_sheet_of rows net)
citable_old rows net h skipped word = record { clear = is_clear_old rows net h word; counts = are_counted rows net h skipped }

-- each sheet of a network has the word of its form
pub in_forms : (rows : NetRows) (net : ScaledNet) → AreInForms (sheets_of rows net)
in_forms rows net = record { old = refl; new = refl }

pub citable_both : (rows : NetRows) (net : ScaledNet) → IsOf rows net → rows.skipped ≤ MAX_COUNT → AreCitable (sheets_of rows net)
citable_both rows net h skipped = record { forms = in_forms rows net; old = citable_old rows net h skipped; new = citable rows net h skipped }
