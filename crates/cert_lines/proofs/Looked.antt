-- Words of nodes, cells and commodities, looked up in the rows of a network text.
use Rattle.std.proofs.Common.{◌≡◌, ℕ, ◌+◌, ◌≤◌, ◌<◌, List, [], ◌∷◌, ◌++◌, length, get_or, map, take, drop, Option, Some, None, Ok, true, false, Bool, arith, refl, ap, sym, subst, ◌∙◌, ◌==◌, if◌then◌else◌, nat_lt, inl, inr}
use Rattle.std.specs.Prelude.{position, not}
use Rattle.std.specs.List.{prefix_len, position_or_len}
use Rattle.std.specs.Str.{bytes_eq}
use Rattle.std.proofs.lemmas.List.{length-map, get_or-map, take-append-drop}
use Rattle.std.proofs.lemmas.List.Quantifiers.{position-Some}
use Rattle.sndlib_grammar.specs.Rows.{NetRows, NetDemand, AreNetRows, no_demand, no_link, link_at, names_of_nodes, names_of_links, names_of_demands}
use Rattle.unit_scale.specs.Scaling.{ScaledNet, scaled_with, unless_refused, refusal, kept_from}
use Rattle.unit_scale.specs.Sizes.{decimals_of, sizes, is_left_out}
use Rattle.cert_lines.specs.declared.form.Form.{Form}
use Rattle.cert_lines.specs.declared.form.Form.TheVariants.{First, Second}
use Rattle.cert_lines.specs.Sheet.{Sheet, IsOf, IsWithin, cell_word, cell_sign, cell_id, sign_size, sign_mark, counts_of, demand_word, place_of, sheet_of, old_sheet_of, sheets_of, sheet_for}
use Rattle.cert_lines.proofs.SignedWords.{words_counted, word_at}
use Rattle.unit_scale.specs.Names.{cells_of, name_of}
use Rattle.unit_scale.proofs.CellNumbers.{link_below}
use Rattle.unit_scale.proofs.Named.{cells_counted}
use Rattle.mcf_limits.specs.declared.TheConstants.{MAX_CELLS, MAX_LINKS}
use Rattle.unit_scale.specs.Modes.{module_word}
use Rattle.unit_scale.specs.declared.modes.LinkMode.{LinkMode}
use Rattle.unit_scale.specs.declared.modes.LinkMode.TheVariants.{Directed, Undirected, Bidirected}
use Rattle.unit_scale.specs.declared.modes.Sign.{Sign}
use Rattle.unit_scale.specs.declared.modes.Sign.TheVariants.{Along, Against, Both}
use Rattle.std.specs.List.{AllByRecursion}
use Rattle.std.specs.Prelude.{Result, Err}
use Rattle.std.proofs.lemmas.Bool.{false_from_ne_true, cases_lt}
use Rattle.std.proofs.lemmas.Bool.Decides.{nat_tests}
use Rattle.std.proofs.lemmas.Slice.Eq.{bytes_eq-Decides}
use Rattle.std.proofs.lemmas.List.Elements.{All-from_recursion}
use Rattle.std.proofs.lemmas.List.Sums.{fails_before_first, position_or_len_is}
use Rattle.sndlib_grammar.specs.declared.refusal.NetRefusal.{NetRefusal}

-- ---- the kept demands are demands

kept_below : (n : ℕ) (ds : List NetDemand) → AllByRecursion (λ r. r < n + length ds) (kept_from n ds)
kept_below n [] = tt
kept_below n (d ∷ ds) =
    let more : n + 1 + length ds ≡ n + length (d ∷ ds) = omega arith in
    let rest = subst (λ m. AllByRecursion (λ r. r < m) (kept_from (n + 1) ds)) more (kept_below (n + 1) ds) in
    elim (is_left_out d) as (λ (b : Bool). AllByRecursion (λ r. r < n + length (d ∷ ds)) (if b then kept_from (n + 1) ds else n ∷ kept_from (n + 1) ds))
    [ true ↦ rest | false ↦ (omega arith, rest) ]

kept_short : (n : ℕ) (ds : List NetDemand) → length (kept_from n ds) ≤ length ds
kept_short n [] = omega arith
kept_short n (d ∷ ds) =
    let rest = kept_short (n + 1) ds in
    elim (is_left_out d) as (λ (b : Bool). length (if b then kept_from (n + 1) ds else n ∷ kept_from (n + 1) ds) ≤ length (d ∷ ds))
    [ true ↦ omega arith | false ↦ omega arith ]

abbrev net_or : ScaledNet → Result ScaledNet NetRefusal → ScaledNet
net_or net (Ok other) = other
net_or net (Err r) = net

accepted : (a net : ScaledNet) (r : Option NetRefusal) → unless_refused a r ≡ Ok net → a ≡ net
accepted a net None e = ap (net_or a) e
accepted a net (Some r) e = absurd cc

kept_is : (rows : NetRows) (net : ScaledNet) → IsOf rows net → kept_from 0 rows.demands ≡ net.kept
kept_is rows net h =
    let s = decimals_of (sizes h.options.modules rows) in
    ap (λ (n : ScaledNet). n.kept) (accepted (scaled_with h.options s rows) net (refusal h.options.modules s rows) h.scaled)

are_demands : (rows : NetRows) (net : ScaledNet) → IsOf rows net → AllByRecursion (λ r. r < length rows.demands) net.kept
are_demands rows net h =
    let none : 0 + length rows.demands ≡ length rows.demands = omega arith in
    subst (λ kept. AllByRecursion (λ r. r < length rows.demands) kept) (kept_is rows net h) (subst (λ n. AllByRecursion (λ r. r < n) (kept_from 0 rows.demands)) none (kept_below 0 rows.demands))

pub is_demand : (rows : NetRows) (net : ScaledNet) → IsOf rows net → (k : ℕ) → k < length net.kept → get_or net.kept k 0 < length rows.demands
is_demand rows net h k lt = (All-from_recursion (λ r. r < length rows.demands) net.kept (are_demands rows net h)) k 0 lt

pub few : (rows : NetRows) (net : ScaledNet) → IsOf rows net → length net.kept ≤ length rows.demands
few rows net h = subst (λ kept. length kept ≤ length rows.demands) (kept_is rows net h) (kept_short 0 rows.demands)

-- ---- a position in a mapped list is that in the list

prefix_same : (p : List ℕ → Bool) (q : ℕ → Bool) (f : ℕ → List ℕ) (ks : List ℕ) → AllByRecursion (λ r. p (f r) ≡ q r) ks → prefix_len (λ x. not (p x)) (map f ks) ≡ prefix_len (λ x. not (q x)) ks
prefix_same p q f [] h = refl
prefix_same p q f (k ∷ ks) h =
    ap (λ (b : Bool). if not b then 1 + prefix_len (λ x. not (p x)) (map f ks) else 0) h.0
    ∙ ap (λ (n : ℕ). if not (q k) then 1 + n else 0) (prefix_same p q f ks h.1)

position_same : (p : List ℕ → Bool) (q : ℕ → Bool) (f : ℕ → List ℕ) (ks : List ℕ) → AllByRecursion (λ r. p (f r) ≡ q r) ks → position p (map f ks) ≡ position q ks
position_same p q f ks h =
    let n = prefix_len (λ x. not (p x)) (map f ks) in
    ap (λ (m : ℕ). if nat_lt n m then Some n else None) (length-map ks f)
    ∙ ap (λ (m : ℕ). if nat_lt m (length ks) then Some m else None) (prefix_same p q f ks h)

is_not_below : (a : ℕ) → nat_lt a a ≡ false
is_not_below a = grind (arith, nat_tests)

never : (ks : List ℕ) → position (λ (k : ℕ). false) ks ≡ None
never ks =
    let all = position_or_len_is (λ (k : ℕ). false) ks (length ks) 0 (omega arith) (λ k lt. refl) (λ lt. absurd (omega arith)) in
    ap (λ n. if nat_lt n (length ks) then Some n else None) all ∙ ap (λ (b : Bool). if b then Some (length ks) else None) (is_not_below (length ks))

-- ---- a commodity by its demand's id

name_at : (rows : NetRows) (r : ℕ) → r < length rows.demands → get_or (names_of_demands rows) r [] ≡ demand_word rows r
name_at rows r lt = get_or-map (λ d. d.id) rows.demands r no_demand [] lt

one_demand : (rows : NetRows) → AreNetRows rows → (r d : ℕ) → r < length rows.demands → d < length rows.demands → get_or (names_of_demands rows) r [] ≡ get_or (names_of_demands rows) d [] → r ≡ d
one_demand rows well r d below bound same =
    let size = length-map rows.demands (λ d. d.id) in
    elim (cases_lt r d) [
      | inl lt ↦ absurd (well.demand_names r d [] lt (omega arith) same)
      | inr ge ↦ elim (cases_lt d r) [ inl lt ↦ absurd (well.demand_names d r [] lt (omega arith) (sym same)) | inr le ↦ omega arith ]
    ]

not_same : (a b : ℕ) → (a ≡ b → ⊥) → (a == b) ≡ false
not_same a b h = grind (arith, nat_tests)

is_same : (a b : ℕ) → (a == b) ≡ true → a ≡ b
is_same a b h = grind (arith, nat_tests)

one_word : (rows : NetRows) → AreNetRows rows → (w : List ℕ) (d : ℕ) → d < length rows.demands → bytes_eq w (get_or (names_of_demands rows) d []) ≡ true → (r : ℕ) → r < length rows.demands → bytes_eq w (demand_word rows r) ≡ (r == d)
one_word rows well w d bound hit r below =
    let here = name_at rows r below in
    let go = elim (r == d) as (λ (b : Bool). (r == d) ≡ b → bytes_eq w (demand_word rows r) ≡ b) [
      | true ↦ λ e. subst (λ v. bytes_eq w v ≡ true) (ap (λ n. get_or (names_of_demands rows) n []) (sym (is_same r d e)) ∙ here) hit
      | false ↦ λ e. false_from_ne_true (bytes_eq w (demand_word rows r)) (λ same. other e same)
    ] in
    go refl
  where
    other : (r == d) ≡ false → bytes_eq w (demand_word rows r) ≡ true → ⊥
    other e same =
        let is : get_or (names_of_demands rows) r [] ≡ get_or (names_of_demands rows) d [] = name_at rows r below ∙ sym ((bytes_eq-Decides w (demand_word rows r)).0 same) ∙ (bytes_eq-Decides w (get_or (names_of_demands rows) d [])).0 hit in
        apart (one_demand rows well r d below bound is) e
      where
        apart : r ≡ d → (r == d) ≡ false → ⊥
        apart is e = absurd (grind (arith, nat_tests))

along : {P Q : ℕ → Type 0} → ((r : ℕ) → P r → Q r) → (ks : List ℕ) → AllByRecursion P ks → AllByRecursion Q ks
along f [] h = tt
along f (k ∷ ks) h = (f k h.0, along f ks h.1)

pub commodity_found : (rows : NetRows) (net : ScaledNet) → IsOf rows net → (w : List ℕ) (d : ℕ) → position (bytes_eq w) (names_of_demands rows) ≡ Some d → position (λ row. row == d) net.kept ≡ place_of (map (demand_word rows) net.kept) w
commodity_found rows net h w d e =
    let at = position-Some (bytes_eq w) (names_of_demands rows) d [] e in
    let size = length-map rows.demands (λ d. d.id) in
    let bound : d < length rows.demands = (let lt = at.0 in omega arith) in
    sym (position_same (bytes_eq w) (λ row. row == d) (demand_word rows) net.kept (along (one_word rows h.well w d bound at.1) net.kept (are_demands rows net h)))

none_passes : (p : List ℕ → Bool) (names : List (List ℕ)) → position p names ≡ None → (k : ℕ) → k < length names → p (get_or names k []) ≡ false
none_passes p names e k lt =
    let far = elim (nat_lt (position_or_len p names) (length names)) as (λ (b : Bool). nat_lt (position_or_len p names) (length names) ≡ b → (if b then Some (position_or_len p names) else None) ≡ None → length names ≤ position_or_len p names)
    [ true ↦ λ t s. absurd cc | false ↦ λ t s. beyond (position_or_len p names) (length names) t ] in
    let past = far refl e in
    fails_before_first p names k [] (omega arith)
  where
    beyond : (a b : ℕ) → nat_lt a b ≡ false → b ≤ a
    beyond a b t = grind (arith, nat_tests)

pub commodity_none : (rows : NetRows) (net : ScaledNet) → IsOf rows net → (w : List ℕ) → position (bytes_eq w) (names_of_demands rows) ≡ None → None ≡ place_of (map (demand_word rows) net.kept) w
commodity_none rows net h w e =
    let size = length-map rows.demands (λ d. d.id) in
    let no : (r : ℕ) → r < length rows.demands → bytes_eq w (demand_word rows r) ≡ false = λ r lt. subst (λ v. bytes_eq w v ≡ false) (name_at rows r lt) (none_passes (bytes_eq w) (names_of_demands rows) e r (omega arith)) in
    sym (position_same (bytes_eq w) (λ (k : ℕ). false) (demand_word rows) net.kept (along no net.kept (are_demands rows net h)) ∙ never net.kept)

-- ---- both sheets

-- in either form the words of nodes and commodities, the mode of modules and the counts are the same
pub module_mode_is : (rows : NetRows) (net : ScaledNet) (form : Form)
    → module_word net.options.modules ≡ (sheet_for (sheets_of rows net) form).module_mode
module_mode_is rows net First = refl
module_mode_is rows net Second = refl

pub nodes_are : (rows : NetRows) (net : ScaledNet) (form : Form)
    → names_of_nodes rows ≡ (sheet_for (sheets_of rows net) form).nodes
nodes_are rows net First = refl
nodes_are rows net Second = refl

pub commodities_are : (rows : NetRows) (net : ScaledNet) (form : Form)
    → map (demand_word rows) net.kept ≡ (sheet_for (sheets_of rows net) form).commodities
commodities_are rows net First = refl
commodities_are rows net Second = refl

pub counts_are : (rows : NetRows) (net : ScaledNet) (form : Form)
    → counts_of rows net ≡ (sheet_for (sheets_of rows net) form).counts
counts_are rows net First = refl
counts_are rows net Second = refl

pub cells_are : (rows : NetRows) (net : ScaledNet) → length (sheet_of rows net).cells ≡ cells_of net.options.links (length rows.links)
cells_are rows net =
    words_counted net.options.links (names_of_links rows)
    ∙ ap (cells_of net.options.links) (length-map rows.links (λ l. l.id))

-- the words of cells in form 2 are as many as the cells of the network
pub cells_are_counted : (rows : NetRows) (net : ScaledNet) → IsOf rows net → length (sheet_of rows net).cells ≡ length net.net.cells
cells_are_counted rows net h =
    let s = decimals_of (sizes h.options.modules rows) in
    let is = accepted (scaled_with h.options s rows) net (refusal h.options.modules s rows) h.scaled in
    cells_are rows net
    ∙ ap (λ (n : ScaledNet). cells_of n.options.links (length rows.links)) (sym is)
    ∙ sym (cells_counted h.options s rows)
    ∙ ap (λ (n : ScaledNet). length n.net.cells) is

-- ---- no more words than there may be

few_cells : (mode : LinkMode) (links : ℕ) → links ≤ MAX_LINKS → cells_of mode links ≤ MAX_CELLS
few_cells Directed links h = omega arith
few_cells Undirected links h = omega arith
few_cells Bidirected links h = omega arith

pub within : (rows : NetRows) (net : ScaledNet) (form : Form) → IsOf rows net → IsWithin (sheet_for (sheets_of rows net) form)
within rows net First h =
    let nodes = length-map rows.nodes (λ n. n.id) in
    let links = length-map rows.links (λ l. l.id) in
    let kept = length-map net.kept (demand_word rows) in
    let fewer = few rows net h in
    let node_count = h.well.node_count in
    let link_count = h.well.link_count in
    let demand_count = h.well.demand_count in
    record { nodes_fit = omega arith; cells_fit = omega arith; commodities_fit = omega arith }
within rows net Second h =
    let nodes = length-map rows.nodes (λ n. n.id) in
    let kept = length-map net.kept (demand_word rows) in
    let fewer = few rows net h in
    let node_count = h.well.node_count in
    let demand_count = h.well.demand_count in
    let cells = few_cells net.options.links (length rows.links) h.well.link_count in
    record {
      nodes_fit = omega arith;
      cells_fit = subst (λ n. n ≤ MAX_CELLS) (sym (cells_are rows net)) cells;
      commodities_fit = omega arith;
    }

-- ---- the word of a cell in form 2

id_at : (rows : NetRows) (l : ℕ) → l < length rows.links → get_or (names_of_links rows) l [] ≡ (link_at rows l).id
id_at rows l lt = get_or-map (λ l. l.id) rows.links l no_link [] lt

pub link_of_cell : (rows : NetRows) (net : ScaledNet) (c : ℕ) → c < length (sheet_of rows net).cells → (name_of net.options.links c).link < length rows.links
link_of_cell rows net c lt = link_below net.options.links (length rows.links) c (subst (λ n. c < n) (cells_are rows net) lt)

signed_word : (rows : NetRows) (net : ScaledNet) (c : ℕ) → c < length (sheet_of rows net).cells
    → cell_word (sheet_of rows net) c ≡ sign_mark (name_of net.options.links c).sign ++ (link_at rows (name_of net.options.links c).link).id
signed_word rows net c lt =
    word_at net.options.links (names_of_links rows) c lt
    ∙ ap (λ (id : List ℕ). sign_mark (name_of net.options.links c).sign ++ id) (id_at rows (name_of net.options.links c).link (link_of_cell rows net c lt))

first_is : (sign : Sign) (id : List ℕ) → take 1 (sign_mark sign ++ id) ≡ sign_mark sign
first_is Along id = refl
first_is Against id = refl
first_is Both id = refl

rest_is : (sign : Sign) (id : List ℕ) → drop 1 (sign_mark sign ++ id) ≡ id
rest_is Along id = refl
rest_is Against id = refl
rest_is Both id = refl

pub sign_is : (rows : NetRows) (net : ScaledNet) (c : ℕ) → c < length (sheet_of rows net).cells
    → sign_mark (name_of net.options.links c).sign ≡ cell_sign (sheet_of rows net) c
sign_is rows net c lt = sym (ap (take 1) (signed_word rows net c lt) ∙ first_is (name_of net.options.links c).sign _)

pub id_is : (rows : NetRows) (net : ScaledNet) (c : ℕ) → c < length (sheet_of rows net).cells
    → (link_at rows (name_of net.options.links c).link).id ≡ cell_id (sheet_of rows net) c
id_is rows net c lt = sym (ap (drop 1) (signed_word rows net c lt) ∙ rest_is (name_of net.options.links c).sign _)

-- and in form 1
pub old_id_is : (rows : NetRows) (net : ScaledNet) (c : ℕ) → c < length rows.links → (link_at rows c).id ≡ cell_id (old_sheet_of rows net) c
old_id_is rows net c lt = sym (id_at rows c lt)

-- a cell's word is its sign and its id
pub whole_word : (sheet : Sheet) (c : ℕ) → cell_sign sheet c ++ cell_id sheet c ≡ cell_word sheet c
whole_word sheet c = take-append-drop (sign_size sheet) (cell_word sheet c)
