-- Where nothing is wrong with matrices, the rows of each are sound, and scaling accepts them.
use Rattle.std.proofs.Common.{◌≡◌, ℕ, zero, suc, ◌+◌, ◌≤◌, List, [], ◌∷◌, ◌++◌, length, refl, ap, sym, subst, ◌∙◌, arith, Option, Some, None, Bool, true, false}
use Rattle.std.specs.Prelude.{map, All, Ok, ◌||◌, slice_get, if◌then◌else◌}
use Rattle.std.specs.List.{AllByRecursion, list_any, list_all}
use Rattle.std.proofs.lemmas.List.{length-map, length-append}
use Rattle.std.proofs.lemmas.List.Elements.{All-from_recursion}
use Rattle.std.proofs.lemmas.Option.{slice_get_past}
use Rattle.mcf_limits.specs.declared.TheConstants.{MAX_DEMANDS, MAX_MATRICES, MAX_NODES}
use Rattle.sndlib_grammar.specs.declared.refusal.NetKind.TheVariants as netkinds
use Rattle.sndlib_grammar.specs.Grammar.{Word, NodeEntry, DemandEntry, Entries, node, demand}
use Rattle.sndlib_grammar.specs.Faults.{node_ids, demand_ids, texts, or_else as first_fault, line_of, first_of, first_repeated, unknown_of_demand, bad_of_demand, at_line, fault_of, too_many as too_many_entries, repeated as repeated_entry, unknown, bad_number as bad_entry}
use Rattle.sndlib_grammar.specs.Rows.{NetNode, NetDemand, NetRows, names_of_nodes, net_node, net_demand, IsWord, IsNetNode, IsNetDemand, AreDistinct, AreNetRows}
use Rattle.sndlib_grammar.specs.Words.{OnSymbols, AreWordEntries}
use Rattle.sndlib_grammar.proofs.RowFacts.{first_none, second_none, rows_hold}
use Rattle.sndlib_grammar.proofs.RowWords.{through}
use Rattle.sndlib_grammar.proofs.TextSound.{none_repeated}
use Rattle.std.proofs.lemmas.List.Elements.{recursion_from_All}
use Rattle.unit_scale.specs.declared.options.NetOptions.{NetOptions}
use Rattle.unit_scale.specs.Sizes.{is_fine_link, is_fine_demand, is_left_out}
use Rattle.unit_scale.specs.Scaling.{or_else, first_line, first_large, is_large_link, no_demand, refusal, scaled_with, unless_refused, scaled_of, too_fine, too_large, refused}
use Rattle.matrix_batch.specs.Grammar.{MatrixEntry, spelled}
use Rattle.matrix_batch.specs.declared.list_refusal.ListKind.{ListKind}
use Rattle.matrix_batch.specs.declared.list_refusal.ListKind.TheVariants as listkinds
use Rattle.matrix_batch.specs.Matrices.{Matrix, rows_of, decimals_for, matrix_of}
use Rattle.matrix_batch.specs.Faults.{all_demands, lesser_line, too_many, line_if_among, repeated, unknown_node, bad_number, fine_link, fine_in, large_in, empty_in, in_list, in_net, batch_fault}
use Rattle.matrix_batch.specs.Laws.{MatricesAreScaled}
use Rattle.matrix_batch.proofs.Words.{first_matrix, matrices_words}

-- ---- no fault, kind by kind

not_first : {X : Type 0} (a b : Option X) → or_else a b ≡ None → a ≡ None
not_first None b h = refl
not_first (Some x) b h = absurd cc

not_later : {X : Type 0} (a b : Option X) → or_else a b ≡ None → b ≡ None
not_later None b h = h
not_later (Some x) b h = absurd cc

not_in_list : (kind : ListKind) (o : Option ℕ) → in_list kind o ≡ None → o ≡ None
not_in_list kind None h = refl
not_in_list kind (Some n) h = absurd cc

not_in_net : (o : Option ℕ) → in_net o ≡ None → o ≡ None
not_in_net None h = refl
not_in_net (Some n) h = absurd cc

record AreSound (rows : NetRows) (o : NetOptions) (ms : List MatrixEntry) : Type 0 where
  count : too_many ms ≡ None
  names : repeated [] ms ≡ None
  ends : unknown_node rows ms ≡ None
  numbers : bad_number ms ≡ None
  links : fine_link o.modules rows ≡ None
  fine : first_of (fine_in rows) ms ≡ None
  large : first_of (large_in o rows) ms ≡ None
  some : first_of (empty_in rows) ms ≡ None

sound_parts : (rows : NetRows) (o : NetOptions) (ms : List MatrixEntry) → batch_fault rows o ms ≡ None → AreSound rows o ms
sound_parts rows o ms h =
    let a = in_list listkinds.TooMany (too_many ms) in
    let b = in_list listkinds.Duplicate (repeated [] ms) in
    let c = in_list listkinds.UnknownNode (unknown_node rows ms) in
    let d = in_list listkinds.BadNumber (bad_number ms) in
    let e = in_net (fine_link o.modules rows) in
    let f = in_list listkinds.TooFine (first_of (fine_in rows) ms) in
    let g = in_list listkinds.TooLarge (first_of (large_in o rows) ms) in
    let l = in_list listkinds.NoDemand (first_of (empty_in rows) ms) in
    let h1 = not_later a (or_else b (or_else c (or_else d (or_else e (or_else f (or_else g l)))))) h in
    let h2 = not_later b (or_else c (or_else d (or_else e (or_else f (or_else g l))))) h1 in
    let h3 = not_later c (or_else d (or_else e (or_else f (or_else g l)))) h2 in
    let h4 = not_later d (or_else e (or_else f (or_else g l))) h3 in
    let h5 = not_later e (or_else f (or_else g l)) h4 in
    let h6 = not_later f (or_else g l) h5 in
    record {
      count = not_in_list listkinds.TooMany (too_many ms) (not_first a (or_else b (or_else c (or_else d (or_else e (or_else f (or_else g l)))))) h);
      names = not_in_list listkinds.Duplicate (repeated [] ms) (not_first b (or_else c (or_else d (or_else e (or_else f (or_else g l))))) h1);
      ends = not_in_list listkinds.UnknownNode (unknown_node rows ms) (not_first c (or_else d (or_else e (or_else f (or_else g l)))) h2);
      numbers = not_in_list listkinds.BadNumber (bad_number ms) (not_first d (or_else e (or_else f (or_else g l))) h3);
      links = not_in_net (fine_link o.modules rows) (not_first e (or_else f (or_else g l)) h4);
      fine = not_in_list listkinds.TooFine (first_of (fine_in rows) ms) (not_first f (or_else g l) h5);
      large = not_in_list listkinds.TooLarge (first_of (large_in o rows) ms) (not_first g l h6);
      some = not_in_list listkinds.NoDemand (first_of (empty_in rows) ms) (not_later g l h6);
    }

-- ---- of each matrix

-- nothing is wrong with the entries of this matrix, and its words are words
pub record IsSoundEntry (rows : NetRows) (m : MatrixEntry) : Type 0 where
  pub count : length m.demands ≤ MAX_DEMANDS
  pub ids : line_of (first_repeated [] (map (λ (d : DemandEntry). d.id) m.demands)) ≡ None
  pub ends : first_of (unknown_of_demand (names_of_nodes rows)) m.demands ≡ None
  pub numbers : first_of bad_of_demand m.demands ≡ None
  pub words : AllByRecursion (λ d. OnSymbols IsWord (demand d)) m.demands

-- nor with its numbers in units
record IsGood (rows : NetRows) (o : NetOptions) (m : MatrixEntry) : Type 0 where
  entry : IsSoundEntry rows m
  fine : fine_in rows m ≡ None
  large : large_in o rows m ≡ None
  some : empty_in rows m ≡ None

within : (xs : List Word) (n : ℕ) → line_of (slice_get xs n) ≡ None → length xs ≤ n
within [] n h = omega arith
within (x ∷ xs) zero h = absurd cc
within (x ∷ xs) (suc n) h = let rest = within xs n h in omega arith

second_line : (a b : Option ℕ) → lesser_line a b ≡ None → b ≡ None
second_line None b h = h
second_line (Some a) None h = refl
second_line (Some a) (Some b) h = absurd cc

first_line_of_two : (a b : Option ℕ) → lesser_line a b ≡ None → a ≡ None
first_line_of_two None b h = refl
first_line_of_two (Some a) None h = absurd cc
first_line_of_two (Some a) (Some b) h = absurd cc

pub names_counted : (ms : List MatrixEntry) → too_many ms ≡ None → length ms ≤ MAX_MATRICES
names_counted ms h =
    let names = map (λ (m : MatrixEntry). m.name) ms in
    let few = within names MAX_MATRICES (first_line_of_two (line_of (slice_get names MAX_MATRICES)) (line_of (slice_get (map (λ (d : DemandEntry). d.id) (all_demands ms)) MAX_DEMANDS)) h) in
    omega (arith, few, length-map ms (λ (m : MatrixEntry). m.name))

pub all_counted : (ms : List MatrixEntry) → too_many ms ≡ None → length (all_demands ms) ≤ MAX_DEMANDS
all_counted ms h =
    let ids = map (λ (d : DemandEntry). d.id) (all_demands ms) in
    let few = within ids MAX_DEMANDS (second_line (line_of (slice_get (map (λ (m : MatrixEntry). m.name) ms) MAX_MATRICES)) (line_of (slice_get ids MAX_DEMANDS)) h) in
    omega (arith, few, length-map (all_demands ms) (λ (d : DemandEntry). d.id))

both_none : {X : Type 0} (f : X → Option ℕ) (xs ys : List X) → first_of f (xs ++ ys) ≡ None → (first_of f xs ≡ None) × (first_of f ys ≡ None)
both_none f [] ys h = (refl, h)
both_none f (x ∷ xs) ys h =
    let rest = both_none f xs ys (second_none (f x) (first_of f (xs ++ ys)) h) in
    (ap (λ o. first_fault o (first_of f xs)) (first_none (f x) (first_of f (xs ++ ys)) h) ∙ rest.0, rest.1)

pub sound_entries : (rows : NetRows) (known : List (List ℕ)) (ms : List MatrixEntry) → length (all_demands ms) ≤ MAX_DEMANDS → repeated known ms ≡ None
    → first_of (unknown_of_demand (names_of_nodes rows)) (all_demands ms) ≡ None → first_of bad_of_demand (all_demands ms) ≡ None → OnSymbols IsWord (spelled ms) → AllByRecursion (IsSoundEntry rows) ms
sound_entries rows known [] count ids ends numbers words = tt
sound_entries rows known (m ∷ ms) count ids ends numbers words =
    let size : length (m.demands ++ all_demands ms) ≡ length m.demands + length (all_demands ms) = length-append m.demands (all_demands ms) in
    let more = repeated (known ++ m.name.text ∷ []) ms in
    let own = line_of (first_repeated [] (map (λ (d : DemandEntry). d.id) m.demands)) in
    let later = not_later (line_if_among known m.name) (or_else own more) ids in
    let e = both_none (unknown_of_demand (names_of_nodes rows)) m.demands (all_demands ms) ends in
    let n = both_none bad_of_demand m.demands (all_demands ms) numbers in
    let w = first_matrix IsWord m ms words in
    (record { count = omega (arith, count, size); ids = not_first own more later; ends = e.0; numbers = n.0; words = w.0 }, sound_entries rows (known ++ m.name.text ∷ []) ms (omega (arith, count, size)) (not_later own more later) e.1 n.1 w.1)

goods : (rows : NetRows) (o : NetOptions) (ms : List MatrixEntry) → AllByRecursion (IsSoundEntry rows) ms
    → first_of (fine_in rows) ms ≡ None → first_of (large_in o rows) ms ≡ None → first_of (empty_in rows) ms ≡ None → AllByRecursion (IsGood rows o) ms
goods rows o [] entries fine large some = tt
goods rows o (m ∷ ms) entries fine large some = (
  record {
    entry = entries.0;
    fine = first_none (fine_in rows m) (first_of (fine_in rows) ms) fine;
    large = first_none (large_in o rows m) (first_of (large_in o rows) ms) large;
    some = first_none (empty_in rows m) (first_of (empty_in rows) ms) some;
  },
  goods rows o ms entries.1
      (second_none (fine_in rows m) (first_of (fine_in rows) ms) fine)
      (second_none (large_in o rows m) (first_of (large_in o rows) ms) large)
      (second_none (empty_in rows m) (first_of (empty_in rows) ms) some),
)

-- ---- the rows of a matrix: those of a network that has the nodes and the matrix's demands

abbrev named : NetNode → NodeEntry
named n = record { id = record { text = n.id; line = 0 }; place = None }

abbrev with_nodes : NetRows → List DemandEntry → Entries
with_nodes rows ds = record { nodes = map named rows.nodes; links = []; demands = ds; skipped = 0 }

names_again : (ns : List NetNode) → texts (map (λ (n : NodeEntry). n.id) (map named ns)) ≡ map (λ (n : NetNode). n.id) ns
names_again [] = refl
names_again (n ∷ ns) = ap (λ l. n.id ∷ l) (names_again ns)

nodes_words : (ns : List NetNode) → AllByRecursion IsNetNode ns → AllByRecursion (λ n. OnSymbols IsWord (node n)) (map named ns)
nodes_words [] h = tt
nodes_words (n ∷ ns) h = ((h.0.id, tt), nodes_words ns h.1)

nothing : (a b c d : Option ℕ) → a ≡ None → b ≡ None → c ≡ None → d ≡ None
    → first_fault (at_line netkinds.TooMany a) (first_fault (at_line netkinds.Duplicate b) (first_fault (at_line netkinds.UnknownNode c) (at_line netkinds.BadNumber d))) ≡ None
nothing a b c d x y z w = rw (x, y, z, w) refl

neither : (a b : Option ℕ) → a ≡ None → b ≡ None → first_fault a b ≡ None
neither a b x y = rw (x, y) refl

no_word : (xs : List Word) (n : ℕ) → length xs ≤ n → line_of (slice_get xs n) ≡ None
no_word xs n h = ap line_of (slice_get_past xs n h)

no_fault : (rows : NetRows) (m : MatrixEntry) → AreNetRows rows → IsSoundEntry rows m → fault_of (with_nodes rows m.demands) ≡ None
no_fault rows m are good =
    let e = with_nodes rows m.demands in
    let known = names_of_nodes rows in
    let same : texts (node_ids e) ≡ known = names_again rows.nodes in
    let nodes : length (node_ids e) ≤ MAX_NODES = omega (arith, length-map (map named rows.nodes) (λ (n : NodeEntry). n.id), length-map rows.nodes named, are.node_count) in
    let demands : length (demand_ids e) ≤ MAX_DEMANDS = omega (arith, length-map m.demands (λ (d : DemandEntry). d.id), good.count) in
    let distinct : AreDistinct ([] ++ texts (node_ids e)) = subst AreDistinct (sym same) are.node_names in
    nothing (too_many_entries e) (repeated_entry e) (unknown e) (bad_entry e)
    (neither (line_of (slice_get (node_ids e) MAX_NODES)) (line_of (slice_get (demand_ids e) MAX_DEMANDS)) (no_word (node_ids e) MAX_NODES nodes) (no_word (demand_ids e) MAX_DEMANDS demands))
    (neither (line_of (first_repeated [] (node_ids e))) (line_of (first_repeated [] (demand_ids e))) (ap line_of (none_repeated [] (node_ids e) distinct)) good.ids)
    (subst (λ k. first_of (unknown_of_demand k) m.demands ≡ None) (sym same) good.ends)
    good.numbers

pub rows_are : (rows : NetRows) (m : MatrixEntry) → AreNetRows rows → IsSoundEntry rows m → AreNetRows (rows_of rows m)
rows_are rows m are good =
    let e = with_nodes rows m.demands in
    let same : texts (node_ids e) ≡ names_of_nodes rows = names_again rows.nodes in
    let words : AreWordEntries e = record { nodes = nodes_words rows.nodes (recursion_from_All IsNetNode rows.nodes are.nodes); links = tt; demands = good.words } in
    let hold = rows_hold 0 e words (no_fault rows m are good) in
    let size : length (map net_node (map named rows.nodes)) ≡ length rows.nodes = length-map (map named rows.nodes) net_node ∙ length-map rows.nodes named in
    record {
      node_count = are.node_count;
      link_count = are.link_count;
      demand_count = subst (λ k. length (map (net_demand k) m.demands) ≤ MAX_DEMANDS) same hold.demand_count;
      node_names = are.node_names;
      link_names = are.link_names;
      demand_names = subst (λ k. AreDistinct (map (λ (d : NetDemand). d.id) (map (net_demand k) m.demands))) same hold.demand_names;
      nodes = are.nodes;
      links = are.links;
      demands = subst (λ k. All (IsNetDemand k) (map (net_demand (names_of_nodes rows)) m.demands)) size
          (subst (λ k. All (IsNetDemand (length (map net_node (map named rows.nodes)))) (map (net_demand k) m.demands)) same hold.demands);
    }

-- ---- and scaling accepts them

none_line : {X : Type 0} (p : X → Bool) (line : X → ℕ) (xs : List X) → list_any p xs ≡ false → first_line p line xs ≡ None
none_line p line [] h = refl
none_line p line (x ∷ xs) h =
    let go = elim (p x) as (λ (c : Bool). (c || list_any p xs) ≡ false → (if c then Some (line x) else first_line p line xs) ≡ None)
    [ true ↦ λ a. absurd cc | false ↦ λ a. none_line p line xs a ] in
    go h

if_none : {X : Type 0} (b : Bool) (x : X) (other : Option X) → (if b then Some x else other) ≡ None → (b ≡ false) × (other ≡ None)
if_none true x other h = absurd cc
if_none false x other h = (refl, h)

if_not : {X : Type 0} (b : Bool) (x : X) → b ≡ false → (if b then Some x else None) ≡ None
if_not b x h = rw h refl

no_kind : (a b c : Option ℕ) → a ≡ None → b ≡ None → c ≡ None → or_else (refused netkinds.TooFine a) (or_else (refused netkinds.TooLarge b) (refused netkinds.NoDemand c)) ≡ None
no_kind a b c x y z = rw (x, y, z) refl

not_either : (a b : Option ℕ) → a ≡ None → b ≡ None → or_else a b ≡ None
not_either a b x y = rw (x, y) refl

is_scaled : (rows : NetRows) (o : NetOptions) (m : MatrixEntry) → fine_link o.modules rows ≡ None → IsGood rows o m → scaled_of (rows_of rows m) o ≡ Ok (matrix_of rows o m).net
is_scaled rows o m links good =
    let own = rows_of rows m in
    let s = decimals_for o own in
    let large = if_none (list_any (is_large_link o.modules s) rows.links) m.name.line (first_large s 0 own.demands) good.large in
    let kept = if_none (list_all is_left_out own.demands) m.name.line None good.some in
    let accepted : refusal o.modules s own ≡ None = no_kind (too_fine o.modules own) (too_large o.modules s own) (no_demand own)
    (not_either (first_line (is_fine_link o.modules) (λ l. l.line) rows.links) (first_line is_fine_demand (λ d. d.line) own.demands) links good.fine)
    (not_either (first_line (is_large_link o.modules s) (λ l. l.line) rows.links) (first_large s 0 own.demands) (none_line (is_large_link o.modules s) (λ l. l.line) rows.links large.0) large.1)
    (if_not (list_all is_left_out own.demands) own.end_line kept.0) in
    ap (unless_refused (scaled_with o s own)) accepted

pub scaled : MatricesAreScaled
scaled rows o text batch are (ms, is, none, same) =
    let sound = sound_parts rows o ms none in
    let each = goods rows o ms (sound_entries rows [] ms (all_counted ms sound.count) sound.names sound.ends sound.numbers (matrices_words text ms is)) sound.fine sound.large sound.some in
    let Q = λ (m : Matrix). AreNetRows m.rows × (scaled_of m.rows o ≡ Ok m.net) in
    subst (All Q) (sym same) (All-from_recursion Q (map (matrix_of rows o) ms)
    (through (matrix_of rows o) (IsGood rows o) Q (λ m good. (rows_are rows m are good.entry, is_scaled rows o m sound.links good)) ms each))
