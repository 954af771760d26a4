-- The canonical text of rows reads back.
use Rattle.std.proofs.Common.{◌≡◌, ℕ, ◌+◌, ◌<◌, List, [], ◌∷◌, ◌++◌, length, map, Option, Some, None, Ok, refl, sym, ◌∙◌, arith}
use Rattle.std.specs.Prelude.{All, IfSome, slice_get}
use Rattle.std.specs.List.{AllByRecursion}
use Rattle.std.proofs.lemmas.List.{get_or-map, length-map}
use Rattle.std.proofs.lemmas.List.Elements.{All-head, All-tail}
use Rattle.std.proofs.lemmas.Option.{slice_get_past}
use Rattle.mcf_limits.specs.declared.TheConstants.{MAX_DEMANDS, MAX_LINKS, MAX_NODES}
use Rattle.sndlib_grammar.specs.Grammar.{NodeEntry, LinkEntry, DemandEntry, entries, node, link, demand}
use Rattle.sndlib_grammar.specs.Refusals.{AreEntriesOf}
use Rattle.sndlib_grammar.specs.Text.{tokens_of, end_of}
use Rattle.sndlib_grammar.specs.Faults.{node_ids, texts, too_many, repeated, unknown, bad_number, fault_of, first_repeated, unknown_of_link, unknown_of_demand, bad_of_link, bad_of_demand}
use Rattle.sndlib_grammar.specs.Rows.{NetNode, NetLink, NetDemand, NetRows, AreNetRows, IsNetNode, IsNetLink, IsNetDemand, IsWord, names_of_nodes, net_node, net_link, net_demand, net_rows}
use Rattle.sndlib_grammar.specs.Net.{IsJudged, IsNetOf}
use Rattle.sndlib_grammar.proofs.Judged.{text_only}
use Rattle.sndlib_grammar.specs.Canonical.{AreModules, ArePrintable, ReadsBack, canonical_text, name_at, node_line, link_line, demand_line, without_lines, link_without_line, demand_without_line}
use Rattle.sndlib_grammar.proofs.Lexing.{Piece, Gap, Opens, Closes, Named, IsPiece, IsLineOf}
use Rattle.sndlib_grammar.proofs.Entries.{node_entry, link_entry, demand_entry, on_lines, place_pieces, node_pieces, link_pieces, demand_pieces, node_bytes, link_bytes, demand_bytes, node_seen, link_seen, demand_seen, all_seen}
use Rattle.sndlib_grammar.proofs.Sections.{AreLines, AreSeen, file_of, file_fits, links_line, demands_line, text_lexed, text_first}
use Rattle.sndlib_grammar.proofs.TextSound.{none_repeated, ends_are_known, link_good, demand_good, none_of_all, ids_are, length-on_lines}
use Rattle.sndlib_grammar.proofs.Same.{node_again, link_again, demand_again, all_again, all_back}

by_recursion : {X : Type 0} (P : X → Type 0) (xs : List X) → All P xs → AllByRecursion P xs
by_recursion P [] all = tt
by_recursion P (x ∷ xs) all = (All-head P x xs all, by_recursion P xs (All-tail P x xs all))

both : {X : Type 0} (P Q R : X → Type 0) (xs : List X) → ((x : X) → P x → Q x → R x) → AllByRecursion P xs → AllByRecursion Q xs → AllByRecursion R xs
both P Q R [] f p q = tt
both P Q R (x ∷ xs) f p q = (f x p.0 q.0, both P Q R xs f p.1 q.1)

one : {X : Type 0} (P R : X → Type 0) (xs : List X) → ((x : X) → P x → R x) → AllByRecursion P xs → AllByRecursion R xs
one P R [] f p = tt
one P R (x ∷ xs) f p = (f x p.0, one P R xs f p.1)

-- ---- pieces

joined_pieces : (xs ys : List Piece) → AllByRecursion IsPiece xs → AllByRecursion IsPiece ys → AllByRecursion IsPiece (xs ++ ys)
joined_pieces [] ys a b = b
joined_pieces (x ∷ xs) ys a b = (a.0, joined_pieces xs ys a.1 b)

word_pieces : (ws : List (List ℕ)) → AllByRecursion IsWord ws → AllByRecursion IsPiece (map Named ws)
word_pieces [] are = tt
word_pieces (w ∷ ws) are = (are.0, word_pieces ws are.1)

placed : (p : Option (List (List ℕ))) → IfSome p (All IsWord) → AllByRecursion IsPiece (place_pieces p)
placed None are = tt
placed (Some ws) are = joined_pieces (Opens ∷ map Named ws) (Closes ∷ []) (tt, word_pieces ws (by_recursion IsWord ws are)) (tt, tt)

node_is : (n : NetNode) → IsNetNode n → IsLineOf node_line node_pieces n
node_is n is = record { line = node_bytes n; each = (tt, (is.id, placed n.place is.place)) }

name_word : (rows : NetRows) (i : ℕ) → AreNetRows rows → i < length rows.nodes → IsWord (name_at (names_of_nodes rows) i)
name_word rows i sound lt =
    let d : NetNode = record { id = []; place = None } in
    rw (get_or-map (λ (n : NetNode). n.id) rows.nodes i d [] lt) (sound.nodes i d lt).id

link_is : (rows : NetRows) (l : NetLink) → AreNetRows rows → IsNetLink (length rows.nodes) l → IsLineOf (link_line (names_of_nodes rows)) (link_pieces (names_of_nodes rows)) l
link_is rows l sound is = record {
  line = link_bytes (names_of_nodes rows) l;
  each =
      let costs = word_pieces l.costs (by_recursion IsWord l.costs is.costs) in
      let modules = word_pieces l.modules (by_recursion IsWord l.modules is.modules) in
      let s = name_word rows l.source sound is.source in
      let t = name_word rows l.target sound is.target in
      let known = names_of_nodes rows in
      let front : List Piece = Gap ∷ Named l.id ∷ Opens ∷ Named (name_at known l.source) ∷ Named (name_at known l.target) ∷ Closes ∷ Named l.installed ∷ map Named l.costs in
      joined_pieces (front ++ Opens ∷ map Named l.modules) (Closes ∷ [])
      (joined_pieces front (Opens ∷ map Named l.modules) (tt, (is.id, (tt, (s, (t, (tt, (is.installed, costs))))))) (tt, modules)) (tt, tt);
}

demand_is : (rows : NetRows) (d : NetDemand) → AreNetRows rows → IsNetDemand (length rows.nodes) d → IsLineOf (demand_line (names_of_nodes rows)) (demand_pieces (names_of_nodes rows)) d
demand_is rows d sound is = record {
  line = demand_bytes (names_of_nodes rows) d;
  each = (tt, (is.id, (tt, (name_word rows d.source sound is.source, (name_word rows d.target sound is.target, (tt, (is.unit, (is.value, (is.longest, tt)))))))));
}

lines_are : (rows : NetRows) → AreNetRows rows → AreLines rows
lines_are rows sound = record {
  nodes = one IsNetNode (IsLineOf node_line node_pieces) rows.nodes node_is (by_recursion IsNetNode rows.nodes sound.nodes);
  links = one (IsNetLink (length rows.nodes)) _ rows.links (λ l is. link_is rows l sound is) (by_recursion (IsNetLink (length rows.nodes)) rows.links sound.links);
  demands = one (IsNetDemand (length rows.nodes)) _ rows.demands (λ d is. demand_is rows d sound is) (by_recursion (IsNetDemand (length rows.nodes)) rows.demands sound.demands);
}

-- ---- symbols

seen_are : (rows : NetRows) → ArePrintable rows → AreSeen rows
seen_are rows p =
    let known = names_of_nodes rows in
    let links = by_recursion (IsNetLink (length rows.nodes)) rows.links p.sound.links in
    let modules = by_recursion (λ (l : NetLink). AreModules l.modules) rows.links p.modules in
    record {
      nodes = λ line. all_seen node_pieces node_entry node line rows.nodes (one IsNetNode _ rows.nodes (λ n is k. node_seen k n) (by_recursion IsNetNode rows.nodes p.sound.nodes));
      links = λ line. all_seen (link_pieces known) (link_entry known) link line rows.links (both (IsNetLink (length rows.nodes)) (λ l. AreModules l.modules) _ rows.links (λ l is are k. link_seen known k l is.cost_count are) links modules);
      demands = λ line. all_seen (demand_pieces known) (demand_entry known) demand line rows.demands (one (IsNetDemand (length rows.nodes)) _ rows.demands (λ d is k. demand_seen known k d) (by_recursion (IsNetDemand (length rows.nodes)) rows.demands p.sound.demands));
    }

-- ---- nothing is wrong

node_names : (rows : NetRows) → texts (node_ids (entries (file_of rows))) ≡ names_of_nodes rows
node_names rows = ids_are (λ (n : NodeEntry). n.id) (λ (n : NetNode). n.id) node_entry 3 rows.nodes (λ k n. refl)

few_enough : (rows : NetRows) → AreNetRows rows → too_many (entries (file_of rows)) ≡ None
few_enough rows sound =
    let known = names_of_nodes rows in
    let nodes = on_lines node_entry 3 rows.nodes in
    let links = on_lines (link_entry known) (links_line rows + 1) rows.links in
    let demands = on_lines (demand_entry known) (demands_line rows + 1) rows.demands in
    let n : length (map (λ (x : NodeEntry). x.id) nodes) ≡ length rows.nodes = length-map nodes (λ (x : NodeEntry). x.id) ∙ length-on_lines node_entry 3 rows.nodes in
    let l : length (map (λ (x : LinkEntry). x.id) links) ≡ length rows.links = length-map links (λ (x : LinkEntry). x.id) ∙ length-on_lines (link_entry known) (links_line rows + 1) rows.links in
    let d : length (map (λ (x : DemandEntry). x.id) demands) ≡ length rows.demands = length-map demands (λ (x : DemandEntry). x.id) ∙ length-on_lines (demand_entry known) (demands_line rows + 1) rows.demands in
    let n_none : slice_get (map (λ (x : NodeEntry). x.id) nodes) MAX_NODES ≡ None = slice_get_past (map (λ (x : NodeEntry). x.id) nodes) MAX_NODES (omega (arith, sound.node_count)) in
    let l_none : slice_get (map (λ (x : LinkEntry). x.id) links) MAX_LINKS ≡ None = slice_get_past (map (λ (x : LinkEntry). x.id) links) MAX_LINKS (omega (arith, sound.link_count)) in
    let d_none : slice_get (map (λ (x : DemandEntry). x.id) demands) MAX_DEMANDS ≡ None = slice_get_past (map (λ (x : DemandEntry). x.id) demands) MAX_DEMANDS (omega (arith, sound.demand_count)) in
    rw (n_none, l_none, d_none) refl

all_apart : (rows : NetRows) → AreNetRows rows → repeated (entries (file_of rows)) ≡ None
all_apart rows sound =
    let known = names_of_nodes rows in
    let nodes = on_lines node_entry 3 rows.nodes in
    let links = on_lines (link_entry known) (links_line rows + 1) rows.links in
    let demands = on_lines (demand_entry known) (demands_line rows + 1) rows.demands in
    let n : first_repeated [] (map (λ (x : NodeEntry). x.id) nodes) ≡ None = none_repeated [] (map (λ (x : NodeEntry). x.id) nodes) (rw (node_names rows) sound.node_names) in
    let l : first_repeated [] (map (λ (x : LinkEntry). x.id) links) ≡ None = none_repeated [] (map (λ (x : LinkEntry). x.id) links)
    (rw (ids_are (λ (x : LinkEntry). x.id) (λ (x : NetLink). x.id) (link_entry known) (links_line rows + 1) rows.links (λ k x. refl)) sound.link_names) in
    let d : first_repeated [] (map (λ (x : DemandEntry). x.id) demands) ≡ None = none_repeated [] (map (λ (x : DemandEntry). x.id) demands)
    (rw (ids_are (λ (x : DemandEntry). x.id) (λ (x : NetDemand). x.id) (demand_entry known) (demands_line rows + 1) rows.demands (λ k x. refl)) sound.demand_names) in
    rw (n, l, d) refl

length-names : (rows : NetRows) → length (names_of_nodes rows) ≡ length rows.nodes
length-names rows = length-map rows.nodes (λ (n : NetNode). n.id)

ends_known : (rows : NetRows) → AreNetRows rows → unknown (entries (file_of rows)) ≡ None
ends_known rows sound =
    let known = names_of_nodes rows in
    let size = length-names rows in
    let l = none_of_all (unknown_of_link known) (link_entry known) (links_line rows + 1) rows.links
    (one (IsNetLink (length rows.nodes)) _ rows.links (λ l is k. ends_are_known known l.source l.target k (omega (arith, is.source)) (omega (arith, is.target))) (by_recursion (IsNetLink (length rows.nodes)) rows.links sound.links)) in
    let d = none_of_all (unknown_of_demand known) (demand_entry known) (demands_line rows + 1) rows.demands
    (one (IsNetDemand (length rows.nodes)) _ rows.demands (λ d is k. ends_are_known known d.source d.target k (omega (arith, is.source)) (omega (arith, is.target))) (by_recursion (IsNetDemand (length rows.nodes)) rows.demands sound.demands)) in
    rw (node_names rows, l, d) refl

numbers_good : (rows : NetRows) → ArePrintable rows → bad_number (entries (file_of rows)) ≡ None
numbers_good rows p =
    let known = names_of_nodes rows in
    let links = by_recursion (IsNetLink (length rows.nodes)) rows.links p.sound.links in
    let modules = by_recursion (λ (l : NetLink). AreModules l.modules) rows.links p.modules in
    let l = none_of_all bad_of_link (link_entry known) (links_line rows + 1) rows.links (both (IsNetLink (length rows.nodes)) (λ l. AreModules l.modules) _ rows.links (λ l is are k. link_good known k l is.number are) links modules) in
    let d = none_of_all bad_of_demand (demand_entry known) (demands_line rows + 1) rows.demands
    (one (IsNetDemand (length rows.nodes)) _ rows.demands (λ d is k. demand_good known k d is.unit_number is.value_number is.longest_number) (by_recursion (IsNetDemand (length rows.nodes)) rows.demands p.sound.demands)) in
    rw (l, d) refl

nothing_wrong : (rows : NetRows) → ArePrintable rows → fault_of (entries (file_of rows)) ≡ None
nothing_wrong rows p = rw (few_enough rows p.sound, all_apart rows p.sound, ends_known rows p.sound, numbers_good rows p) refl

-- ---- the rows again

same_rows : (rows : NetRows) (end : ℕ) → ArePrintable rows → without_lines (net_rows end (entries (file_of rows))) ≡ without_lines rows
same_rows rows end p =
    let known = names_of_nodes rows in
    let size = length-names rows in
    let links = by_recursion (IsNetLink (length rows.nodes)) rows.links p.sound.links in
    let modules = by_recursion (λ (l : NetLink). AreModules l.modules) rows.links p.modules in
    let n : map net_node (on_lines node_entry 3 rows.nodes) ≡ rows.nodes = all_back net_node node_entry 3 rows.nodes node_again in
    let l : map link_without_line (map (net_link known) (on_lines (link_entry known) (links_line rows + 1) rows.links)) ≡ map link_without_line rows.links = all_again (net_link known) link_without_line (link_entry known) (links_line rows + 1) rows.links
    (both (IsNetLink (length rows.nodes)) (λ l. AreModules l.modules) _ rows.links (λ l is are k. link_again known k l p.sound.node_names (omega (arith, is.source)) (omega (arith, is.target)) is.cost_count are) links modules) in
    let d : map demand_without_line (map (net_demand known) (on_lines (demand_entry known) (demands_line rows + 1) rows.demands)) ≡ map demand_without_line rows.demands = all_again (net_demand known) demand_without_line (demand_entry known) (demands_line rows + 1) rows.demands
    (one (IsNetDemand (length rows.nodes)) _ rows.demands (λ d is k. demand_again known k d p.sound.node_names (omega (arith, is.source)) (omega (arith, is.target))) (by_recursion (IsNetDemand (length rows.nodes)) rows.demands p.sound.demands)) in
    rw (node_names rows, n, l, d) refl

pub reads_back : (rows : NetRows) → ArePrintable rows → ReadsBack rows
reads_back rows p =
    let text = canonical_text rows in
    let e = entries (file_of rows) in
    let lexed = text_lexed rows (lines_are rows p.sound) (seen_are rows p) in
    let found : NetRows = net_rows (end_of text) e in
    let of : AreEntriesOf (tokens_of text) e = record { short = lexed.short; network = record { file = file_of rows; fits = file_fits rows; text = lexed.are; entries_are = refl } } in
    let judged : IsJudged (tokens_of text) (end_of text) (Ok found) = record { found = e; entries = of; sound = nothing_wrong rows p; numbered = refl } in
    let is : IsNetOf text (Ok found) = rw (text_first rows) judged in
    record { found = found; reads = sym (text_only text (Ok found) is); same = same_rows rows (end_of text) p }
