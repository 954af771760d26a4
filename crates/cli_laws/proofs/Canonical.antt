-- The canonical text of rows skips no section, so of rows without skipped sections it is a network text with the same rows.
use Rattle.std.proofs.Common.{◌≡◌, ℕ, ◌<◌, List, [], ◌∷◌, ◌++◌, length, map, Option, Some, None, Ok, refl, sym, ap, ◌∙◌}
use Rattle.std.specs.Prelude.{All, IfSome}
use Rattle.std.specs.List.{AllByRecursion}
use Rattle.std.proofs.lemmas.List.{get_or-map}
use Rattle.std.proofs.lemmas.List.Elements.{recursion_from_All}
use Rattle.sndlib_grammar.specs.Grammar.{Entries, IsNetwork, demand, entries, link, node}
use Rattle.sndlib_grammar.specs.Refusals.{symbols_of}
use Rattle.sndlib_grammar.specs.Rows.{AreNetRows, IsNetDemand, IsNetLink, IsNetNode, IsWord, NetDemand, NetLink, NetNode, NetRows, names_of_nodes}
use Rattle.sndlib_grammar.specs.Text.{tokens_of}
use Rattle.sndlib_grammar.specs.Net.{rows_of}
use Rattle.sndlib_grammar.specs.Canonical.{AreModules, ArePrintable, canonical_text, demand_line, link_line, name_at, node_line}
use Rattle.sndlib_grammar.proofs.Lexing.{Closes, Gap, IsLineOf, IsPiece, Named, Opens, Piece}
use Rattle.sndlib_grammar.proofs.Entries.{all_seen, demand_bytes, demand_entry, demand_pieces, demand_seen, link_bytes, link_entry, link_pieces, link_seen, node_bytes, node_entry, node_pieces, node_seen, place_pieces}
use Rattle.sndlib_grammar.proofs.Sections.{AreLines, AreSeen, file_fits, file_of, text_lexed}
use Rattle.sndlib_grammar.proofs.ReadBack.{reads_back}
use Rattle.sndlib_grammar.proofs.Whole.{one_reading}
use Rattle.cli_laws.specs.Batched.{IsTextOfRows}
use Rattle.cli_laws.proofs.Skipping.{rows_are}

both : {X : Type 0} (P Q R : X → Type 0) (xs : List X) → ((x : X) → P x → Q x → R x) → AllByRecursion P xs → AllByRecursion Q xs → AllByRecursion R xs
both P Q R [] f p q = tt
both P Q R (x ∷ xs) f p q = (f x p.0 q.0, both P Q R xs f p.1 q.1)

one : {X : Type 0} (P R : X → Type 0) (xs : List X) → ((x : X) → P x → R x) → AllByRecursion P xs → AllByRecursion R xs
one P R [] f p = tt
one P R (x ∷ xs) f p = (f x p.0, one P R xs f p.1)

-- ---- the lines of rows, and what the grammar sees of them

joined_pieces : (xs ys : List Piece) → AllByRecursion IsPiece xs → AllByRecursion IsPiece ys → AllByRecursion IsPiece (xs ++ ys)
joined_pieces [] ys a b = b
joined_pieces (x ∷ xs) ys a b = (a.0, joined_pieces xs ys a.1 b)

word_pieces : (ws : List (List ℕ)) → AllByRecursion IsWord ws → AllByRecursion IsPiece (map Named ws)
word_pieces [] are = tt
word_pieces (w ∷ ws) are = (are.0, word_pieces ws are.1)

placed : (p : Option (List (List ℕ))) → IfSome p (All IsWord) → AllByRecursion IsPiece (place_pieces p)
placed None are = tt
placed (Some ws) are = joined_pieces (Opens ∷ map Named ws) (Closes ∷ []) (tt, word_pieces ws (recursion_from_All IsWord ws are)) (tt, tt)

node_is : (n : NetNode) → IsNetNode n → IsLineOf node_line node_pieces n
node_is n is = record { line = node_bytes n; each = (tt, (is.id, placed n.place is.place)) }

name_word : (rows : NetRows) (i : ℕ) → AreNetRows rows → i < length rows.nodes → IsWord (name_at (names_of_nodes rows) i)
name_word rows i sound lt =
    let d : NetNode = record { id = []; place = None } in
    rw (get_or-map (λ (n : NetNode). n.id) rows.nodes i d [] lt) (sound.nodes i d lt).id

link_is : (rows : NetRows) (l : NetLink) → AreNetRows rows → IsNetLink (length rows.nodes) l → IsLineOf (link_line (names_of_nodes rows)) (link_pieces (names_of_nodes rows)) l
link_is rows l sound is = record {
  line = link_bytes (names_of_nodes rows) l;
  each =
      let costs = word_pieces l.costs (recursion_from_All IsWord l.costs is.costs) in
      let modules = word_pieces l.modules (recursion_from_All IsWord l.modules is.modules) in
      let s = name_word rows l.source sound is.source in
      let t = name_word rows l.target sound is.target in
      let known = names_of_nodes rows in
      let front : List Piece = Gap ∷ Named l.id ∷ Opens ∷ Named (name_at known l.source) ∷ Named (name_at known l.target) ∷ Closes ∷ Named l.installed ∷ map Named l.costs in
      joined_pieces (front ++ Opens ∷ map Named l.modules) (Closes ∷ [])
      (joined_pieces front (Opens ∷ map Named l.modules) (tt, (is.id, (tt, (s, (t, (tt, (is.installed, costs))))))) (tt, modules)) (tt, tt);
}

demand_is : (rows : NetRows) (d : NetDemand) → AreNetRows rows → IsNetDemand (length rows.nodes) d → IsLineOf (demand_line (names_of_nodes rows)) (demand_pieces (names_of_nodes rows)) d
demand_is rows d sound is = record {
  line = demand_bytes (names_of_nodes rows) d;
  each = (tt, (is.id, (tt, (name_word rows d.source sound is.source, (name_word rows d.target sound is.target, (tt, (is.unit, (is.value, (is.longest, tt)))))))));
}

lines_are : (rows : NetRows) → AreNetRows rows → AreLines rows
lines_are rows sound = record {
  nodes = one IsNetNode (IsLineOf node_line node_pieces) rows.nodes node_is (recursion_from_All IsNetNode rows.nodes sound.nodes);
  links = one (IsNetLink (length rows.nodes)) _ rows.links (λ l is. link_is rows l sound is) (recursion_from_All (IsNetLink (length rows.nodes)) rows.links sound.links);
  demands = one (IsNetDemand (length rows.nodes)) _ rows.demands (λ d is. demand_is rows d sound is) (recursion_from_All (IsNetDemand (length rows.nodes)) rows.demands sound.demands);
}

seen_are : (rows : NetRows) → ArePrintable rows → AreSeen rows
seen_are rows p =
    let known = names_of_nodes rows in
    let links = recursion_from_All (IsNetLink (length rows.nodes)) rows.links p.sound.links in
    let modules = recursion_from_All (λ (l : NetLink). AreModules l.modules) rows.links p.modules in
    record {
      nodes = λ line. all_seen node_pieces node_entry node line rows.nodes (one IsNetNode _ rows.nodes (λ n is k. node_seen k n) (recursion_from_All IsNetNode rows.nodes p.sound.nodes));
      links = λ line. all_seen (link_pieces known) (link_entry known) link line rows.links (both (IsNetLink (length rows.nodes)) (λ l. AreModules l.modules) _ rows.links (λ l is are k. link_seen known k l is.cost_count are) links modules);
      demands = λ line. all_seen (demand_pieces known) (demand_entry known) demand line rows.demands (one (IsNetDemand (length rows.nodes)) _ rows.demands (λ d is k. demand_seen known k d) (recursion_from_All (IsNetDemand (length rows.nodes)) rows.demands p.sound.demands));
    }

-- ---- no section is skipped

none_skipped : (rows found : NetRows) → ArePrintable rows → rows_of (canonical_text rows) ≡ Ok found → found.skipped ≡ 0
none_skipped rows found p e =
    let text = canonical_text rows in
    let symbols = symbols_of (tokens_of text) in
    let are = rows_are text found e in
    let lexed = text_lexed rows (lines_are rows p.sound) (seen_are rows p) in
    let own : IsNetwork symbols (entries (file_of rows)) = record { file = file_of rows; fits = file_fits rows; text = lexed.are; entries_are = refl } in
    let same : are.found ≡ entries (file_of rows) = one_reading symbols are.found (entries (file_of rows)) are.entries.network own in
    ap (λ (r : NetRows). r.skipped) are.numbered ∙ ap (λ (x : Entries). x.skipped) same

pub text_of_rows : (rows : NetRows) → ArePrintable rows → rows.skipped ≡ 0 → IsTextOfRows rows (canonical_text rows)
text_of_rows rows p none =
    let back = reads_back rows p in
    record { found = back.found; read = back.reads; alike = record { same = back.same; skipped = none_skipped rows back.found p back.reads ∙ sym none } }
