-- The tokens of a whole canonical text.
use Rattle.std.proofs.Common.{◌≡◌, ℕ, ◌+◌, List, [], ◌∷◌, ◌++◌, length, map, true, refl, sym, ap, subst, ◌∙◌, append-nil, append_assoc, lit≤, lit<}
use Rattle.std.specs.Prelude.{codes, nat_eq}
use Rattle.std.specs.List.{flat_map, join_with_byte, starts_with, AllByRecursion}
use Rattle.std.proofs.lemmas.Grind.{flat_map-append}
use Rattle.text_lines.specs.Lines.{Line, spelled, text_of}
use Rattle.sndlib_grammar.specs.Tokens.{Lexeme, lexemes}
use Rattle.sndlib_grammar.specs.Grammar.{Word, Symbol, Left, Right, Name, File, IsFile, spelled as file_symbols, node, link, demand}
use Rattle.sndlib_grammar.specs.Rows.{NetRows, IsWord, names_of_nodes}
use Rattle.sndlib_grammar.specs.Text.{header, tokens_of}
use Rattle.sndlib_grammar.specs.Canonical.{first_line, opening_line, closing_line, section, node_line, link_line, demand_line, canonical_text}
use Rattle.sndlib_grammar.proofs.Lexing.{Piece, Opens, Closes, Named, bytes_of, Lexed, line_lexed, seen_from, IsLineOf, entries_lexed}
use Rattle.sndlib_grammar.proofs.Entries.{word_on, node_entry, link_entry, demand_entry, on_lines, node_pieces, link_pieces, demand_pieces}

-- a section and what follows it
pub section_lexed : {X : Type 0} (name : List ℕ) (words : X → Line) (pieces : X → List Piece) (xs : List X) (rest : List ℕ) (line : ℕ) (symbols : List Symbol) → IsWord name → AllByRecursion (IsLineOf words pieces) xs
    → ((at : ℕ) → Lexed (lexemes 0 rest at (line + 1 + length xs + 1)) symbols) → (at : ℕ) → Lexed (lexemes 0 (text_of (section name words xs) ++ rest) at line) (Name (word_on line name) ∷ Left ∷ (seen_from pieces (line + 1) xs ++ Right ∷ symbols))
section_lexed name words pieces xs rest line symbols is are behind at =
    let closed : (place : ℕ) → Lexed (lexemes 0 (codes ")" ++ 10 ∷ rest) place (line + 1 + length xs)) (Right ∷ symbols) = line_lexed Closes [] rest (line + 1 + length xs) symbols (tt, tt) behind in
    let entries = entries_lexed words pieces xs (codes ")" ++ 10 ∷ rest) (line + 1) (Right ∷ symbols) are closed in
    let whole = line_lexed (Named name) (Opens ∷ []) (text_of (map words xs) ++ (codes ")" ++ 10 ∷ rest)) line (seen_from pieces (line + 1) xs ++ Right ∷ symbols) (is, (tt, tt)) entries at in
    let bytes : text_of (section name words xs) ++ rest ≡ join_with_byte 32 (map bytes_of (Named name ∷ Opens ∷ [])) ++ 10 ∷ (text_of (map words xs) ++ (codes ")" ++ 10 ∷ rest)) =
    rw (flat_map-append spelled (map words xs) (closing_line ∷ [])) (append_assoc (join_with_byte 32 (opening_line name) ++ 10 ∷ []) (text_of (map words xs) ++ (spelled closing_line ++ [])) rest
    ∙ append_assoc (join_with_byte 32 (opening_line name)) (10 ∷ []) ((text_of (map words xs) ++ (spelled closing_line ++ [])) ++ rest)
    ∙ ap (λ l. join_with_byte 32 (opening_line name) ++ 10 ∷ l) (append_assoc (text_of (map words xs)) (spelled closing_line ++ []) rest)) in
    rw bytes whole

-- the first line, and where the tokens begin
pub tokens_behind : (rest : List ℕ) → tokens_of (spelled first_line ++ rest) ≡ lexemes 0 rest 51 2
tokens_behind rest = refl

pub header_first : (rest : List ℕ) → starts_with nat_eq (spelled first_line ++ rest) header ≡ true
header_first rest = refl

-- ---- the whole text

abbrev pub links_line : NetRows → ℕ
links_line rows = 2 + 1 + length rows.nodes + 1

abbrev pub demands_line : NetRows → ℕ
demands_line rows = links_line rows + 1 + length rows.links + 1

-- the file that the grammar finds in the canonical text of the rows
abbrev pub file_of : NetRows → File
file_of rows = record {
  before_nodes = [];
  nodes_name = word_on 2 (codes "NODES");
  nodes = on_lines node_entry 3 rows.nodes;
  before_links = [];
  links_name = word_on (links_line rows) (codes "LINKS");
  links = on_lines (link_entry (names_of_nodes rows)) (links_line rows + 1) rows.links;
  before_demands = [];
  demands_name = word_on (demands_line rows) (codes "DEMANDS");
  demands = on_lines (demand_entry (names_of_nodes rows)) (demands_line rows + 1) rows.demands;
  behind = [];
}

pub file_fits : (rows : NetRows) → IsFile (file_of rows)
file_fits rows = record { before_nodes = tt; nodes_name = refl; before_links = tt; links_name = refl; before_demands = tt; demands_name = refl; behind = tt }

-- the lines of all entries are their pieces
pub record AreLines (rows : NetRows) : Type 0 where
  pub nodes : AllByRecursion (IsLineOf node_line node_pieces) rows.nodes
  pub links : AllByRecursion (IsLineOf (link_line (names_of_nodes rows)) (link_pieces (names_of_nodes rows))) rows.links
  pub demands : AllByRecursion (IsLineOf (demand_line (names_of_nodes rows)) (demand_pieces (names_of_nodes rows))) rows.demands

-- the pieces of all entries are seen as the entries
pub record AreSeen (rows : NetRows) : Type 0 where
  pub nodes : (line : ℕ) → seen_from node_pieces line rows.nodes ≡ flat_map node (on_lines node_entry line rows.nodes)
  pub links : (line : ℕ) → seen_from (link_pieces (names_of_nodes rows)) line rows.links ≡ flat_map link (on_lines (link_entry (names_of_nodes rows)) line rows.links)
  pub demands : (line : ℕ) → seen_from (demand_pieces (names_of_nodes rows)) line rows.demands ≡ flat_map demand (on_lines (demand_entry (names_of_nodes rows)) line rows.demands)

is_nodes : IsWord (codes "NODES")
is_nodes = record { some = lit< tt; short = lit≤ tt; bytes = refl }

is_links : IsWord (codes "LINKS")
is_links = record { some = lit< tt; short = lit≤ tt; bytes = refl }

is_demands : IsWord (codes "DEMANDS")
is_demands = record { some = lit< tt; short = lit≤ tt; bytes = refl }

-- sections, one behind the other, as the grammar spells them
joined : (n l d : Word) (ns ls ds : List Symbol)
    → Name n ∷ Left ∷ (ns ++ Right ∷ (Name l ∷ Left ∷ (ls ++ Right ∷ (Name d ∷ Left ∷ (ds ++ Right ∷ []))))) ≡ ((Name n ∷ Left ∷ ns) ++ Right ∷ []) ++ (((Name l ∷ Left ∷ ls) ++ Right ∷ []) ++ (((Name d ∷ Left ∷ ds) ++ Right ∷ []) ++ []))
joined n l d ns ls ds =
    sym (ap (λ t. Name n ∷ Left ∷ t) (append_assoc ns (Right ∷ []) _
    ∙ ap (λ t. ns ++ Right ∷ Name l ∷ Left ∷ t) (append_assoc ls (Right ∷ []) _
    ∙ ap (λ t. ls ++ Right ∷ Name d ∷ Left ∷ t) (append_assoc ds (Right ∷ []) []))))

text_parts : (s1 s2 s3 : List Line) → text_of (first_line ∷ s1 ++ (s2 ++ s3)) ≡ spelled first_line ++ (text_of s1 ++ (text_of s2 ++ (text_of s3 ++ [])))
text_parts s1 s2 s3 =
    ap (λ (t : List ℕ). spelled first_line ++ t) (flat_map-append spelled s1 (s2 ++ s3)
    ∙ ap (λ (t : List ℕ). text_of s1 ++ t) (flat_map-append spelled s2 s3 ∙ ap (λ (t : List ℕ). text_of s2 ++ t) (sym (append-nil (text_of s3)))))

pub text_lexed : (rows : NetRows) → AreLines rows → AreSeen rows → Lexed (tokens_of (canonical_text rows)) (file_symbols (file_of rows))
text_lexed rows lines seen =
    let names = names_of_nodes rows in
    let third = section_lexed (codes "DEMANDS") (demand_line names) (demand_pieces names) rows.demands [] (demands_line rows) [] is_demands lines.demands (λ at. record { are = refl; short = tt }) in
    let second = section_lexed (codes "LINKS") (link_line names) (link_pieces names) rows.links (text_of (section (codes "DEMANDS") (demand_line names) rows.demands) ++ []) (links_line rows) _ is_links lines.links third in
    let rest = text_of (section (codes "LINKS") (link_line names) rows.links) ++ (text_of (section (codes "DEMANDS") (demand_line names) rows.demands) ++ []) in
    let first = section_lexed (codes "NODES") node_line node_pieces rows.nodes rest 2 _ is_nodes lines.nodes second 51 in
    let bytes : canonical_text rows ≡ spelled first_line ++ (text_of (section (codes "NODES") node_line rows.nodes) ++ rest) = text_parts (section (codes "NODES") node_line rows.nodes) (section (codes "LINKS") (link_line names) rows.links) (section (codes "DEMANDS") (demand_line names) rows.demands) in
    let tokens : tokens_of (canonical_text rows) ≡ lexemes 0 (text_of (section (codes "NODES") node_line rows.nodes) ++ rest) 51 2 = ap tokens_of bytes ∙ tokens_behind (text_of (section (codes "NODES") node_line rows.nodes) ++ rest) in
    let n = on_lines node_entry 3 rows.nodes in
    let l = on_lines (link_entry names) (links_line rows + 1) rows.links in
    let d = on_lines (demand_entry names) (demands_line rows + 1) rows.demands in
    let whole = rw (seen.nodes 3, seen.links (links_line rows + 1), seen.demands (demands_line rows + 1), joined (word_on 2 (codes "NODES")) (word_on (links_line rows) (codes "LINKS")) (word_on (demands_line rows) (codes "DEMANDS")) (flat_map node n) (flat_map link l) (flat_map demand d)) at first in
    subst (λ (ts : List Lexeme). Lexed ts (file_symbols (file_of rows))) (sym tokens) whole

pub text_first : (rows : NetRows) → starts_with nat_eq (canonical_text rows) header ≡ true
text_first rows = refl
