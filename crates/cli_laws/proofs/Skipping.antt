-- A network text skips no more sections than it has bytes, and so no more than a certificate can count.
use Rattle.std.proofs.Common.{◌≡◌, ℕ, ◌+◌, ◌≤◌, Bool, true, false, List, [], ◌∷◌, ◌++◌, length, length-append, length-drop, map, arith, ap, subst, ◌∙◌}
use Rattle.std.specs.Prelude.{◌==◌, MatchBool, Result, Ok, Err, nat_eq}
use Rattle.std.specs.List.{after_first, flat_map, position_or_len, starts_with}
use Rattle.std.proofs.lemmas.List.{length-map}
use Rattle.mcf_limits.specs.declared.TheConstants.{MAX_NET_BYTES}
use Rattle.sndlib_grammar.specs.Grammar.{Entries, File, Skip, Symbol, demand, entries, link, node, section, skip, spelled, symbol}
use Rattle.sndlib_grammar.specs.Rows.{NetRows}
use Rattle.sndlib_grammar.specs.Text.{end_of, header, tokens_of}
use Rattle.sndlib_grammar.specs.Net.{AreRowsOf, IsNetOf, rows_of}
use Rattle.sndlib_grammar.specs.declared.refusal.NetRefusal.{NetRefusal}
use Rattle.sndlib_grammar.specs.declared.refusal.NetKind.TheVariants as netkinds
use Rattle.sndlib_grammar.proofs.Judged.{text_judged}
use Rattle.sndlib_grammar.proofs.Lengths.{length-lexemes}
use Rattle.cert_lines.specs.declared.net_line.TheConstants.{MAX_COUNT}

-- each skipped section has symbols
skips_fit : (skips : List Skip) → length skips ≤ length (flat_map skip skips)
skips_fit [] = omega arith
skips_fit (s ∷ ss) = omega (arith, length-append (skip s) (flat_map skip ss), skips_fit ss)

behind_section : (xs ys zs : List Symbol) → length zs ≤ length (xs ++ (ys ++ zs))
behind_section xs ys zs = omega (arith, length-append xs (ys ++ zs), length-append ys zs)

one_part : (xs ys zs : List Symbol) (n m : ℕ) → n ≤ length xs → m ≤ length zs → n + m ≤ length (xs ++ (ys ++ zs))
one_part xs ys zs n m h k = omega (arith, h, k, length-append xs (ys ++ zs), length-append ys zs)

entries_fit : (f : File) → (entries f).skipped ≤ length (spelled f)
entries_fit f =
    let last = flat_map skip f.behind in
    let third = flat_map skip f.before_demands ++ (section f.demands_name (flat_map demand f.demands) ++ last) in
    let second = flat_map skip f.before_links ++ (section f.links_name (flat_map link f.links) ++ third) in
    let c = one_part (flat_map skip f.before_demands) (section f.demands_name (flat_map demand f.demands)) last _ _ (skips_fit f.before_demands) (skips_fit f.behind) in
    let b = one_part (flat_map skip f.before_links) (section f.links_name (flat_map link f.links)) third _ _ (skips_fit f.before_links) c in
    let a = one_part (flat_map skip f.before_nodes) (section f.nodes_name (flat_map node f.nodes)) second _ _ (skips_fit f.before_nodes) b in
    omega (arith, a)

first_of : (b : Bool) (P Q : Type 0) → (Q → ⊥) → MatchBool b P Q → P
first_of true P Q none h = h
first_of false P Q none h = absurd (none h)

no_refusal : (rows : NetRows) (r : NetRefusal) → (let x : Result NetRows NetRefusal = Ok rows in x) ≡ Err r → ⊥
no_refusal rows r e = absurd cc

-- the entries that the grammar gives a network text, of which these are the rows
pub rows_are : (text : List ℕ) (rows : NetRows) → rows_of text ≡ Ok rows → AreRowsOf (tokens_of text) (end_of text) rows
rows_are text rows e =
    first_of (starts_with nat_eq text header) (AreRowsOf (tokens_of text) (end_of text) rows) ((let x : Result NetRows NetRefusal = Ok rows in x) ≡ Err (record { line = 1; kind = netkinds.NoHeader }))
    (no_refusal rows (record { line = 1; kind = netkinds.NoHeader })) (subst (IsNetOf text) e (text_judged text))

tokens_fit : (text : List ℕ) → length (tokens_of text) ≤ length text
tokens_fit text =
    let n = position_or_len (λ b. b == 10) text + 1 in
    omega (arith, length-lexemes 0 (after_first (λ b. b == 10) text) n 2, length-drop n text)

pub skipped_fit : (text : List ℕ) (rows : NetRows) → rows_of text ≡ Ok rows → rows.skipped ≤ length text
skipped_fit text rows e =
    let are = rows_are text rows e in
    let network = are.entries.network in
    let count : rows.skipped ≡ (entries network.file).skipped = ap (λ (r : NetRows). r.skipped) are.numbered ∙ ap (λ (found : Entries). found.skipped) network.entries_are in
    let size : length (map symbol (tokens_of text)) ≡ length (spelled network.file) = ap (length {A = Symbol}) network.text in
    omega (arith, count, size, length-map (tokens_of text) symbol, entries_fit network.file, tokens_fit text)

-- within the limit of network texts a certificate can count them
pub can_be_counted : (text : List ℕ) (rows : NetRows) → length text ≤ MAX_NET_BYTES → rows_of text ≡ Ok rows → rows.skipped ≤ MAX_COUNT
can_be_counted text rows short e = omega (arith, short, skipped_fit text rows e)
