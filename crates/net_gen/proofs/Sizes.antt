-- A drawn text is shorter than the longest text that is read.
use Rattle.std.proofs.Common.{◌≡◌, ℕ, zero, suc, ◌+◌, ◌*◌, ◌%◌, ◌<◌, ◌≤◌, ◌^◌, List, [], ◌∷◌, ◌++◌, length, map, sym, ap, subst, ◌∙◌, arith, append_assoc, length-append}
use Rattle.std.specs.Fmt.{decimal}
use Rattle.std.proofs.lemmas.Fmt.{length-decimal-le}
use Rattle.mcf_limits.specs.declared.TheConstants.{MAX_NET_BYTES}
use Rattle.rand_pcg.specs.Lcg.{Lcg}
use Rattle.text_lines.specs.Lines.{Line, spelled, text_of}
use Rattle.sndlib_grammar.specs.Rows.{names_of_nodes}
use Rattle.sndlib_grammar.specs.Canonical.{closing_line, node_line, link_line, demand_line}
use Rattle.net_gen.specs.Draws.{generator_of, past}
use Rattle.net_gen.specs.Generated.{AreCounts, generated_names, generated_node, generated_link, generated_demand, generated_rows, generated_text, link_ends, link_capacity, drawn_ends, words_before_link}
use Rattle.net_gen.specs.Lines.{drawn_link_line, drawn_demand_line}
use Rattle.net_gen.proofs.Drawing.{ends_are_nodes, drawn_are_nodes}
use Rattle.net_gen.proofs.Printing.{small_capacity}
use Rattle.net_gen.proofs.Putting.{lines_below, one_more, link_line_is, demand_line_is}
use Rattle.net_gen.proofs.Whole.{opens_nodes, opens_links, opens_demands, parts_are}

-- ---- one line

-- a byte behind each word, and one more
abbrev size : Line → ℕ
size [] = 1
size (w ∷ ws) = length w + 1 + size ws

spelled_size : (words : Line) → length (spelled words) ≤ size words
spelled_size [] = omega arith
spelled_size (w ∷ []) = omega (arith, length-append w (10 ∷ []))
spelled_size (w ∷ next ∷ words) =
    let rest = spelled_size (next ∷ words) in
    let group : spelled (w ∷ next ∷ words) ≡ w ++ (32 ∷ spelled (next ∷ words)) = grouped w next words in
    omega (arith, ap length group, length-append w (32 ∷ spelled (next ∷ words)), rest)
  where
    grouped : (w next : List ℕ) (words : Line) → spelled (w ∷ next ∷ words) ≡ w ++ (32 ∷ spelled (next ∷ words))
    grouped w next words = append_assoc w _ (10 ∷ [])

digits_short : (n : ℕ) → n < 10 ^ 12 → length (decimal n) ≤ 12
digits_short n small = length-decimal-le 12 n (omega arith) small (omega arith)

node_short : (i : ℕ) → i < 10 ^ 12 → length (spelled (node_line (generated_node i))) ≤ 100
node_short i small = omega (arith, spelled_size (node_line (generated_node i)), digits_short i small)

link_short : (g : Lcg) (nodes i : ℕ) → 2 ≤ nodes → nodes ≤ 10 ^ 12 → i < 10 ^ 12 → length (spelled (link_line (generated_names nodes) (generated_link g nodes i))) ≤ 100
link_short g nodes i some most small =
    let ends = ends_are_nodes g nodes i some in
    let s = (link_ends g nodes i).0 in
    let t = (link_ends g nodes i).1 in
    let capacity = link_capacity g nodes i in
    let drawn : length (spelled (drawn_link_line i s t capacity)) ≤ 100 = omega (arith, spelled_size (drawn_link_line i s t capacity), digits_short i small, digits_short s (omega (arith, ends.0)), digits_short t (omega (arith, ends.1)), digits_short capacity (small_capacity g nodes i)) in
    subst (λ (l : Line). length (spelled l) ≤ 100) (link_line_is g nodes i some) drawn

demand_short : (g : Lcg) (nodes i : ℕ) → 2 ≤ nodes → nodes ≤ 10 ^ 12 → i < 10 ^ 12 → length (spelled (demand_line (generated_names nodes) (generated_demand g nodes i))) ≤ 100
demand_short g nodes i some most small =
    let ends = drawn_are_nodes g nodes some in
    let s = (drawn_ends g nodes).0 in
    let t = (drawn_ends g nodes).1 in
    let drawn : length (spelled (drawn_demand_line i s t)) ≤ 100 = omega (arith, spelled_size (drawn_demand_line i s t), digits_short i small, digits_short s (omega (arith, ends.0)), digits_short t (omega (arith, ends.1)), digits_short (1 + i % 10) (omega arith)) in
    subst (λ (l : Line). length (spelled l) ≤ 100) (demand_line_is g nodes i some) drawn

-- ---- all lines

lines_short : {X : Type 0} (line : X → Line) (row : ℕ → X) (n : ℕ) → ((i : ℕ) → i < n → length (spelled (line (row i))) ≤ 100) → length (lines_below line row n) ≤ n * 100
lines_short line row zero each = omega arith
lines_short line row (suc n) each =
    let before = lines_short line row n (λ i lt. each i (omega arith)) in
    let last = each n (omega arith) in
    let next : n + 1 ≡ suc n = omega arith in
    let whole : lines_below line row n ++ spelled (line (row n)) ≡ lines_below line row (suc n) = one_more line row n ∙ ap (lines_below line row) next in
    omega (arith, before, last, ap length (sym whole), length-append (lines_below line row n) (spelled (line (row n))))

seven : (o n p l q d c : List ℕ) → length ((((((o ++ n) ++ p) ++ l) ++ q) ++ d) ++ c) ≡ length o + length n + length p + length l + length q + length d + length c
seven o n p l q d c =
    omega (arith, length-append o n, length-append (o ++ n) p, length-append ((o ++ n) ++ p) l, length-append (((o ++ n) ++ p) ++ l) q, length-append ((((o ++ n) ++ p) ++ l) ++ q) d, length-append (((((o ++ n) ++ p) ++ l) ++ q) ++ d) c)

pub text_short : (seed nodes links demands : ℕ) → AreCounts nodes links demands → length (generated_text seed nodes links demands) ≤ MAX_NET_BYTES
text_short seed nodes links demands are =
    let rows = generated_rows seed nodes links demands in
    let g = generator_of seed in
    let h = past (words_before_link nodes links) g in
    let some = are.some_nodes in
    let most : nodes ≤ 10 ^ 12 = omega (arith, are.most_nodes) in
    let ns = lines_short node_line generated_node nodes (λ i lt. node_short i (omega arith)) in
    let ls = lines_short (link_line (generated_names nodes)) (λ i. generated_link (past (words_before_link nodes i) g) nodes i) links (λ i lt. link_short (past (words_before_link nodes i) g) nodes i some most (omega (arith, are.most_links))) in
    let ds = lines_short (demand_line (generated_names nodes)) (λ i. generated_demand (past (2 * i) h) nodes i) demands (λ i lt. demand_short (past (2 * i) h) nodes i some most (omega (arith, are.most_demands))) in
    let parts = seven opens_nodes (text_of (map node_line rows.nodes)) opens_links (text_of (map (link_line (names_of_nodes rows)) rows.links)) opens_demands (text_of (map (demand_line (names_of_nodes rows)) rows.demands)) (spelled closing_line) in
    omega (arith, ns, ls, ds, parts, ap length (sym (parts_are rows)), are.most_nodes, are.most_links, are.most_demands)
