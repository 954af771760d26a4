-- Lines, one for each number.
use Rattle.std.proofs.Common.{◌≡◌, ℕ, zero, suc, ◌+◌, ◌%◌, ◌<◌, ◌≤◌, List, [], ◌∷◌, ◌++◌, map, sym, ap, ◌∙◌, arith, append_assoc}
use Rattle.std.specs.Prelude.{codes, sum_by}
use Rattle.std.specs.Fmt.{decimal}
use Rattle.std.specs.List.{range_with_len}
use Rattle.std.proofs.lemmas.Grind.{flat_map-append}
use Rattle.std.proofs.lemmas.List.{append-nil, map-append}
use Rattle.std.proofs.lemmas.List.FromFn.{get_or-map-range_with_len, map-range_with_len_more}
use Rattle.std.proofs.lemmas.List.Sums.{sum_by-append}
use Rattle.std.proofs.lemmas.Simd.{map-map}
use Rattle.text_lines.specs.Lines.{Line, spelled, text_of}
use Rattle.sndlib_grammar.specs.Canonical.{name_at}
use Rattle.rand_pcg.specs.Lcg.{Lcg}
use Rattle.sndlib_grammar.specs.Canonical.{link_line, demand_line}
use Rattle.net_gen.specs.Generated.{generated_names, generated_node, generated_link, generated_demand, link_ends, link_capacity, drawn_ends, words_of_link, words_before_link}
use Rattle.net_gen.specs.Lines.{drawn_link_line, drawn_demand_line}
use Rattle.net_gen.proofs.Drawing.{ends_are_nodes, drawn_are_nodes}

-- the lines for the numbers below n
abbrev pub lines_below : {X : Type 0} → (X → Line) → (ℕ → X) → ℕ → List ℕ
lines_below line row n = text_of (map line (map row (range_with_len 0 n)))

pub ap2 : {A B C : Type 0} (f : A → B → C) {a x : A} {b y : B} → a ≡ x → b ≡ y → f a b ≡ f x y
ap2 f {a} {x} {b} {y} p q = ap (λ t. f t b) p ∙ ap (f x) q

pub ap3 : {A B C D : Type 0} (f : A → B → C → D) {a x : A} {b y : B} {c z : C} → a ≡ x → b ≡ y → c ≡ z → f a b c ≡ f x y z
ap3 f {a} {x} {b} {y} {c} {z} p q r = ap (λ t. f t b c) p ∙ ap (λ t. f x t c) q ∙ ap (f x y) r

pub one_more : {X : Type 0} (line : X → Line) (row : ℕ → X) (n : ℕ) → lines_below line row n ++ spelled (line (row n)) ≡ lines_below line row (n + 1)
one_more line row n =
    let here : 0 + n ≡ n = omega arith in
    sym (ap (λ xs. text_of (map line xs)) (map-range_with_len_more row 0 n n here)
    ∙ ap text_of (map-append line (map row (range_with_len 0 n)) (row n ∷ []))
    ∙ flat_map-append spelled (map line (map row (range_with_len 0 n))) (line (row n) ∷ [])
    ∙ ap (λ (l : List ℕ). lines_below line row n ++ l) (append-nil (spelled (line (row n)))))

-- a text with the lines below n, and one more
pub line_more : {X : Type 0} (line : X → Line) (row : ℕ → X) (n : ℕ) (old text longer : List ℕ) → text ≡ old ++ lines_below line row n → longer ≡ text ++ spelled (line (row n)) → longer ≡ old ++ lines_below line row (n + 1)
line_more line row n old text longer so_far last =
    last ∙ ap (λ (l : List ℕ). l ++ spelled (line (row n))) so_far ∙ append_assoc old (lines_below line row n) (spelled (line (row n))) ∙ ap (λ (l : List ℕ). old ++ l) (one_more line row n)

sum_more : (f : ℕ → ℕ) (a n : ℕ) → sum_by f (range_with_len a (suc n)) ≡ sum_by f (range_with_len a n) + f (a + n)
sum_more f a zero = let e : a ≡ a + 0 = omega arith in ap (λ k. 0 + f k) e
sum_more f a (suc n) =
    let e : a + 1 + n ≡ a + suc n = omega arith in
    let rest : sum_by f (range_with_len (a + 1) (suc n)) ≡ sum_by f (range_with_len (a + 1) n) + f (a + suc n) = sum_more f (a + 1) n ∙ ap (λ k. sum_by f (range_with_len (a + 1) n) + f k) e in
    let long : sum_by f (range_with_len a (suc (suc n))) ≡ 0 + f a + sum_by f (range_with_len (a + 1) (suc n)) = sum_by-append f (a ∷ []) (range_with_len (a + 1) (suc n)) in
    let short : sum_by f (range_with_len a (suc n)) ≡ 0 + f a + sum_by f (range_with_len (a + 1) n) = sum_by-append f (a ∷ []) (range_with_len (a + 1) n) in
    omega (arith, rest, long, short)

pub words_more : (nodes i : ℕ) → words_before_link nodes i + words_of_link nodes i ≡ words_before_link nodes (i + 1)
words_more nodes i =
    let here : 0 + i ≡ i = omega arith in
    let next : suc i ≡ i + 1 = omega arith in
    sym (ap (words_before_link nodes) (sym next) ∙ sum_more (words_of_link nodes) 0 i ∙ ap (λ k. words_before_link nodes i + words_of_link nodes k) here)

-- ---- names

pub name_is : (nodes k : ℕ) → k < nodes → name_at (generated_names nodes) k ≡ codes "N" ++ decimal k
name_is nodes k lt =
    let here : 0 + k ≡ k = omega arith in
    ap (λ names. name_at names k) (map-map (λ n. n.id) generated_node (range_with_len 0 nodes)) ∙ get_or-map-range_with_len (λ i. (generated_node i).id) 0 nodes k k [] lt here

-- with the names of the ends
abbrev link_with : ℕ → List ℕ → List ℕ → ℕ → Line
link_with i s t capacity = [] ∷ [] ∷ (codes "L" ++ decimal i) ∷ codes "(" ∷ s ∷ t ∷ codes ")" ∷ decimal capacity ∷ codes "0" ∷ codes "0" ∷ codes "0" ∷ codes "(" ∷ codes ")" ∷ []

abbrev demand_with : ℕ → List ℕ → List ℕ → Line
demand_with i s t = [] ∷ [] ∷ (codes "D" ++ decimal i) ∷ codes "(" ∷ s ∷ t ∷ codes ")" ∷ codes "1" ∷ decimal (1 + i % 10) ∷ codes "UNLIMITED" ∷ []

pub link_line_is : (g : Lcg) (nodes i : ℕ) → 2 ≤ nodes → drawn_link_line i (link_ends g nodes i).0 (link_ends g nodes i).1 (link_capacity g nodes i) ≡ link_line (generated_names nodes) (generated_link g nodes i)
link_line_is g nodes i some =
    let inside = ends_are_nodes g nodes i some in
    sym (ap2 (λ (s t : List ℕ). link_with i s t (link_capacity g nodes i)) (name_is nodes (link_ends g nodes i).0 inside.0) (name_is nodes (link_ends g nodes i).1 inside.1))

pub demand_line_is : (g : Lcg) (nodes i : ℕ) → 2 ≤ nodes → drawn_demand_line i (drawn_ends g nodes).0 (drawn_ends g nodes).1 ≡ demand_line (generated_names nodes) (generated_demand g nodes i)
demand_line_is g nodes i some =
    let inside = drawn_are_nodes g nodes some in
    sym (ap2 (λ (s t : List ℕ). demand_with i s t) (name_is nodes (drawn_ends g nodes).0 inside.0) (name_is nodes (drawn_ends g nodes).1 inside.1))
