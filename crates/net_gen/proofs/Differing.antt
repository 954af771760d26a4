-- The ends of drawn links and demands differ.
use Rattle.std.proofs.Common.{◌≡◌, ℕ, ◌+◌, ◌-◌, ◌*◌, ◌%◌, ◌<◌, ◌≤◌, Bool, true, false, nat_lt, refl, sym, ap, ◌∙◌, arith}
use Rattle.std.specs.Prelude.{◌≢◌, All, if◌then◌else◌}
use Rattle.std.proofs.lemmas.Bool.Decides.{nat_tests}
use Rattle.std.proofs.Math.Nat.{add-mod_right, mod-eq_of_lt, mod-lt}
use Rattle.rand_pcg.specs.Lcg.{Lcg}
use Rattle.net_gen.specs.Draws.{generator_of, past, drawn, drawn_below}
use Rattle.net_gen.specs.Generated.{AreCounts, drawn_ends, link_ends, generated_link, generated_demand, generated_rows, words_before_link}
use Rattle.net_gen.proofs.WordFacts.{all_rows}

-- a node, and one that is up to n - 1 places ahead of it in a ring of n
apart : (a b n : ℕ) → a < n → b + 1 < n → a ≢ (a + 1 + b) % n
apart a b n inside short = by_test (nat_lt (a + 1 + b) n) refl
  where
    less : (x y : ℕ) → nat_lt x y ≡ true → x < y
    less x y e = grind (arith, nat_tests)

    most : (x y : ℕ) → nat_lt x y ≡ false → y ≤ x
    most x y e = grind (arith, nat_tests)

    by_test : (t : Bool) → nat_lt (a + 1 + b) n ≡ t → a ≢ (a + 1 + b) % n
    by_test true e = λ same. absurd (omega (arith, same, mod-eq_of_lt (less (a + 1 + b) n e)))
    by_test false e =
        let over = most (a + 1 + b) n e in
        let round : a + 1 + b ≡ (a + 1 + b - n) + n = omega arith in
        let low : a + 1 + b - n < n = omega arith in
        let left : (a + 1 + b) % n ≡ a + 1 + b - n = ap (λ (k : ℕ). k % n) round ∙ add-mod_right (a + 1 + b - n) n ∙ mod-eq_of_lt low in
        λ same. absurd (omega (arith, same, left))

drawn_differ : (g : Lcg) (nodes : ℕ) → 2 ≤ nodes → (drawn_ends g nodes).0 ≢ (drawn_ends g nodes).1
drawn_differ g nodes some =
    let inside : drawn_below g 0 nodes < nodes = mod-lt (drawn g 0) (omega arith) in
    let ahead : drawn_below g 1 (nodes - 1) < nodes - 1 = mod-lt (drawn g 1) (omega arith) in
    apart (drawn_below g 0 nodes) (drawn_below g 1 (nodes - 1)) nodes inside (omega (arith, ahead))

abbrev Differ : ℕ × ℕ → Type 0
Differ p = p.0 ≢ p.1

links_differ : (g : Lcg) (nodes i : ℕ) → 2 ≤ nodes → Differ (link_ends g nodes i)
links_differ g nodes i some = by_test (nat_lt i nodes) refl
  where
    less : (x y : ℕ) → nat_lt x y ≡ true → x < y
    less x y e = grind (arith, nat_tests)

    by_test : (t : Bool) → nat_lt i nodes ≡ t → Differ (if t then (i, (i + 1) % nodes) else drawn_ends g nodes)
    by_test true e =
        let next : i + 1 + 0 ≡ i + 1 = omega arith in
        λ same. apart i 0 nodes (less i nodes e) (omega arith) (same ∙ ap (λ (k : ℕ). k % nodes) (sym next))
    by_test false e = drawn_differ g nodes some

pub all_links_differ : (seed nodes links demands : ℕ) → AreCounts nodes links demands → All (λ l. l.source ≢ l.target) (generated_rows seed nodes links demands).links
all_links_differ seed nodes links demands are =
    all_rows (λ l. l.source ≢ l.target) (λ i. generated_link (past (words_before_link nodes i) (generator_of seed)) nodes i) links (λ i lt. links_differ (past (words_before_link nodes i) (generator_of seed)) nodes i are.some_nodes)

pub all_demands_differ : (seed nodes links demands : ℕ) → AreCounts nodes links demands → All (λ d. d.source ≢ d.target) (generated_rows seed nodes links demands).demands
all_demands_differ seed nodes links demands are =
    let g = past (words_before_link nodes links) (generator_of seed) in
    all_rows (λ d. d.source ≢ d.target) (λ i. generated_demand (past (2 * i) g) nodes i) demands (λ i lt. drawn_differ (past (2 * i) g) nodes are.some_nodes)
