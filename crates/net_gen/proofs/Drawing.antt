-- The generator behind some words, and behind more; ends and capacities by its words.
use Rattle.std.proofs.Common.{◌≡◌, ℕ, zero, suc, ◌+◌, ◌-◌, ◌%◌, ◌<◌, ◌≤◌, Bool, true, false, nat_lt, refl, sym, ap, ◌∙◌, arith}
use Rattle.std.specs.Prelude.{if◌then◌else◌, ◌==◌}
use Rattle.std.proofs.Math.Nat.{mod-lt}
use Rattle.std.proofs.lemmas.Bool.Decides.{nat_tests}
use Rattle.rand_pcg.specs.Lcg.{Lcg, next, state_after}
use Rattle.rand_pcg.specs.Pcg.{multiplier_128, pcg64}
use Rattle.net_gen.specs.Draws.{past, drawn, drawn_below}
use Rattle.net_gen.specs.Generated.{drawn_ends, link_ends, link_capacity, words_of_ends}

pub past_none : (g : Lcg) → past 0 g ≡ g
unfolding past state_after
past_none g = refl

pub past_one : (g : Lcg) → (pcg64 g).1 ≡ past 1 g
unfolding past state_after
past_one g = refl

one_more : (k : ℕ) (g : Lcg) → past (suc k) g ≡ past k (next 128 multiplier_128 g)
unfolding past state_after
one_more k g = refl

pub past_past : (a b : ℕ) (g : Lcg) → past a (past b g) ≡ past (b + a) g
past_past a zero g = let e : a ≡ 0 + a = omega arith in ap (past a) (past_none g) ∙ ap (λ k. past k g) e
past_past a (suc b) g =
    let e : suc (b + a) ≡ suc b + a = omega arith in
    ap (past a) (one_more b g) ∙ past_past a b (next 128 multiplier_128 g) ∙ sym (one_more (b + a) g) ∙ ap (λ k. past k g) e

pub drawn_past : (k a : ℕ) (g : Lcg) → drawn (past a g) k ≡ drawn g (a + k)
unfolding drawn
drawn_past k a g = ap (λ (h : Lcg). (pcg64 h).0) (past_past k a g)

drawn_none : (g : Lcg) → (pcg64 g).0 ≡ drawn g 0
unfolding drawn
drawn_none g = ap (λ (h : Lcg). (pcg64 h).0) (sym (past_none g))

-- ---- one word

pub next_below : (g h : Lcg) (w count n : ℕ) → (w, h) ≡ pcg64 g → count ≡ n → w % count ≡ drawn_below g 0 n
next_below g h w count n e is = ap (λ (p : ℕ × Lcg). p.0 % count) e ∙ ap (λ v. v % count) (drawn_none g) ∙ ap (λ m. drawn g 0 % m) is

pub next_past : (g h : Lcg) (w : ℕ) → (w, h) ≡ pcg64 g → h ≡ past 1 g
next_past g h w e = ap (λ (p : ℕ × Lcg). p.1) e ∙ past_one g

-- ---- words behind words

pub then_past : (a b : ℕ) (g h k : Lcg) → h ≡ past a g → k ≡ past b h → k ≡ past (a + b) g
then_past a b g h k is after = after ∙ ap (past b) is ∙ past_past b a g

pub ends_are : (g h : Lcg) (nodes source ahead : ℕ) → source ≡ drawn_below g 0 nodes → h ≡ past 1 g → ahead ≡ drawn_below h 0 (nodes - 1)
    → ◌≡◌ {A = ℕ × ℕ} (source, (source + 1 + ahead) % nodes) (drawn_ends g nodes)
ends_are g h nodes source ahead first is second =
    let behind : ahead ≡ drawn_below g 1 (nodes - 1) = second ∙ ap (λ (k : Lcg). drawn_below k 0 (nodes - 1)) is ∙ ap (λ v. v % (nodes - 1)) (drawn_past 0 1 g) in
    ap (λ (s : ℕ). (s, (s + 1 + ahead) % nodes)) first ∙ ap (λ (a : ℕ). (drawn_below g 0 nodes, (drawn_below g 0 nodes + 1 + a) % nodes)) behind

pub capacity_is : (g h : Lcg) (nodes i capacity : ℕ) → h ≡ past (words_of_ends nodes i) g → capacity ≡ (if i == 0 then 1000000000 else 1 + drawn_below h 0 1000)
    → capacity ≡ link_capacity g nodes i
capacity_is g h nodes i capacity is drew =
    let none : words_of_ends nodes i + 0 ≡ words_of_ends nodes i = omega arith in
    let word : drawn h 0 ≡ drawn g (words_of_ends nodes i) = ap (λ (k : Lcg). drawn k 0) is ∙ drawn_past 0 (words_of_ends nodes i) g ∙ ap (drawn g) none in
    drew ∙ ap (λ (w : ℕ). if i == 0 then 1000000000 else 1 + w % 1000) word

-- ---- ends are nodes

pub nat_lt-true : (a b : ℕ) → a < b → nat_lt a b ≡ true
nat_lt-true a b lt = grind (arith, nat_tests)

pub drawn_are_nodes : (g : Lcg) (nodes : ℕ) → 2 ≤ nodes → ((drawn_ends g nodes).0 < nodes) × ((drawn_ends g nodes).1 < nodes)
drawn_are_nodes g nodes some =
    let up : 0 < nodes = omega arith in
    (mod-lt (drawn g 0) up, mod-lt (drawn g 0 % nodes + 1 + drawn_below g 1 (nodes - 1)) up)

abbrev AreNodes : ℕ → ℕ × ℕ → Type 0
AreNodes nodes p = (p.0 < nodes) × (p.1 < nodes)

pub ends_are_nodes : (g : Lcg) (nodes i : ℕ) → 2 ≤ nodes → ((link_ends g nodes i).0 < nodes) × ((link_ends g nodes i).1 < nodes)
ends_are_nodes g nodes i some = by_test (nat_lt i nodes) refl
  where
    less : (a b : ℕ) → nat_lt a b ≡ true → a < b
    less a b e = grind (arith, nat_tests)

    by_test : (b : Bool) → nat_lt i nodes ≡ b → AreNodes nodes (if b then (i, (i + 1) % nodes) else drawn_ends g nodes)
    by_test true e = (less i nodes e, mod-lt (i + 1) (omega arith))
    by_test false e = drawn_are_nodes g nodes some
