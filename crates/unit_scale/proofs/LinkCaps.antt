-- A link with another capacity.
use Rattle.std.proofs.Common.{◌≡◌, ◌≢◌, ℕ, zero, suc, ◌+◌, ◌*◌, ◌/◌, ◌<◌, List, [], ◌∷◌, length, map, get_or, set, ext_get_or, length-set, get_or-set_same, get_or-set_other, true, false, refl, ap, sym, ◌∙◌, arith, ◌⊎◌, inl, inr}
use Rattle.std.specs.Prelude.{◌==◌, if◌then◌else◌}
use Rattle.std.specs.List.{enumerate_from}
use Rattle.std.proofs.lemmas.List.{length-map}
use Rattle.std.proofs.lemmas.List.FromFn.{length-enumerate_from}
use Rattle.std.proofs.lemmas.Bool.Decides.{nat_tests}
use Rattle.unit_scale.specs.declared.modes.LinkMode.{LinkMode}
use Rattle.unit_scale.specs.declared.modes.LinkMode.TheVariants.{Directed, Undirected, Bidirected}
use Rattle.unit_scale.specs.Names.{per, name_of}
use Rattle.unit_scale.specs.Closed.{with_link}

test_holds : (n m : ℕ) → n ≡ m → (n == m) ≡ true
test_holds n m e = grind (arith, nat_tests)

test_fails : (n m : ℕ) → n ≢ m → (n == m) ≡ false
test_fails n m e = grind (arith, nat_tests)

-- what stands at a place, where the first has the number n
set_from : (mode : LinkMode) (link cap n : ℕ) (caps : List ℕ) (i cell : ℕ) → i < length caps → n + i ≡ cell
    → get_or (map (λ c. if (name_of mode c.0).link == link then cap else c.1) (enumerate_from n caps)) i 0
    ≡ (if (name_of mode cell).link == link then cap else get_or caps i 0)
set_from mode link cap n [] i cell h e = absurd (omega arith)
set_from mode link cap n (c ∷ cs) zero cell h e =
    let here : n ≡ cell = omega arith in
    ap (λ (k : ℕ). if (name_of mode k).link == link then cap else c) here
set_from mode link cap n (c ∷ cs) (suc i) cell h e = set_from mode link cap (n + 1) cs i cell (omega arith) (omega arith)

-- each cell of the link has the new capacity
pub set_of_link : (mode : LinkMode) (caps : List ℕ) (link cap cell : ℕ) → cell < length caps → (name_of mode cell).link ≡ link
    → get_or (with_link mode caps link cap) cell 0 ≡ cap
set_of_link mode caps link cap cell h e =
    set_from mode link cap 0 caps cell cell h (omega arith) ∙ rw (test_holds (cell / per mode) link e) refl

-- and every other cell keeps its own
pub set_of_other : (mode : LinkMode) (caps : List ℕ) (link cap cell : ℕ) → cell < length caps → (name_of mode cell).link ≢ link
    → get_or (with_link mode caps link cap) cell 0 ≡ get_or caps cell 0
set_of_other mode caps link cap cell h e =
    set_from mode link cap 0 caps cell cell h (omega arith) ∙ rw (test_fails (cell / per mode) link e) refl

pub with_link_length : (mode : LinkMode) (caps : List ℕ) (link cap : ℕ) → length (with_link mode caps link cap) ≡ length caps
with_link_length mode caps link cap =
    length-map (enumerate_from 0 caps) (λ c. if (name_of mode c.0).link == link then cap else c.1) ∙ length-enumerate_from 0 caps

either : (n m : ℕ) → (n ≡ m) ⊎ (n ≢ m)
either n m = grind (arith, nat_tests)

-- where a link has one cell, that cell has the link's number
pub with_link_directed : (caps : List ℕ) (link cap : ℕ) → with_link Directed caps link cap ≡ set caps link cap
with_link_directed caps link cap =
    ext_get_or 0 (with_link Directed caps link cap) (set caps link cap) (omega (arith, with_link_length Directed caps link cap, length-set caps link cap)) (λ i lt.
    let h : i < length caps = omega (arith, lt, with_link_length Directed caps link cap) in
    elim (either i link) [
      | inl e ↦ set_of_link Directed caps link cap i h (omega arith) ∙ sym (get_or-set_same caps link cap 0 (omega arith)) ∙ ap (λ k. get_or (set caps link cap) k 0) (sym e)
      | inr e ↦ set_of_other Directed caps link cap i h (λ s. e (omega arith)) ∙ sym (get_or-set_other caps link i cap 0 e)
    ])

pub with_link_undirected : (caps : List ℕ) (link cap : ℕ) → with_link Undirected caps link cap ≡ set caps link cap
with_link_undirected caps link cap = with_link_directed caps link cap

-- where it has two, they are neighbours
pub with_link_bidirected : (caps : List ℕ) (link cap : ℕ)
    → with_link Bidirected caps link cap ≡ set (set caps (2 * link) cap) (2 * link + 1) cap
with_link_bidirected caps link cap =
    let along : List ℕ = set caps (2 * link) cap in
    let count : length along ≡ length caps = length-set caps (2 * link) cap in
    ext_get_or 0 (with_link Bidirected caps link cap) (set along (2 * link + 1) cap) (omega (arith, with_link_length Bidirected caps link cap, length-set along (2 * link + 1) cap)) (λ i lt.
    let h : i < length caps = omega (arith, lt, with_link_length Bidirected caps link cap) in
    elim (either i (2 * link + 1)) [
      | inl e ↦ set_of_link Bidirected caps link cap i h (omega arith) ∙ sym (get_or-set_same along (2 * link + 1) cap 0 (omega arith)) ∙ ap (λ k. get_or (set along (2 * link + 1) cap) k 0) (sym e)
      | inr e ↦ (elim (either i (2 * link)) [
        | inl s ↦ set_of_link Bidirected caps link cap i h (omega arith) ∙ sym (get_or-set_same caps (2 * link) cap 0 (omega arith)) ∙ ap (λ k. get_or along k 0) (sym s) ∙ sym (get_or-set_other along (2 * link + 1) i cap 0 e)
        | inr s ↦ set_of_other Bidirected caps link cap i h (λ t. outside i link e s t) ∙ sym (get_or-set_other caps (2 * link) i cap 0 s) ∙ sym (get_or-set_other along (2 * link + 1) i cap 0 e)
      ])
    ])
  where
    outside : (i link : ℕ) → i ≢ 2 * link + 1 → i ≢ 2 * link → i / 2 ≢ link
    outside i link e s t = grind arith
