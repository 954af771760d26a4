-- Loads that grow along a path, cell by cell.
use Rattle.std.proofs.Common.{◌≡◌, inl, inr, ℕ, ◌+◌, ◌*◌, ◌<◌, ◌≤◌, nat_eq, cond, List, length, get_or, set, drop, refl, sym, ap, ◌∙◌, arith, eq-eqb, ne_eqb, mul-add, mul-one}
use Rattle.std.proofs.lemmas.Bool.{cases_eq}
use Rattle.std.proofs.lemmas.List.{drop_more, get_or-set_same, get_or-set_other}
use Rattle.std.proofs.lemmas.List.Sums.{sum_by-cons}
use Rattle.flow_model.specs.Walk.{times}

-- how often a cell stands in what is left of a path
left : (path : List ℕ) (i c : ℕ) → i < length path → times c (drop i path) ≡ cond {A = ℕ} (nat_eq (get_or path i 0) c) 1 0 + times c (drop (i + 1) path)
left path i c l = ap (times c) (drop_more path i 0 l) ∙ sum_by-cons (λ (y : ℕ). cond {A = ℕ} (nat_eq y c) 1 0) (get_or path i 0) (drop (i + 1) path)

-- the load of the next cell has room
pub room-next : (path : List ℕ) (i amount now most : ℕ) → i < length path → now + amount * times (get_or path i 0) (drop i path) ≤ most → now + amount ≤ most
room-next path i amount now most l h =
    let c = get_or path i 0 in
    let on : cond {A = ℕ} (nat_eq c c) 1 0 ≡ 1 = rw (eq-eqb c c refl) refl in
    let some : times c (drop i path) ≡ 1 + times c (drop (i + 1) path) = omega (arith, left path i c l, on) in
    let product : amount * times c (drop i path) ≡ amount * 1 + amount * times c (drop (i + 1) path) = ap (λ n. amount * n) some ∙ mul-add amount 1 (times c (drop (i + 1) path)) in
    omega (arith, h, product, mul-one amount)

-- and what is left with it makes what all makes
pub along-next : (loads path : List ℕ) (i amount at c total : ℕ) → i < length path → at ≡ get_or path i 0 → at < length loads → get_or loads c 0 + amount * times c (drop i path) ≡ total
    → get_or (set loads at (get_or loads at 0 + amount)) c 0 + amount * times c (drop (i + 1) path) ≡ total
along-next loads path i amount at c total l is inside h = elim (cases_eq at c) [
  | inl e ↦
      let on : cond {A = ℕ} (nat_eq (get_or path i 0) c) 1 0 ≡ 1 = rw (eq-eqb (get_or path i 0) c (sym is ∙ e)) refl in
      let some : times c (drop i path) ≡ 1 + times c (drop (i + 1) path) = omega (arith, left path i c l, on) in
      let product : amount * times c (drop i path) ≡ amount * 1 + amount * times c (drop (i + 1) path) = ap (λ n. amount * n) some ∙ mul-add amount 1 (times c (drop (i + 1) path)) in
      let x = get_or loads at 0 + amount in
      let here : get_or (set loads at x) c 0 ≡ x = ap (λ j. get_or (set loads at x) j 0) (sym e) ∙ get_or-set_same loads at x 0 inside in
      let was : get_or loads at 0 ≡ get_or loads c 0 = ap (λ j. get_or loads j 0) e in
      omega (arith, here, was, product, mul-one amount, h)
  | inr n ↦
      let off : cond {A = ℕ} (nat_eq (get_or path i 0) c) 1 0 ≡ 0 = rw (ne_eqb (get_or path i 0) c (λ q. n (is ∙ q))) refl in
      let none : times c (drop i path) ≡ times c (drop (i + 1) path) = omega (arith, left path i c l, off) in
      let x = get_or loads at 0 + amount in
      let there : get_or (set loads at x) c 0 ≡ get_or loads c 0 = get_or-set_other loads at c x 0 (λ q. n (sym q)) in
      let product : amount * times c (drop i path) ≡ amount * times c (drop (i + 1) path) = ap (λ n. amount * n) none in
      omega (arith, there, product, h)
]
