-- A least of the allowed walks goes over no cell twice.
use Rattle.std.proofs.Common.{◌≡◌, inl, inr, ℕ, zero, suc, ◌+◌, ◌<◌, ◌≤◌, nat_eq, cond, List, [], ◌∷◌, length, refl, sym, ap, subst, ◌∙◌, arith, eq-eqb, ne_eqb}
use Rattle.std.specs.Prelude.{All, ◌⊎◌}
use Rattle.std.proofs.lemmas.Bool.{cases_eq, cases_lt}
use Rattle.std.proofs.lemmas.List.Sums.{sum_by-cons}
use Rattle.std.proofs.lemmas.Option.{slice_get_within, same_Some}
use Rattle.flow_model.specs.declared.net.Cell.{Cell}
use Rattle.flow_model.specs.Lengths.{AreLengths}
use Rattle.flow_model.specs.Walk.{Goes, PassesOver, PositiveWalk, times}
use Rattle.flow_model.specs.Bound.{walk_length}
use Rattle.dijkstra_paths.proofs.Least.{length-first}
use Rattle.hop_solve.specs.Turns.{IsOnce}

times-first : (c x : ℕ) (walk : List ℕ) → times c (x ∷ walk) ≡ cond {A = ℕ} (nat_eq x c) 1 0 + times c walk
times-first c x walk = sum_by-cons (λ (y : ℕ). cond {A = ℕ} (nat_eq y c) 1 0) x walk

-- where the cell comes again, and the walk from there on
record Again (cells : List Cell) (lengths : List ℕ) (c v : ℕ) (walk : List ℕ) : Type 0 where
  y : ℕ
  z : ℕ
  rest : List ℕ
  passes : PassesOver cells c y z
  walks : PositiveWalk cells z v rest
  short : length rest + 1 ≤ length walk
  less : walk_length lengths (c ∷ rest) ≤ walk_length lengths walk

again : (cells : List Cell) (lengths : List ℕ) (c u v : ℕ) (walk : List ℕ) → PositiveWalk cells u v walk → 1 ≤ times c walk → Again cells lengths c v walk
again cells lengths c u v [] w some = absurd (omega arith)
again cells lengths c u v (x ∷ walk) w some = elim (cases_eq x c) [
  | inl e ↦ record {
    y = u;
    z = w.0;
    rest = walk;
    passes = subst (λ (k : ℕ). PassesOver cells k u w.0) e w.1;
    walks = w.2;
    short = omega arith;
    less = let same : walk_length lengths (c ∷ walk) ≡ walk_length lengths (x ∷ walk) = ap (λ (k : ℕ). walk_length lengths (k ∷ walk)) (sym e) in omega (arith, same);
  }
  | inr n ↦
      let none : cond {A = ℕ} (nat_eq x c) 1 0 ≡ 0 = rw (ne_eqb x c n) refl in
      let a = again cells lengths c w.0 v walk w.2 (omega (arith, none, times-first c x walk)) in
      record {
        y = a.y;
        z = a.z;
        rest = a.rest;
        passes = a.passes;
        walks = a.walks;
        short = omega (arith, a.short);
        less = omega (arith, a.less, length-first lengths x walk);
      }
]

-- two traversals of one cell begin at the same node, or the second comes back to where the first began
back : (cell : Cell) (u x y z : ℕ) → Goes cell u x → Goes cell y z → (P : ℕ → ℕ → Type 0) → P y z → ((z : ℕ) → P u z → ⊥) → ((y : ℕ) → P y u → ⊥) → ⊥
back cell u x y z (inl g) (inl h) P p same turned = let e : y ≡ u = h.0 ∙ sym g.0 in same z (subst (λ (k : ℕ). P k z) e p)
back cell u x y z (inl g) (inr h) P p same turned = let e : z ≡ u = h.2 ∙ sym g.0 in turned y (subst (λ (k : ℕ). P y k) e p)
back cell u x y z (inr g) (inl h) P p same turned = let e : z ≡ u = h.1 ∙ sym g.1 in turned y (subst (λ (k : ℕ). P y k) e p)
back cell u x y z (inr g) (inr h) P p same turned = let e : y ≡ u = h.1 ∙ sym g.1 in same z (subst (λ (k : ℕ). P k z) e p)

-- no walk over as few cells is shorter
abbrev pub IsLeastShort : List Cell → List ℕ → ℕ → ℕ → List ℕ → Type 0
IsLeastShort cells lengths u v walk = (other : List ℕ) → PositiveWalk cells u v other → length other ≤ length walk → walk_length lengths walk ≤ walk_length lengths other

never-again : (cells : List Cell) (lengths : List ℕ) (c u v : ℕ) (walk : List ℕ) → AreLengths cells lengths → (w : PositiveWalk cells u v (c ∷ walk)) → IsLeastShort cells lengths u v (c ∷ walk) → Again cells lengths c v walk → ⊥
never-again cells lengths c u v walk long w least a =
    let cell = w.1.0 in
    let is : a.passes.0 ≡ cell = same_Some a.passes.0 cell (sym a.passes.1 ∙ w.1.1) in
    let goes : Goes cell a.y a.z = subst (λ (k : Cell). Goes k a.y a.z) is a.passes.3 in
    let some = long.low c cell w.1.1 w.1.2 in
    let first = length-first lengths c walk in
    let rest = length-first lengths c a.rest in
    let P : ℕ → ℕ → Type 0 = λ y z. PassesOver cells c y z × PositiveWalk cells z v a.rest in
    back cell u w.0 a.y a.z w.1.3 goes P (a.passes, a.walks)
    (λ z p. let l = least (c ∷ a.rest) (z, p.0, p.1) (omega (arith, a.short)) in omega (arith, l, first, some, a.less))
    (λ y p. let l = least a.rest p.1 (omega (arith, a.short)) in omega (arith, l, first, rest, some, a.less))

pub least-once : (cells : List Cell) (lengths : List ℕ) (u v : ℕ) (walk : List ℕ) → AreLengths cells lengths → PositiveWalk cells u v walk → IsLeastShort cells lengths u v walk → IsOnce walk
least-once cells lengths u v [] long w least = λ c. omega arith
least-once cells lengths u v (x ∷ walk) long w least =
    let tail : IsLeastShort cells lengths w.0 v walk = λ other o few. (
    let l = least (x ∷ other) (w.0, w.1, o) (omega arith) in
    omega (arith, l, length-first lengths x walk, length-first lengths x other)) in
    let rest = least-once cells lengths w.0 v walk long w.2 tail in
    let none : times x walk < 1 = elim (cases_few (times x walk)) [
      | inl l ↦ l
      | inr some ↦ absurd (never-again cells lengths x u v walk long w least (again cells lengths x w.0 v walk w.2 some))
    ] in
    λ c. elim (cases_eq x c) [
      | inl e ↦
          let same : times c walk ≡ times x walk = ap (λ (k : ℕ). times k walk) (sym e) in
          let most : cond {A = ℕ} (nat_eq x c) 1 0 ≡ 1 = rw (eq-eqb x c e) refl in
          omega (arith, times-first c x walk, same, most, none)
      | inr n ↦
          let here : cond {A = ℕ} (nat_eq x c) 1 0 ≡ 0 = rw (ne_eqb x c n) refl in
          omega (arith, times-first c x walk, here, rest c)
    ]
  where
    cases_few : (n : ℕ) → (n < 1) ⊎ (1 ≤ n)
    cases_few n = cases_lt n 1

-- the cells of a walk are the network's
pub cells-inside : (cells : List Cell) (u v : ℕ) (walk : List ℕ) → PositiveWalk cells u v walk → All (λ c. c < length cells) walk
cells-inside cells u v [] w = λ k d l. absurd (omega arith)
cells-inside cells u v (c ∷ walk) w = go (cells-inside cells w.0 v walk w.2)
  where
    go : All (λ x. x < length cells) walk → All (λ x. x < length cells) (c ∷ walk)
    go h zero d l = slice_get_within cells c w.1.0 w.1.1
    go h (suc k) d l = h k d (omega arith)
