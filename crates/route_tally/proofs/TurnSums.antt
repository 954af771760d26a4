-- The rows of a tally come to what its turns do.
use Rattle.std.proofs.Common.{◌≡◌, ℕ, suc, ◌+◌, ◌*◌, ◌<◌, Bool, true, false, cond, List, [], ◌∷◌, length, get_or, refl, sym, ap, ◌∙◌, arith, inl, inr, add-mul, mul-one, mul-zero}
use Rattle.std.specs.Prelude.{All, AllPairs, IsTrue, ◌==◌, ◌||◌, ◌&&◌, nat_lt}
use Rattle.std.specs.List.{sum_by, list_any}
use Rattle.std.proofs.lemmas.Bool.Decides.{nat_tests}
use Rattle.std.proofs.lemmas.Bool.{both_ways, false_from_ne_true, cases_Bool}
use Rattle.std.proofs.lemmas.List.Elements.{All-head, All-tail}
use Rattle.std.proofs.lemmas.List.Sums.{sum_by-cons}
use Rattle.flow_model.specs.Routing.{Row, carried, load_of}
use Rattle.flow_model.specs.Walk.{times}
use Rattle.flow_paths.specs.RowOrder.{row_lt, list_lt}
use Rattle.route_tally.specs.Tally.{same_path, routed_along, IsCollected, IsTally}
use Rattle.route_tally.proofs.SamePaths.{same_parts, same_from}

-- a turn's part of a row, times what is told by commodity and path
abbrev part : (ℕ → List ℕ → ℕ) → Row → Row → ℕ
part g turn r = cond (same_path turn r) turn.weight 0 * g r.commodity r.walk

-- where no row has the turn's path, there is none
no_part : (g : ℕ → List ℕ → ℕ) (turn : Row) (rows : List Row) → ((i : ℕ) (d : Row) → i < length rows → same_path turn (get_or rows i d) ≡ false) → sum_by (part g turn) rows ≡ 0
no_part g turn [] h = refl
no_part g turn (r ∷ rows) h =
    let x = sum_by-cons (part g turn) r rows in
    let first : part g turn r ≡ 0 * g r.commodity r.walk = ap (λ (s : Bool). cond s turn.weight 0 * g r.commodity r.walk) (h 0 r (omega arith)) in
    let zero_times : 0 * g r.commodity r.walk ≡ 0 = omega arith in
    let rest = no_part g turn rows (λ i d l. h (suc i) d (omega arith)) in
    omega (arith, x, first, zero_times, rest)

-- of rows apart, the one that has its path has all of it
one_part : (g : ℕ → List ℕ → ℕ) (turn : Row) (rows : List Row) → AllPairs (λ a b. same_path a b ≡ false) rows → list_any (same_path turn) rows ≡ true → sum_by (part g turn) rows ≡ turn.weight * g turn.commodity turn.walk
one_part g turn [] apart any = absurd (cc)
one_part g turn (r ∷ rows) apart any =
    let x = sum_by-cons (part g turn) r rows in
    elim (cases_Bool (same_path turn r)) as (λ _. sum_by (part g turn) (r ∷ rows) ≡ turn.weight * g turn.commodity turn.walk) [
      | inl hit ↦
          let p = same_parts turn r hit in
          let first : part g turn r ≡ turn.weight * g r.commodity r.walk = ap (λ (s : Bool). cond s turn.weight 0 * g r.commodity r.walk) hit in
          let key : g r.commodity r.walk ≡ g turn.commodity turn.walk = ap (λ k. g k r.walk) (sym p.0) ∙ ap (λ (w : List ℕ). g turn.commodity w) (sym p.1) in
          let here : part g turn r ≡ turn.weight * g turn.commodity turn.walk = first ∙ ap (λ n. turn.weight * n) key in
          let rest : sum_by (part g turn) rows ≡ 0 = no_part g turn rows (λ i d l. false_from_ne_true (same_path turn (get_or rows i d)) (λ h.
          let q = same_parts turn (get_or rows i d) h in
          both_ways (same_path r (get_or rows i d)) (apart 0 (suc i) d (omega arith) (omega arith)) (same_from r (get_or rows i d) (sym p.0 ∙ q.0) (sym p.1 ∙ q.1)))) in
          omega (arith, x, here, rest)
      | inr miss ↦
          let first : part g turn r ≡ 0 * g r.commodity r.walk = ap (λ (s : Bool). cond s turn.weight 0 * g r.commodity r.walk) miss in
          let zero_times : 0 * g r.commodity r.walk ≡ 0 = omega arith in
          let later : list_any (same_path turn) rows ≡ true = sym (ap (λ (s : Bool). s || list_any (same_path turn) rows) miss) ∙ any in
          let rest = one_part g turn rows (λ i j d below l. apart (suc i) (suc j) d (omega arith) (omega arith)) later in
          omega (arith, x, first, zero_times, rest)
    ]

-- what is routed along a row, by its turns
split : (g : ℕ → List ℕ → ℕ) (turn : Row) (turns rows : List Row) → sum_by (λ (r : Row). routed_along (turn ∷ turns) r * g r.commodity r.walk) rows ≡ sum_by (part g turn) rows + sum_by (λ (r : Row). routed_along turns r * g r.commodity r.walk) rows
split g turn turns [] = refl
split g turn turns (r ∷ rows) =
    let x = sum_by-cons (λ (r : Row). routed_along (turn ∷ turns) r * g r.commodity r.walk) r rows in
    let y = sum_by-cons (part g turn) r rows in
    let z = sum_by-cons (λ (r : Row). routed_along turns r * g r.commodity r.walk) r rows in
    let w : routed_along (turn ∷ turns) r ≡ cond (same_path turn r) turn.weight 0 + routed_along turns r = sum_by-cons (λ (t : Row). cond (same_path t r) t.weight 0) turn turns in
    let here : routed_along (turn ∷ turns) r * g r.commodity r.walk ≡ part g turn r + routed_along turns r * g r.commodity r.walk = ap (λ n. n * g r.commodity r.walk) w ∙ add-mul (cond (same_path turn r) turn.weight 0) (routed_along turns r) (g r.commodity r.walk) in
    let rest = split g turn turns rows in
    omega (arith, x, y, z, here, rest)

no_turns : (g : ℕ → List ℕ → ℕ) (rows : List Row) → sum_by (λ (r : Row). routed_along [] r * g r.commodity r.walk) rows ≡ 0
no_turns g [] = refl
no_turns g (r ∷ rows) =
    let x = sum_by-cons (λ (r : Row). routed_along [] r * g r.commodity r.walk) r rows in
    let here : routed_along [] r * g r.commodity r.walk ≡ 0 = omega arith in
    let rest = no_turns g rows in
    omega (arith, x, here, rest)

routed_sums : (g : ℕ → List ℕ → ℕ) (turns rows : List Row) → AllPairs (λ a b. same_path a b ≡ false) rows → All (λ t. IsTrue (list_any (same_path t) rows)) turns
    → sum_by (λ (r : Row). routed_along turns r * g r.commodity r.walk) rows ≡ sum_by (λ (t : Row). t.weight * g t.commodity t.walk) turns
routed_sums g [] rows apart each = no_turns g rows
routed_sums g (t ∷ turns) rows apart each =
    let x = sum_by-cons (λ (t : Row). t.weight * g t.commodity t.walk) t turns in
    let here = one_part g t rows apart (All-head (λ (t : Row). IsTrue (list_any (same_path t) rows)) t turns each) in
    let rest = routed_sums g turns rows apart (All-tail (λ (t : Row). IsTrue (list_any (same_path t) rows)) t turns each) in
    let parts = split g t turns rows in
    omega (arith, x, here, rest, parts)

weighted : (g : ℕ → List ℕ → ℕ) (turns rows : List Row) → All (λ r. r.weight ≡ routed_along turns r) rows → sum_by (λ (r : Row). r.weight * g r.commodity r.walk) rows ≡ sum_by (λ (r : Row). routed_along turns r * g r.commodity r.walk) rows
weighted g turns [] are = refl
weighted g turns (r ∷ rows) are =
    let x = sum_by-cons (λ (r : Row). r.weight * g r.commodity r.walk) r rows in
    let y = sum_by-cons (λ (r : Row). routed_along turns r * g r.commodity r.walk) r rows in
    let here : r.weight * g r.commodity r.walk ≡ routed_along turns r * g r.commodity r.walk = ap (λ n. n * g r.commodity r.walk) (All-head (λ (r : Row). r.weight ≡ routed_along turns r) r rows are) in
    let rest = weighted g turns rows (All-tail (λ (r : Row). r.weight ≡ routed_along turns r) r rows are) in
    omega (arith, x, y, here, rest)

-- any sum of weights, each as often as commodity and path tell
pub sums : (g : ℕ → List ℕ → ℕ) (turns rows : List Row) → IsCollected turns rows → sum_by (λ (r : Row). r.weight * g r.commodity r.walk) rows ≡ sum_by (λ (t : Row). t.weight * g t.commodity t.walk) turns
sums g turns rows from = weighted g turns rows from.weights ∙ routed_sums g turns rows from.apart from.each

sum_same : (f h : Row → ℕ) → ((r : Row) → f r ≡ h r) → (rows : List Row) → sum_by f rows ≡ sum_by h rows
sum_same f h e [] = refl
sum_same f h e (r ∷ rows) =
    let x = sum_by-cons f r rows in
    let y = sum_by-cons h r rows in
    let here = e r in
    let rest = sum_same f h e rows in
    omega (arith, x, y, here, rest)

by_one : (b : Bool) (n : ℕ) → cond b n 0 ≡ n * cond b 1 0
by_one true n = sym (mul-one n)
by_one false n = sym (mul-zero n)

pub same_carried : (turns rows : List Row) → IsCollected turns rows → (k : ℕ) → carried rows k ≡ carried turns k
same_carried turns rows from k =
    let g : ℕ → List ℕ → ℕ = λ n w. cond (n == k) 1 0 in
    let f : Row → ℕ = λ r. cond (r.commodity == k) r.weight 0 in
    let h : Row → ℕ = λ r. r.weight * cond (r.commodity == k) 1 0 in
    sum_same f h (λ r. by_one (r.commodity == k) r.weight) rows ∙ sums g turns rows from ∙ sym (sum_same f h (λ r. by_one (r.commodity == k) r.weight) turns)

pub same_loads : (turns rows : List Row) → IsCollected turns rows → (c : ℕ) → load_of rows c ≡ load_of turns c
same_loads turns rows from c = sums (λ n w. times c w) turns rows from

pub same_total : (turns rows : List Row) → IsCollected turns rows → sum_by (λ (r : Row). r.weight) rows ≡ sum_by (λ (r : Row). r.weight) turns
same_total turns rows from =
    let f : Row → ℕ = λ r. r.weight in
    let h : Row → ℕ = λ r. r.weight * 1 in
    sum_same f h (λ r. sym (mul-one r.weight)) rows ∙ sums (λ n w. 1) turns rows from ∙ sym (sum_same f h (λ r. sym (mul-one r.weight)) turns)

lex_same : (x : ℕ) (l : Bool) → l ≡ false → (nat_lt x x || ((x == x) && l)) ≡ false
lex_same x l h = grind (arith, nat_tests)

list_same : (xs : List ℕ) → list_lt xs xs ≡ false
list_same [] = refl
list_same (x ∷ xs) = lex_same x (list_lt xs xs) (list_same xs)

-- no row comes before one of its path
pub row_same : (a b : Row) → same_path a b ≡ true → row_lt a b ≡ false
row_same a b h =
    let p = same_parts a b h in
    ap (λ (k : ℕ). nat_lt a.commodity k || ((a.commodity == k) && list_lt a.walk b.walk)) (sym p.0) ∙ ap (λ (w : List ℕ). nat_lt a.commodity a.commodity || ((a.commodity == a.commodity) && list_lt a.walk w)) (sym p.1) ∙ lex_same a.commodity (list_lt a.walk a.walk) (list_same a.walk)

-- rows in order are rows
pub collected : (turns rows : List Row) → IsTally turns rows → IsCollected turns rows
collected turns rows is = record {
  apart = λ i j d below l. false_from_ne_true (same_path (get_or rows i d) (get_or rows j d)) (λ h. both_ways (row_lt (get_or rows i d) (get_or rows j d)) (row_same (get_or rows i d) (get_or rows j d) h) (is.ascending i j d below l));
  each = is.each;
  no_other = is.no_other;
  weights = is.weights;
}
