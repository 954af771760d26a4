-- The two passes over the cells, step by step.
use Rattle.std.proofs.Common.{◌≡◌, inl, inr, ℕ, zero, suc, ◌+◌, ◌-◌, ◌*◌, ◌/◌, ◌^◌, ◌<◌, ◌≤◌, List, [], ◌∷◌, length, get_or, drop, min, max, refl, arith, ap, sym, subst, add-one, drop-cons, set, ◌≢◌, ◌∙◌, below_more, get_or-set_other, get_or-set_same}
use Rattle.std.proofs.Math.ListN.{drop_of_length-le}
use Rattle.std.proofs.Math.Nat.{le-max_left, le-max_right, le_trans, mul_comm, mul-le-mul_left, div-le_of_le-mul}
use Rattle.std.specs.Prelude.{slice_get, Some}
use Rattle.std.proofs.lemmas.List.{ext_get_or}
use Rattle.std.proofs.lemmas.Bool.{eq-eqb, ne_eqb, cases_eq}
use Rattle.std.proofs.lemmas.Option.{slice_get_within, get_or_from_slice_get}
use Rattle.flow_model.specs.Walk.{times}
use Rattle.flow_model.specs.Powers.{weight_of}
use Rattle.fixed_exp.proofs.PowerTable.{weight_small}
use Rattle.flow_model.specs.declared.net.Cell.{Cell}
use Rattle.flow_model.specs.declared.setting.Setting.{Setting}
use Rattle.flow_model.specs.Lengths.{AreLengths, exponent, greatest_exponent, least_capacity, length_at, lengths_at}
use Rattle.fixed_exp.specs.Far.{EmptyAreFar}
use Rattle.fixed_exp.specs.Changes.{IsNotIn}
use Rattle.fixed_exp.specs.Kept.{no_cell, no_rate, cell_at, KeepsExponent, greatest, length_from}
use Rattle.fixed_exp.specs.declared.rates.Rate.{Rate}
use Rattle.mcf_limits.specs.declared.TheConstants.{MAX_UNITS}

pub least_small : (cells : List Cell) → least_capacity cells ≤ MAX_UNITS
least_small [] = omega arith
least_small (cell ∷ cells) = elim (cases_eq cell.cap 0) [
  | inl e ↦ rw (eq-eqb cell.cap 0 e) (least_small cells)
  | inr n ↦ rw (ne_eqb cell.cap 0 n) (omega (arith, least_small cells))
]

pub least_keeps : (cells : List Cell) (i least : ℕ) → i < length cells → (cell_at cells i).cap ≡ 0 → min least (least_capacity (drop i cells)) ≡ least_capacity cells → min least (least_capacity (drop (i + 1) cells)) ≡ least_capacity cells
least_keeps cells i least l e h =
    let head : least_capacity (drop i cells) ≡ least_capacity (drop (suc i) cells) = rw (drop-cons cells i no_cell l, eq-eqb (cell_at cells i).cap 0 e) refl in
    rw add-one (subst (λ (x : ℕ). min least x ≡ least_capacity cells) head h)

pub least_takes : (cells : List Cell) (i least : ℕ) → i < length cells → ((cell_at cells i).cap ≡ 0 → ⊥) → min least (least_capacity (drop i cells)) ≡ least_capacity cells → min (min (cell_at cells i).cap least) (least_capacity (drop (i + 1) cells)) ≡ least_capacity cells
least_takes cells i least l n h =
    let head : least_capacity (drop i cells) ≡ min (cell_at cells i).cap (least_capacity (drop (suc i) cells)) = rw (drop-cons cells i no_cell l, ne_eqb (cell_at cells i).cap 0 n) refl in
    rw add-one (omega (arith, head, h))

pub least_done : (cells : List Cell) (i least : ℕ) → length cells ≤ i → least ≤ MAX_UNITS → min least (least_capacity (drop i cells)) ≡ least_capacity cells → least ≡ least_capacity cells
least_done cells i least l small h =
    let none : drop i cells ≡ [] = drop_of_length-le cells l in
    let end : min least (MAX_UNITS) ≡ least_capacity cells = subst (λ (xs : List Cell). min least (least_capacity xs) ≡ least_capacity cells) none h in
    omega arith

pub greatest_more : (s : Setting) (cells : List Cell) (loads : List ℕ) (i top : ℕ) → i < length cells → i < length loads
    → max top (greatest_exponent s (drop i cells) (drop i loads)) ≡ greatest_exponent s cells loads
    → max (max (exponent s (cell_at cells i) (get_or loads i 0)) top) (greatest_exponent s (drop (i + 1) cells) (drop (i + 1) loads)) ≡ greatest_exponent s cells loads
greatest_more s cells loads i top l m h =
    let head : greatest_exponent s (drop i cells) (drop i loads) ≡ max (exponent s (cell_at cells i) (get_or loads i 0)) (greatest_exponent s (drop (suc i) cells) (drop (suc i) loads))
    = rw (drop-cons cells i no_cell l, drop-cons loads i 0 m) refl in
    rw add-one (omega (arith, head, h))

pub greatest_bounds : (s : Setting) (cells : List Cell) (loads : List ℕ) (k : ℕ) → length loads ≡ length cells → k < length cells
    → exponent s (cell_at cells k) (get_or loads k 0) ≤ greatest_exponent s cells loads
greatest_bounds s [] loads k e l = absurd (omega arith)
greatest_bounds s (cell ∷ cells) [] k e l = absurd (omega arith)
greatest_bounds s (cell ∷ cells) (x ∷ loads) zero e l = le-max_left (exponent s cell x) (greatest_exponent s cells loads)
greatest_bounds s (cell ∷ cells) (x ∷ loads) (suc k) e l = le_trans (greatest_bounds s cells loads k (omega arith) (omega arith)) (le-max_right (exponent s cell x) (greatest_exponent s cells loads))

pub least_bounds : (cells : List Cell) (k : ℕ) → k < length cells → 1 ≤ (cell_at cells k).cap → least_capacity cells ≤ (cell_at cells k).cap
least_bounds [] k l p = absurd (omega arith)
least_bounds (cell ∷ cells) zero l p = rw (ne_eqb cell.cap 0 (λ (z : cell.cap ≡ 0). absurd (omega arith))) (omega arith)
least_bounds (cell ∷ cells) (suc k) l p =
    let rest : least_capacity cells ≤ (cell_at cells k).cap = least_bounds cells k (omega arith) p in
    elim (cases_eq cell.cap 0) [
      | inl z ↦ rw (eq-eqb cell.cap 0 z) rest
      | inr n ↦ rw (ne_eqb cell.cap 0 n) (omega (arith, rest))
    ]

max-small : (n : ℕ) → n ≤ 2 ^ 52 → max 1 n ≤ 2 ^ 52
max-small n h = omega arith

pub length_fits : (w least cap : ℕ) → w ≤ 2 ^ 40 → least ≤ cap → w * 4096 * least / cap ≤ 2 ^ 52
length_fits w least cap hw hl =
    let part : w * 4096 * least ≤ cap * (w * 4096) = omega (arith, mul-le-mul_left (w * 4096) hl, mul_comm cap (w * 4096)) in
    omega (arith, div-le_of_le-mul cap part)

pub kept_put : (s : Setting) (cells : List Cell) (loads into : List ℕ) (i x : ℕ) → i < length into → x ≡ min (exponent s (cell_at cells i) (get_or loads i 0)) (2 ^ 64 - 1)
    → ((k : ℕ) → k < i → KeepsExponent s cells loads into k) → (k : ℕ) → k < i + 1 → KeepsExponent s cells loads (set into i x) k
kept_put s cells loads into i x l e h =
    below_more (λ (k : ℕ). KeepsExponent s cells loads (set into i x) k) i
    (λ k b. let ne : k ≢ i = omega arith in rw get_or-set_other (h k b))
    (rw get_or-set_same e)

pub length-lengths_at : (s : Setting) (top least : ℕ) (cells : List Cell) (loads : List ℕ) → length loads ≡ length cells → length (lengths_at s top least cells loads) ≡ length cells
length-lengths_at s top least [] loads e = refl
length-lengths_at s top least (cell ∷ cells) [] e = absurd (omega arith)
length-lengths_at s top least (cell ∷ cells) (x ∷ loads) e = ap suc (length-lengths_at s top least cells loads (omega arith))

pub get_or-lengths_at : (s : Setting) (top least : ℕ) (cells : List Cell) (loads : List ℕ) (k : ℕ) → length loads ≡ length cells → k < length cells
    → get_or (lengths_at s top least cells loads) k 0 ≡ length_at s top least (cell_at cells k) (get_or loads k 0)
get_or-lengths_at s top least [] loads k e l = absurd (omega arith)
get_or-lengths_at s top least (cell ∷ cells) [] k e l = absurd (omega arith)
get_or-lengths_at s top least (cell ∷ cells) (x ∷ loads) zero e l = refl
get_or-lengths_at s top least (cell ∷ cells) (x ∷ loads) (suc k) e l = get_or-lengths_at s top least cells loads k (omega arith) (omega arith)

pub put_more : (s : Setting) (top least : ℕ) (cells : List Cell) (loads into : List ℕ) (i x : ℕ) → i < length into → x ≡ length_at s top least (cell_at cells i) (get_or loads i 0)
    → ((k : ℕ) → k < i → get_or into k 0 ≡ length_at s top least (cell_at cells k) (get_or loads k 0))
    → (k : ℕ) → k < i + 1 → get_or (set into i x) k 0 ≡ length_at s top least (cell_at cells k) (get_or loads k 0)
put_more s top least cells loads into i x l e h =
    below_more (λ (k : ℕ). get_or (set into i x) k 0 ≡ length_at s top least (cell_at cells k) (get_or loads k 0)) i
    (λ k b. let ne : k ≢ i = omega arith in rw get_or-set_other (h k b))
    (rw get_or-set_same e)

pub near_more : (top least : ℕ) (cells : List Cell) (kept into : List ℕ) (i x : ℕ) → i < length into → x ≡ length_from top least (cell_at cells i) (get_or kept i 0)
    → ((k : ℕ) → k < i → get_or into k 0 ≡ length_from top least (cell_at cells k) (get_or kept k 0))
    → (k : ℕ) → k < i + 1 → get_or (set into i x) k 0 ≡ length_from top least (cell_at cells k) (get_or kept k 0)
near_more top least cells kept into i x l e h =
    below_more (λ (k : ℕ). get_or (set into i x) k 0 ≡ length_from top least (cell_at cells k) (get_or kept k 0)) i
    (λ k b. let ne : k ≢ i = omega arith in rw get_or-set_other (h k b))
    (rw get_or-set_same e)

-- a fact of each cell and its rate
pub rates_more : (P : ℕ → Rate → Type 0) (into : List Rate) (i : ℕ) (x : Rate) → i < length into → P i x → ((k : ℕ) → k < i → P k (get_or into k no_rate))
    → (k : ℕ) → k < i + 1 → P k (get_or (set into i x) k no_rate)
rates_more P into i x l e h =
    below_more (λ (k : ℕ). P k (get_or (set into i x) k no_rate)) i
    (λ k b. let ne : k ≢ i = omega arith in rw get_or-set_other (h k b))
    (rw get_or-set_same e)

pub rest_more : (into old : List ℕ) (i x : ℕ) → ((k : ℕ) → i ≤ k → get_or into k 0 ≡ get_or old k 0) → (k : ℕ) → i + 1 ≤ k → get_or (set into i x) k 0 ≡ get_or old k 0
rest_more into old i x h = λ k b. let ne : k ≢ i = omega arith in rw get_or-set_other (h k (omega arith))

pub all_put : (s : Setting) (top least : ℕ) (cells : List Cell) (loads into : List ℕ) → length loads ≡ length cells → length into ≡ length cells
    → ((k : ℕ) → k < length cells → get_or into k 0 ≡ length_at s top least (cell_at cells k) (get_or loads k 0)) → into ≡ lengths_at s top least cells loads
all_put s top least cells loads into e f h =
    let same : length into ≡ length (lengths_at s top least cells loads) = f ∙ sym (length-lengths_at s top least cells loads e) in
    ext_get_or 0 into (lengths_at s top least cells loads) same
    (λ k l. let inside : k < length cells = omega arith in h k inside ∙ sym (get_or-lengths_at s top least cells loads k e inside))

-- the lengths of positive cells are 1 to 2 ^ 52
pub lengths-fit : (s : Setting) (top : ℕ) (cells : List Cell) (loads : List ℕ) → length loads ≡ length cells → AreLengths cells (lengths_at s top (least_capacity cells) cells loads)
lengths-fit s top cells loads e =
    let least = least_capacity cells in
    let list = lengths_at s top least cells loads in
    let of : (c : ℕ) (cell : Cell) → slice_get cells c ≡ Some cell → 1 ≤ cell.cap → get_or list c 0 ≡ max 1 (weight_of (top - exponent s cell (get_or loads c 0)) * 4096 * least / cell.cap)
    = λ c cell at cap.
    let within = slice_get_within cells c cell at in
    let is : cell_at cells c ≡ cell = get_or_from_slice_get cells c cell no_cell at in
    let read : get_or list c 0 ≡ length_at s top least cell (get_or loads c 0) = subst (λ (k : Cell). get_or list c 0 ≡ length_at s top least k (get_or loads c 0)) is (get_or-lengths_at s top least cells loads c e within) in
    read ∙ rw (ne_eqb cell.cap 0 (λ (z : cell.cap ≡ 0). absurd (omega arith))) refl in
    record {
      count = length-lengths_at s top least cells loads e;
      low = λ c cell at cap. rw (of c cell at cap) (le-max_left 1 (weight_of (top - exponent s cell (get_or loads c 0)) * 4096 * least / cell.cap));
      high = λ c cell at cap.
          let within = slice_get_within cells c cell at in
          let is : cell_at cells c ≡ cell = get_or_from_slice_get cells c cell no_cell at in
          let small : least ≤ cell.cap = subst (λ (k : Cell). least ≤ k.cap) is (least_bounds cells c within (subst (λ (k : Cell). 1 ≤ k.cap) (sym is) cap)) in
          rw (of c cell at cap) (max-small (weight_of (top - exponent s cell (get_or loads c 0)) * 4096 * least / cell.cap)
          (length_fits (weight_of (top - exponent s cell (get_or loads c 0))) least cell.cap (weight_small (top - exponent s cell (get_or loads c 0))) small));
    }

-- a cell without capacity is as long as no walk
pub empty-far : (s : Setting) (top least : ℕ) (cells : List Cell) (loads : List ℕ) → length loads ≡ length cells → EmptyAreFar cells (lengths_at s top least cells loads)
empty-far s top least cells loads e = record {
  each = λ c cell at none.
      let within = slice_get_within cells c cell at in
      let is : cell_at cells c ≡ cell = get_or_from_slice_get cells c cell no_cell at in
      let read : get_or (lengths_at s top least cells loads) c 0 ≡ length_at s top least cell (get_or loads c 0)
      = subst (λ (k : Cell). get_or (lengths_at s top least cells loads) c 0 ≡ length_at s top least k (get_or loads c 0)) is (get_or-lengths_at s top least cells loads c e within) in
      read ∙ rw (eq-eqb cell.cap 0 none) refl;
}

-- the value at one of the places that changed is put right
pub changed_put : (Right : ℕ → ℕ → Type 0) (count n : ℕ) (places into : List ℕ) (j i x : ℕ) → i ≡ get_or places j 0 → i < length into → Right i x
    → ((k : ℕ) → k < n → IsNotIn count places j k → Right k (get_or into k 0)) → (k : ℕ) → k < n → IsNotIn count places (j + 1) k → Right k (get_or (set into i x) k 0)
changed_put Right count n places into j i x at inside right h k l none = elim (cases_eq k i) [
  | inl e ↦ subst (λ (v : ℕ). Right v (get_or (set into i x) v 0)) (sym e) (subst (λ (v : ℕ). Right i v) (sym (get_or-set_same into i x 0 inside)) right)
  | inr ne ↦
      let before : IsNotIn count places j k = record {
        each = λ m le lt. elim (cases_eq m j) [
          | inl q ↦ λ (z : get_or places m 0 ≡ k). ne (sym z ∙ (ap (λ (v : ℕ). get_or places v 0) q ∙ sym at))
          | inr q ↦ none.each m (omega arith) lt
        ];
      } in
      subst (λ (v : ℕ). Right k v) (sym (get_or-set_other into i k x 0 ne)) (h k l before)
]

-- the greatest of the exponents as far as they fit
pub greatest_kept : (s : Setting) (cells : List Cell) (loads kept : List ℕ) → length loads ≡ length cells → length kept ≡ length cells
    → ((k : ℕ) → k < length cells → KeepsExponent s cells loads kept k) → greatest kept ≡ min (greatest_exponent s cells loads) (2 ^ 64 - 1)
greatest_kept s [] loads [] e f h = refl
greatest_kept s [] loads (y ∷ kept) e f h = absurd (omega arith)
greatest_kept s (cell ∷ cells) [] kept e f h = absurd (omega arith)
greatest_kept s (cell ∷ cells) (x ∷ loads) [] e f h = absurd (omega arith)
greatest_kept s (cell ∷ cells) (x ∷ loads) (y ∷ kept) e f h =
    let first : y ≡ min (exponent s cell x) (2 ^ 64 - 1) = h 0 (omega arith) in
    let rest : greatest kept ≡ min (greatest_exponent s cells loads) (2 ^ 64 - 1) = greatest_kept s cells loads kept (omega arith) (omega arith) (λ k l. h (suc k) (omega arith)) in
    omega (arith, first, rest)

-- the greatest after one number rose
pub greatest_set : (xs : List ℕ) (i x : ℕ) → i < length xs → get_or xs i 0 ≤ x → greatest (set xs i x) ≡ max x (greatest xs)
greatest_set [] i x l le = absurd (omega arith)
greatest_set (y ∷ ys) zero x l le =
    let head : y ≤ x = le in
    omega (arith, head)
greatest_set (y ∷ ys) (suc i) x l le =
    let rest : greatest (set ys i x) ≡ max x (greatest ys) = greatest_set ys i x (omega arith) le in
    omega (arith, rest)

-- a place that is none of these stands not once among them
pub not_once : (places : List ℕ) (k : ℕ) → IsNotIn (length places) places 0 k → times k places ≡ 0
not_once [] k none = refl
not_once (x ∷ places) k none =
    let other : x ≢ k = none.each 0 (omega arith) (omega arith) in
    let rest : times k places ≡ 0 = not_once places k (record { each = λ j le lt. none.each (suc j) (omega arith) (omega arith) }) in
    rw (ne_eqb x k other) rest

-- at every place it is right, once all places are
pub same_put : (places into loads : List ℕ) → length into ≡ length loads → ((k : ℕ) → k < length loads → IsNotIn (length places) places (length places) k → get_or into k 0 ≡ get_or loads k 0) → into ≡ loads
same_put places into loads size h = ext_get_or 0 into loads size (λ k l. h k (omega arith) (record { each = λ j le lt. absurd (omega arith) }))
