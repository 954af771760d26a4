-- Lengths of two lists of cells, one after the other.
use Rattle.std.proofs.Common.{◌≡◌, ℕ, ◌-◌, ◌*◌, ◌/◌, ◌^◌, ◌≤◌, List, [], ◌∷◌, ◌++◌, length, get_or, min, max, inl, inr, ap, sym, subst, ◌∙◌, arith, refl}
use Rattle.std.specs.Prelude.{slice_get, Some}
use Rattle.std.proofs.Math.Nat.{le-max_left}
use Rattle.std.proofs.lemmas.Bool.{eq-eqb, ne_eqb, cases_eq}
use Rattle.std.proofs.lemmas.Option.{slice_get_within, get_or_from_slice_get}
use Rattle.flow_model.specs.declared.net.Cell.{Cell}
use Rattle.flow_model.specs.declared.setting.Setting.{Setting}
use Rattle.flow_model.specs.Lengths.{AreLengths, exponent, greatest_exponent, least_capacity, length_at, lengths_at}
use Rattle.flow_model.specs.Powers.{weight_of}
use Rattle.fixed_exp.specs.Kept.{no_cell, cell_at}
use Rattle.fixed_exp.proofs.PowerTable.{weight_small}
use Rattle.fixed_exp.proofs.Passes.{least_small, least_bounds, length_fits, length-lengths_at, get_or-lengths_at}

pub least-append : (xs ys : List Cell) → least_capacity (xs ++ ys) ≡ min (least_capacity xs) (least_capacity ys)
least-append [] ys = omega (arith, least_small ys)
least-append (x ∷ xs) ys = elim (cases_eq x.cap 0) [
  | inl e ↦ rw (eq-eqb x.cap 0 e) (least-append xs ys)
  | inr n ↦ rw (ne_eqb x.cap 0 n) (omega (arith, least-append xs ys))
]

pub greatest-append : (s : Setting) (xs ys : List Cell) (loads others : List ℕ) → length loads ≡ length xs
    → greatest_exponent s (xs ++ ys) (loads ++ others) ≡ max (greatest_exponent s xs loads) (greatest_exponent s ys others)
greatest-append s [] ys [] others e = omega arith
greatest-append s [] ys (l ∷ loads) others e = absurd (omega arith)
greatest-append s (x ∷ xs) ys [] others e = absurd (omega arith)
greatest-append s (x ∷ xs) ys (l ∷ loads) others e =
    let rest = greatest-append s xs ys loads others (omega arith) in
    omega (arith, rest)

pub lengths-append : (s : Setting) (top least : ℕ) (xs ys : List Cell) (loads others : List ℕ) → length loads ≡ length xs
    → lengths_at s top least (xs ++ ys) (loads ++ others) ≡ lengths_at s top least xs loads ++ lengths_at s top least ys others
lengths-append s top least [] ys [] others e = refl
lengths-append s top least [] ys (l ∷ loads) others e = absurd (omega arith)
lengths-append s top least (x ∷ xs) ys [] others e = absurd (omega arith)
lengths-append s top least (x ∷ xs) ys (l ∷ loads) others e = ap (λ (zs : List ℕ). length_at s top least x l ∷ zs) (lengths-append s top least xs ys loads others (omega arith))

max-least : (n : ℕ) → n ≤ 2 ^ 52 → max 1 n ≤ 2 ^ 52
max-least n h = omega arith

-- the lengths of positive cells are 1 to 2 ^ 52, under any least capacity that is not above theirs
pub lengths-within : (s : Setting) (top least : ℕ) (cells : List Cell) (loads : List ℕ) → length loads ≡ length cells → least ≤ least_capacity cells → AreLengths cells (lengths_at s top least cells loads)
lengths-within s top least cells loads e below =
    let list = lengths_at s top least cells loads in
    let of : (c : ℕ) (cell : Cell) → slice_get cells c ≡ Some cell → 1 ≤ cell.cap → get_or list c 0 ≡ max 1 (weight_of (top - exponent s cell (get_or loads c 0)) * 4096 * least / cell.cap)
    = λ c cell at cap.
    let within = slice_get_within cells c cell at in
    let is : cell_at cells c ≡ cell = get_or_from_slice_get cells c cell no_cell at in
    let read : get_or list c 0 ≡ length_at s top least cell (get_or loads c 0) = subst (λ (k : Cell). get_or list c 0 ≡ length_at s top least k (get_or loads c 0)) is (get_or-lengths_at s top least cells loads c e within) in
    read ∙ rw (ne_eqb cell.cap 0 (λ (z : cell.cap ≡ 0). absurd (omega arith))) refl in
    record {
      count = length-lengths_at s top least cells loads e;
      low = λ c cell at cap. rw (of c cell at cap) (le-max_left 1 (weight_of (top - exponent s cell (get_or loads c 0)) * 4096 * least / cell.cap));
      high = λ c cell at cap.
          let within = slice_get_within cells c cell at in
          let is : cell_at cells c ≡ cell = get_or_from_slice_get cells c cell no_cell at in
          let most : least_capacity cells ≤ cell.cap = subst (λ (k : Cell). least_capacity cells ≤ k.cap) is (least_bounds cells c within (subst (λ (k : Cell). 1 ≤ k.cap) (sym is) cap)) in
          let small : least ≤ cell.cap = omega (arith, most, below) in
          rw (of c cell at cap) (max-least (weight_of (top - exponent s cell (get_or loads c 0)) * 4096 * least / cell.cap)
          (length_fits (weight_of (top - exponent s cell (get_or loads c 0))) least cell.cap (weight_small (top - exponent s cell (get_or loads c 0))) small));
    }
