-- The fullest cell: no cell is fuller, and where some cell has a load it is a cell.
use Rattle.std.proofs.Common.{◌≡◌, ◌≢◌, inl, inr, ℕ, zero, suc, ◌*◌, ◌≤◌, List, [], ◌∷◌, Some, length, get_or, refl, ap, subst, arith}
use Rattle.std.specs.Prelude.{slice_get}
use Rattle.std.proofs.Math.Nat.{mul-le-mul_left, mul-le-mul_right, le_of_mul-le-mul_right}
use Rattle.std.proofs.lemmas.Bool.{cases_eq, cases_lt, eq-eqb, ne_eqb, le-leb, lt-leb}
use Rattle.flow_model.specs.declared.net.Cell.{Cell}
use Rattle.gap_fraction.specs.Fraction.{Fraction}
use Rattle.flow_paths.specs.Evaluation.{fill}

-- the fraction is capacity over load of a cell with a load, than which none is fuller, or 1/0 where no cell has a load
pub record IsFullest (cells : List Cell) (loads : List ℕ) (f : Fraction) : Type 0 where
  pub fits : (c : ℕ) (cell : Cell) → slice_get cells c ≡ Some cell → get_or loads c 0 * f.num ≤ f.den * cell.cap
  pub met : f.den ≢ 0 → (c : ℕ) × (cell : Cell) × (slice_get cells c ≡ Some cell) × (1 ≤ get_or loads c 0) × (f.num ≡ cell.cap) × (f.den ≡ get_or loads c 0)
  pub none : f.den ≡ 0 → f.num ≡ 1

-- what holds of the first cell and of the others holds of all
cell-cons : (P : ℕ → Cell → Type 0) (first : Cell) (cells : List Cell) → P 0 first → ((c : ℕ) (cell : Cell) → slice_get cells c ≡ Some cell → P (suc c) cell) → (c : ℕ) (cell : Cell) → slice_get (first ∷ cells) c ≡ Some cell → P c cell
cell-cons P first cells here there zero cell at = let is : first ≡ cell = cc in subst (P 0) is here
cell-cons P first cells here there (suc c) cell at = there c cell at

later : (first : Cell) (cells : List Cell) (load : ℕ) (loads : List ℕ) (f : Fraction)
    → (c : ℕ) × (cell : Cell) × (slice_get cells c ≡ Some cell) × (1 ≤ get_or loads c 0) × (f.num ≡ cell.cap) × (f.den ≡ get_or loads c 0)
    → (c : ℕ) × (cell : Cell) × (slice_get (first ∷ cells) c ≡ Some cell) × (1 ≤ get_or (load ∷ loads) c 0) × (f.num ≡ cell.cap) × (f.den ≡ get_or (load ∷ loads) c 0)
later first cells load loads f m = (suc m.0, m.1, m.2, m.3, m.4, m.5)

-- the first cell is not fuller than the fullest of the others
goes-on : (first : Cell) (cells : List Cell) (load : ℕ) (loads : List ℕ) (f : Fraction) → load * f.num ≤ f.den * first.cap → IsFullest cells loads f → IsFullest (first ∷ cells) (load ∷ loads) f
goes-on first cells load loads f h r = record {
  fits = cell-cons (λ c cell. get_or (load ∷ loads) c 0 * f.num ≤ f.den * cell.cap) first cells h r.fits;
  met = λ n. later first cells load loads f (r.met n);
  none = r.none;
}

-- the others are not fuller than the first
less-full : (n d cap load x y : ℕ) → cap * d ≤ n * load → x * n ≤ d * y → (d ≡ 0 → n ≡ 1) → x * cap ≤ load * y
less-full n zero cap load x y h k none =
    let one : x * n ≡ x * 1 = ap (λ (m : ℕ). x * m) (none refl) in
    let x0 : x ≡ 0 = omega arith in
    let p : x * cap ≡ 0 * cap = ap (λ (m : ℕ). m * cap) x0 in
    omega arith
less-full n (suc d) cap load x y h k none =
    let a : x * (cap * suc d) ≤ x * (n * load) = mul-le-mul_left x h in
    let b : x * n * load ≤ suc d * y * load = mul-le-mul_right load k in
    let left : x * cap * suc d ≡ x * (cap * suc d) = omega arith in
    let mid : x * (n * load) ≡ x * n * load = omega arith in
    let right : suc d * y * load ≡ load * y * suc d = omega arith in
    let c : x * cap * suc d ≤ load * y * suc d = omega arith in
    le_of_mul-le-mul_right c (omega arith)

begins : (first : Cell) (cells : List Cell) (load : ℕ) (loads : List ℕ) (f : Fraction) → load ≢ 0 → first.cap * f.den ≤ f.num * load → IsFullest cells loads f → IsFullest (first ∷ cells) (load ∷ loads) (record { num = first.cap; den = load })
begins first cells load loads f n h r = record {
  fits = cell-cons (λ c cell. get_or (load ∷ loads) c 0 * first.cap ≤ load * cell.cap) first cells (omega arith) (λ c cell at. less-full f.num f.den first.cap load (get_or loads c 0) cell.cap h (r.fits c cell at) r.none);
  met = λ _. (0, first, refl, omega arith, refl, refl);
  none = λ e. absurd (n e);
}

pub fullest : (cells : List Cell) (loads : List ℕ) → length loads ≡ length cells → IsFullest cells loads (fill cells loads)
fullest [] loads e = record {
  fits = λ c cell at. absurd (no c cell at);
  met = λ n. absurd (n refl);
  none = λ _. refl;
}
  where
    no : (c : ℕ) (cell : Cell) → slice_get [] c ≡ Some cell → ⊥
    no c cell at = cc
fullest (first ∷ cells) [] e = absurd (omega arith)
fullest (first ∷ cells) (load ∷ loads) e =
    let f = fill cells loads in
    let r = fullest cells loads (omega arith) in
    elim (cases_eq load 0) [
      | inl z ↦ let none : load * f.num ≡ 0 * f.num = ap (λ (m : ℕ). m * f.num) z in rw (eq-eqb load 0 z) (goes-on first cells load loads f (omega arith) r)
      | inr n ↦ rw (ne_eqb load 0 n) (elim (cases_lt (f.num * load) (first.cap * f.den)) [
        | inl less ↦ rw (lt-leb (first.cap * f.den) (f.num * load) less) (goes-on first cells load loads f (omega arith) r)
        | inr more ↦ rw (le-leb (first.cap * f.den) (f.num * load) more) (begins first cells load loads f n more r)
      ])
    ]
