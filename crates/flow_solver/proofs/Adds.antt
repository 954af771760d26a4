-- What one more entry makes of the rows.
use Rattle.std.proofs.Common.{◌≡◌, ℕ, zero, suc, ◌+◌, ◌<◌, ◌≤◌, List, [], ◌∷◌, ◌++◌, length, refl, sym, ap, ◌∙◌, subst, arith, length-append, length-set, Some, inl, inr}
use Rattle.std.specs.Prelude.{slice_get}
use Rattle.std.proofs.lemmas.Bool.{cases_eq, cases_lt}
use Rattle.std.proofs.lemmas.List.{get_or-set_same, get_or-set_other, get_or_append_left}
use Rattle.std.proofs.lemmas.Option.{same_Some}
use Rattle.std.proofs.Math.Seq.{get_or-append_seam}
use Rattle.flow_model.specs.Routing.{Row}
use Rattle.flow_paths.specs.PathRows.{row_at, no_row, grown, HasNoRow, Adds}
use Rattle.flow_solver.specs.Rows.{AreApart}
use Rattle.flow_solver.specs.Adding.{KeepsRows}

-- an element of a list with one more at its end
pub pushed_at : {A : Type 0} (xs : List A) (y : A) (k : ℕ) (x : A) → slice_get (xs ++ y ∷ []) k ≡ Some x → (P : A → ℕ → Type 0) → ((z : A) → slice_get xs k ≡ Some z → P z k) → (k ≡ length xs → P y k) → P x k
pushed_at [] y zero x e P old new = subst (λ z. P z zero) (same_Some y x e) (new refl)
pushed_at [] y (suc k) x e P old new = cc
pushed_at (z ∷ zs) y zero x e P old new = old x e
pushed_at (z ∷ zs) y (suc k) x e P old new = pushed_at zs y k x e (λ a n. P a (suc n)) old (λ i. new (ap suc i))

-- grown rows and appended rows keep the old ones
pub keeps_grown : (rows : List Row) (n a : ℕ) → n < length rows → KeepsRows rows (grown rows n a)
keeps_grown rows n a l = record {
  more = omega (arith, length-set rows n (record { commodity = (row_at rows n).commodity; walk = (row_at rows n).walk; weight = (row_at rows n).weight + a }));
  commodity = λ m h. elim (cases_eq m n) as (λ _. (row_at (grown rows n a) m).commodity ≡ (row_at rows m).commodity) [
    | inl e ↦ rw (e, get_or-set_same rows n (record { commodity = (row_at rows n).commodity; walk = (row_at rows n).walk; weight = (row_at rows n).weight + a }) no_row l)
    | inr ne ↦ ap (λ (r : Row). r.commodity) (get_or-set_other rows n m (record { commodity = (row_at rows n).commodity; walk = (row_at rows n).walk; weight = (row_at rows n).weight + a }) no_row ne)
  ];
  walk = λ m h. elim (cases_eq m n) as (λ _. (row_at (grown rows n a) m).walk ≡ (row_at rows m).walk) [
    | inl e ↦ rw (e, get_or-set_same rows n (record { commodity = (row_at rows n).commodity; walk = (row_at rows n).walk; weight = (row_at rows n).weight + a }) no_row l)
    | inr ne ↦ ap (λ (r : Row). r.walk) (get_or-set_other rows n m (record { commodity = (row_at rows n).commodity; walk = (row_at rows n).walk; weight = (row_at rows n).weight + a }) no_row ne)
  ];
}

pub keeps_pushed : (rows : List Row) (row : Row) → KeepsRows rows (rows ++ row ∷ [])
keeps_pushed rows row = record {
  more = omega (arith, length-append rows (row ∷ []));
  commodity = λ m h. ap (λ (r : Row). r.commodity) (get_or_append_left rows (row ∷ []) no_row m h);
  walk = λ m h. ap (λ (r : Row). r.walk) (get_or_append_left rows (row ∷ []) no_row m h);
}

pub keeps_both : (xs ys zs : List Row) → KeepsRows xs ys → KeepsRows ys zs → KeepsRows xs zs
keeps_both xs ys zs p q = record {
  more = omega (arith, p.more, q.more);
  commodity = λ n h. q.commodity n (omega (arith, p.more)) ∙ p.commodity n h;
  walk = λ n h. q.walk n (omega (arith, p.more)) ∙ p.walk n h;
}

-- what an add tells of the row that it answers
pub record Added (old new : List Row) (k : ℕ) (path : List ℕ) (n : ℕ) : Type 0 where
  pub keeps : KeepsRows old new
  pub most : length new ≤ length old + 1
  pub within : n < length new
  pub commodity : (row_at new n).commodity ≡ k
  pub walk : (row_at new n).walk ≡ path

pub added : (old new : List Row) (k : ℕ) (path : List ℕ) (a n : ℕ) → Adds old new k path a n → Added old new k path n
added old new k path a n (inl p) = rw p.1 (record {
  keeps = keeps_grown old n a p.0.within;
  most = omega (arith, length-set old n (record { commodity = (row_at old n).commodity; walk = (row_at old n).walk; weight = (row_at old n).weight + a }));
  within = let h = p.0.within in omega (arith, h, length-set old n (record { commodity = (row_at old n).commodity; walk = (row_at old n).walk; weight = (row_at old n).weight + a }));
  commodity = (keeps_grown old n a p.0.within).commodity n p.0.within ∙ p.0.here.0;
  walk = (keeps_grown old n a p.0.within).walk n p.0.within ∙ p.0.here.1;
})
added old new k path a n (inr p) = rw (p.2, p.1) (record {
  keeps = keeps_pushed old (record { commodity = k; walk = path; weight = a });
  most = omega (arith, length-append old (record { commodity = k; walk = path; weight = a } ∷ []));
  within = omega (arith, length-append old (record { commodity = k; walk = path; weight = a } ∷ []));
  commodity = ap (λ (r : Row). r.commodity) (get_or-append_seam old (record { commodity = k; walk = path; weight = a }) [] no_row);
  walk = ap (λ (r : Row). r.walk) (get_or-append_seam old (record { commodity = k; walk = path; weight = a }) [] no_row);
})

-- rows stay apart
apart_kept : (old new : List Row) → KeepsRows old new → length new ≡ length old → AreApart old → AreApart new
apart_kept old new keeps same apart = λ i j below within has.
    apart i j below (omega (arith, same)) (
      sym (keeps.commodity j (omega (arith, same))) ∙ has.0 ∙ keeps.commodity i (omega (arith, same)),
      sym (keeps.walk j (omega (arith, same))) ∙ has.1 ∙ keeps.walk i (omega (arith, same)),
    )

apart_pushed : (old : List Row) (row : Row) → HasNoRow old row.commodity row.walk → AreApart old → AreApart (old ++ row ∷ [])
apart_pushed old row none apart = λ i j below within has.
    let long = length-append old (row ∷ []) in
    let first : i < length old = omega (arith, long) in
    let old_i : row_at (old ++ row ∷ []) i ≡ row_at old i = get_or_append_left old (row ∷ []) no_row i first in
    elim (cases_lt j (length old)) as (λ _. ⊥) [
      | inl lt ↦
          let old_j : row_at (old ++ row ∷ []) j ≡ row_at old j = get_or_append_left old (row ∷ []) no_row j lt in
          apart i j below lt (ap (λ (r : Row). r.commodity) (sym old_j) ∙ has.0 ∙ ap (λ (r : Row). r.commodity) old_i, ap (λ (r : Row). r.walk) (sym old_j) ∙ has.1 ∙ ap (λ (r : Row). r.walk) old_i)
      | inr ge ↦
          let at : j ≡ length old = omega (arith, long) in
          let last : row_at (old ++ row ∷ []) j ≡ row = rw at (get_or-append_seam old row [] no_row) in
          none i first (sym (ap (λ (r : Row). r.commodity) (sym last) ∙ has.0 ∙ ap (λ (r : Row). r.commodity) old_i), sym (ap (λ (r : Row). r.walk) (sym last) ∙ has.1 ∙ ap (λ (r : Row). r.walk) old_i))
    ]

pub apart_added : (old new : List Row) (k : ℕ) (path : List ℕ) (a n : ℕ) → Adds old new k path a n → AreApart old → AreApart new
apart_added old new k path a n (inl p) apart = rw p.1 (apart_kept old (grown old n a) (keeps_grown old n a p.0.within) (length-set old n (record { commodity = (row_at old n).commodity; walk = (row_at old n).walk; weight = (row_at old n).weight + a })) apart)
apart_added old new k path a n (inr p) apart = rw p.2 (apart_pushed old (record { commodity = k; walk = path; weight = a }) p.0 apart)
