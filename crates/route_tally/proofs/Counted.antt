-- Weights as amounts, counted.
use Rattle.std.proofs.Common.{◌≡◌, ℕ, ◌+◌, ◌*◌, Bool, cond, List, [], ◌∷◌, sym, ap, ◌∙◌, arith, inl, inr, mul-add, mul-one, mul-zero}
use Rattle.std.specs.Prelude.{All, count_by}
use Rattle.std.proofs.lemmas.Bool.{cases_Bool}
use Rattle.std.proofs.lemmas.List.Elements.{All-head, All-tail, All-weaker}
use Rattle.std.proofs.lemmas.List.Sums.{sum_by-cons}
use Rattle.flow_model.specs.Routing.{Row}
use Rattle.route_tally.specs.Tally.{same_path, routed_along, IsTally}
use Rattle.route_tally.proofs.SamePaths.{same_parts}

-- the turn's part, as often as it has the row's path
part_counted : (amount : ℕ → ℕ) (t row : Row) → t.weight ≡ amount t.commodity → cond (same_path t row) t.weight 0 ≡ amount row.commodity * cond (same_path t row) 1 0
part_counted amount t row is = elim (cases_Bool (same_path t row)) as (λ _. cond (same_path t row) t.weight 0 ≡ amount row.commodity * cond (same_path t row) 1 0) [
  | inl hit ↦
      let p = same_parts t row hit in
      ap (λ (s : Bool). cond s t.weight 0) hit ∙ is ∙ ap amount p.0 ∙ sym (mul-one (amount row.commodity)) ∙ sym (ap (λ (s : Bool). amount row.commodity * cond {A = ℕ} s 1 0) hit)
  | inr miss ↦ ap (λ (s : Bool). cond s t.weight 0) miss ∙ sym (mul-zero (amount row.commodity)) ∙ sym (ap (λ (s : Bool). amount row.commodity * cond {A = ℕ} s 1 0) miss)
]

along_counted : (amount : ℕ → ℕ) (turns : List Row) (row : Row) → All (λ t. t.weight ≡ amount t.commodity) turns → routed_along turns row ≡ amount row.commodity * count_by (λ t. same_path t row) turns
along_counted amount [] row are = sym (mul-zero (amount row.commodity))
along_counted amount (t ∷ turns) row are =
    let a = amount row.commodity in
    let x = sum_by-cons (λ (t : Row). cond (same_path t row) t.weight 0) t turns in
    let y = sum_by-cons (λ (t : Row). cond {A = ℕ} (same_path t row) 1 0) t turns in
    let here = part_counted amount t row (All-head (λ (t : Row). t.weight ≡ amount t.commodity) t turns are) in
    let rest = along_counted amount turns row (All-tail (λ (t : Row). t.weight ≡ amount t.commodity) t turns are) in
    let all : a * count_by (λ t. same_path t row) (t ∷ turns) ≡ a * cond {A = ℕ} (same_path t row) 1 0 + a * count_by (λ t. same_path t row) turns = ap (λ n. a * n) y ∙ mul-add a (cond {A = ℕ} (same_path t row) 1 0) (count_by (λ t. same_path t row) turns) in
    omega (arith, x, here, rest, all)

pub counted : (amount : ℕ → ℕ) (turns rows : List Row) → IsTally turns rows → All (λ t. t.weight ≡ amount t.commodity) turns → All (λ row. row.weight ≡ amount row.commodity * count_by (λ t. same_path t row) turns) rows
counted amount turns rows is are = All-weaker (λ (row : Row). row.weight ≡ routed_along turns row) (λ (row : Row). row.weight ≡ amount row.commodity * count_by (λ t. same_path t row) turns) (λ row h. h ∙ along_counted amount turns row are) rows is.weights
