-- Rows are filled one after the other.
use Rattle.std.proofs.Common.{◌≡◌, ℕ, ◌+◌, ◌<◌, ◌≤◌, ◌≢◌, inl, inr, List, length, get_or, set, sym, subst, ◌∙◌, arith, get_or-set_other, get_or-set_same}
use Rattle.std.proofs.lemmas.Bool.{cases_eq}
use Rattle.dual_bound.specs.declared.rows.Row.{Row}

-- one more item was changed as the fact says
pub done-more : (P : Row → Row → Type 0) (old now : List Row) (i : ℕ) (x : Row) → i < length now → ((k : ℕ) (d : Row) → k < i → P (get_or old k d) (get_or now k d)) → ((d : Row) → P (get_or old i d) x)
    → (k : ℕ) (d : Row) → k < i + 1 → P (get_or old k d) (get_or (set now i x) k d)
done-more P old now i x inside h here k d l = elim (cases_eq k i) [
  | inl e ↦ subst (λ (n : ℕ). P (get_or old n d) (get_or (set now i x) n d)) (sym e) (subst (λ (y : Row). P (get_or old i d) y) (sym (get_or-set_same now i x d inside)) (here d))
  | inr n ↦ subst (λ (y : Row). P (get_or old k d) y) (sym (get_or-set_other now i k x d n)) (h k d (omega arith))
]

pub rest-more : (old now : List Row) (i : ℕ) (x : Row) → ((k : ℕ) (d : Row) → i ≤ k → get_or now k d ≡ get_or old k d) → (k : ℕ) (d : Row) → i + 1 ≤ k → get_or (set now i x) k d ≡ get_or old k d
rest-more old now i x h k d l = let n : k ≢ i = omega arith in get_or-set_other now i k x d n ∙ h k d (omega arith)
