-- The path is written from its end.
use Rattle.std.proofs.Common.{◌≡◌, ◌≢◌, inl, inr, ℕ, zero, suc, ◌+◌, ◌-◌, ◌<◌, ◌≤◌, List, [], ◌∷◌, ◌++◌, Some, None, length, get_or, set, drop, take, cond, refl, sym, ap, subst, ◌∙◌, arith, append_assoc, ltb, append-nil}
use Rattle.std.proofs.Math.ListN.{drop_of_length-le}
use Rattle.std.proofs.lemmas.List.{take-set, take-take}
use Rattle.std.proofs.lemmas.Bool.{cases_eq, eq-eqb, ne_eqb}
use Rattle.dijkstra_paths.specs.declared.search.Step.{Step}
use Rattle.dijkstra_paths.specs.Tree.{step_at}
use Rattle.dijkstra_paths.specs.Searched.{trail, Ends, paths_from}
use Rattle.mcf_limits.specs.declared.TheConstants.{MAX_LENGTH}

trail-next : (via : List Step) (from fuel v : ℕ) → v ≢ from → trail via from (suc fuel) v ≡ trail via from fuel (step_at via v).from ++ (step_at via v).cell ∷ []
unfolding trail
trail-next via from fuel v n = rw (ne_eqb v from n) refl

pub trail-none : (via : List Step) (from fuel v : ℕ) → v ≡ from → trail via from fuel v ≡ []
unfolding trail
trail-none via from zero v e = refl
trail-none via from (suc fuel) v e = rw (eq-eqb v from e) refl

-- where the steps lead back, more of them to take change nothing
pub ends-longer : (via : List Step) (nodes from f g v : ℕ) → f ≤ g → Ends via nodes from f v → Ends via nodes from g v × (trail via from g v ≡ trail via from f v)
ends-longer via nodes from zero g v l e = absurd e
ends-longer via nodes from (suc f) zero v l e = absurd (omega arith)
ends-longer via nodes from (suc f) (suc g) v l (inl e) = (inl e, trail-none via from (suc g) v e ∙ sym (trail-none via from (suc f) v e))
ends-longer via nodes from (suc f) (suc g) v l (inr e) = elim (cases_eq v from) [
  | inl same ↦ (inl same, trail-none via from (suc g) v same ∙ sym (trail-none via from (suc f) v same))
  | inr n ↦
      let more = ends-longer via nodes from f g (step_at via v).from (omega arith) e.1 in
      (inr (e.0, more.0), trail-next via from g v n ∙ (ap (λ (xs : List ℕ). xs ++ (step_at via v).cell ∷ []) more.1 ∙ sym (trail-next via from f v n)))
]

drop-put : (path : List ℕ) (k c : ℕ) → k < length path → drop k (set path k c) ≡ c ∷ drop (suc k) path
drop-put [] k c l = absurd (omega arith)
drop-put (x ∷ path) zero c l = refl
drop-put (x ∷ path) (suc k) c l = drop-put path k c (omega arith)

pub ends-more : (via : List Step) (nodes from start at : ℕ) → Ends via nodes from start at → at ≢ from → ((step_at via at).from < nodes) × Ends via nodes from (start - 1) (step_at via at).from × (1 ≤ start)
ends-more via nodes from zero at e n = absurd e
ends-more via nodes from (suc k) at (inl e) n = absurd (n e)
ends-more via nodes from (suc k) at (inr e) n =
    let less : suc k - 1 ≡ k = omega arith in
    (e.0, subst (λ (f : ℕ). Ends via nodes from f (step_at via at).from) (sym less) e.1, omega arith)

pub trail-more : (via : List Step) (from start at : ℕ) (path whole : List ℕ) → 1 ≤ start → start ≤ length path → at ≢ from → trail via from start at ++ drop start path ≡ whole
    → trail via from (start - 1) (step_at via at).from ++ drop (start - 1) (set path (start - 1) (step_at via at).cell) ≡ whole
trail-more via from zero at path whole p l n h = absurd (omega arith)
trail-more via from (suc k) at path whole p l n h =
    let s = step_at via at in
    let less : suc k - 1 ≡ k = omega arith in
    let inside : k < length path = omega arith in
    let moved : trail via from k s.from ++ drop k (set path k s.cell) ≡ whole =
    rw (drop-put path k s.cell inside) (sym (append_assoc (trail via from k s.from) (s.cell ∷ []) (drop (suc k) path)) ∙ (ap (λ (xs : List ℕ). xs ++ drop (suc k) path) (sym (trail-next via from k at n)) ∙ h)) in
    subst (λ (f : ℕ). trail via from f s.from ++ drop f (set path f s.cell) ≡ whole) (sym less) moved

-- one cell more is written before those that are, and the cells before it stay
pub take-less : (path before : List ℕ) (start c : ℕ) → take start path ≡ take start before → take (start - 1) (set path (start - 1) c) ≡ take (start - 1) before
take-less path before start c same =
    let less : start - 1 ≤ start = omega arith in
    take-set path (start - 1) c
    ∙ (sym (take-take (start - 1) start path less)
    ∙ (ap (take (start - 1)) same
    ∙ take-take (start - 1) start before less))

pub paths-at : (via : List Step) (from nodes k : ℕ) (dist : List ℕ) (v : ℕ) → v < length dist
    → get_or (paths_from via from nodes k dist) v None ≡ cond (ltb (get_or dist v 0) MAX_LENGTH) (Some (trail via from nodes (k + v))) None
paths-at via from nodes k [] v l = absurd (omega arith)
paths-at via from nodes k (d ∷ dist) zero l = let e : k + 0 ≡ k = omega arith in subst (λ (n : ℕ). cond (ltb d MAX_LENGTH) (Some (trail via from nodes k)) None ≡ cond (ltb d MAX_LENGTH) (Some (trail via from nodes n)) None) (sym e) refl
paths-at via from nodes k (d ∷ dist) (suc v) l =
    let e : suc k + v ≡ k + suc v = omega arith in
    subst (λ (n : ℕ). get_or (paths_from via from nodes (suc k) dist) v None ≡ cond (ltb (get_or dist v 0) MAX_LENGTH) (Some (trail via from nodes n)) None) e (paths-at via from nodes (suc k) dist v (omega arith))

pub trail-whole : (walk path : List ℕ) (n : ℕ) → length path ≤ n → walk ++ drop n path ≡ walk
trail-whole walk path n l = rw (drop_of_length-le path l) (append-nil walk)
