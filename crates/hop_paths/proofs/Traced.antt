-- A path is written from its end.
use Rattle.std.proofs.Common.{◌≡◌, ℕ, zero, suc, ◌+◌, ◌*◌, ◌-◌, ◌<◌, ◌≤◌, List, Option, Some, None, [], ◌∷◌, ◌++◌, length, set, drop, refl, sym, ap, ◌∙◌, arith, append_assoc}
use Rattle.std.specs.Option.{option_map_or}
use Rattle.hop_paths.specs.declared.search.HopStep.{HopStep}
use Rattle.hop_paths.specs.Searching.{step_at}
use Rattle.hop_paths.specs.Searched.{hop_trail}

drop-put : (path : List ℕ) (k c : ℕ) → k < length path → drop k (set path k c) ≡ c ∷ drop (suc k) path
drop-put [] k c l = absurd (omega arith)
drop-put (x ∷ path) zero c l = refl
drop-put (x ∷ path) (suc k) c l = drop-put path k c (omega arith)

-- a step in front
pub trail-some : (steps : List (Option HopStep)) (nodes layer to : ℕ) (s : HopStep) (path rest : List ℕ) (end : ℕ) → 1 ≤ layer → 1 ≤ end → end ≤ length path → step_at steps (layer * nodes + to) ≡ Some s
    → rest ≡ hop_trail steps nodes (layer - 1) s.from ++ drop (end - 1) (set path (end - 1) s.cell) → rest ≡ hop_trail steps nodes layer to ++ drop end path
trail-some steps nodes zero to s path rest end some room within at h = absurd (omega arith)
trail-some steps nodes (suc i) to s path rest zero some room within at h = absurd (omega arith)
trail-some steps nodes (suc i) to s path rest (suc k) some room within at h =
    let less : suc i - 1 ≡ i = omega arith in
    let fewer : suc k - 1 ≡ k = omega arith in
    let first : rest ≡ hop_trail steps nodes i s.from ++ drop k (set path k s.cell) =
    h ∙ ap (λ (j : ℕ). hop_trail steps nodes j s.from ++ drop (suc k - 1) (set path (suc k - 1) s.cell)) less ∙ ap (λ (j : ℕ). hop_trail steps nodes i s.from ++ drop j (set path j s.cell)) fewer in
    let put : drop k (set path k s.cell) ≡ s.cell ∷ drop (suc k) path = drop-put path k s.cell (omega arith) in
    let is : hop_trail steps nodes (suc i) to ≡ hop_trail steps nodes i s.from ++ s.cell ∷ [] = ap (λ (o : Option HopStep). option_map_or (λ r. hop_trail steps nodes i r.from ++ r.cell ∷ []) o (hop_trail steps nodes i to)) at in
    first ∙ ap (λ (xs : List ℕ). hop_trail steps nodes i s.from ++ xs) put ∙ sym (append_assoc (hop_trail steps nodes i s.from) (s.cell ∷ []) (drop (suc k) path)) ∙ sym (ap (λ (xs : List ℕ). xs ++ drop (suc k) path) is)

-- no step in this layer
pub trail-none : (steps : List (Option HopStep)) (nodes layer to : ℕ) → 1 ≤ layer → step_at steps (layer * nodes + to) ≡ None → hop_trail steps nodes (layer - 1) to ≡ hop_trail steps nodes layer to
trail-none steps nodes zero to some at = absurd (omega arith)
trail-none steps nodes (suc i) to some at =
    let less : suc i - 1 ≡ i = omega arith in
    ap (λ (j : ℕ). hop_trail steps nodes j to) less ∙ sym (ap (λ (o : Option HopStep). option_map_or (λ r. hop_trail steps nodes i r.from ++ r.cell ∷ []) o (hop_trail steps nodes i to)) at)
