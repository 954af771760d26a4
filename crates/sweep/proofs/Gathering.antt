-- From the slots of links to the evaluations of all.
use Rattle.std.proofs.Common.{◌≡◌, ℕ, suc, ◌+◌, ◌<◌, List, [], ◌∷◌, length, get_or, set, get_or-set_same, get_or-set_other, inl, inr, map, Option, None, Some, sym, ap, subst, ◌∙◌, arith, refl}
use Rattle.std.proofs.lemmas.Bool.{cases_eq}
use Rattle.std.proofs.lemmas.List.{length-map}
use Rattle.std.specs.List.{range_with_len}
use Rattle.flow_paths.specs.Evaluation.{Evaluation}
use Rattle.unit_scale.specs.declared.modes.LinkMode.{LinkMode}
use Rattle.whatif.specs.declared.bounds.Bounds.{Bounds}
use Rattle.whatif.specs.Planned.{Planned, evaluation_of}
use Rattle.sweep.specs.Sweep.{sweep_evaluation, sweep_evaluations}
use Rattle.sweep.specs.Slots.{IsSwept}

abbrev worth : LinkMode → Planned → ℕ → Evaluation
worth mode p link = sweep_evaluation mode p.net p.proof p.caps link

-- one slot more was filled
pub swept_more : (mode : LinkMode) (p own : Planned) (first : ℕ) (slots : List (Option Bounds)) (i : ℕ) (bounds : Bounds) → i < length slots → own ≡ p → evaluation_of bounds ≡ worth mode own (first + i)
    → ((k : ℕ) → k < i → IsSwept mode p (first + k) (get_or slots k None)) → (k : ℕ) → k < i + 1 → IsSwept mode p (first + k) (get_or (set slots i (Some bounds)) k None)
swept_more mode p own first slots i bounds inside same is h k lt =
    let now : List (Option Bounds) = set slots i (Some bounds) in
    elim (cases_eq k i) as (λ _. IsSwept mode p (first + k) (get_or now k None)) [
      | inl e ↦ subst (λ n. IsSwept mode p (first + n) (get_or now n None)) (sym e) (subst (λ (s : Option Bounds). IsSwept mode p (first + i) s) (sym (get_or-set_same slots i (Some bounds) None inside)) (record { value = is ∙ ap (λ (q : Planned). worth mode q (first + i)) same }))
      | inr ne ↦ subst (λ (s : Option Bounds). IsSwept mode p (first + k) s) (sym (get_or-set_other slots i k (Some bounds) None ne)) (h k (omega arith))
    ]

-- ---- the evaluations of all

swept_from : (mode : LinkMode) (p : Planned) (bounds : List Bounds) (a : ℕ) → ((i : ℕ) → i < length bounds → IsSwept mode p (a + i) (get_or (map Some bounds) i None))
    → map evaluation_of bounds ≡ map (worth mode p) (range_with_len a (length bounds))
swept_from mode p [] a h = refl
swept_from mode p (b ∷ bs) a h =
    let first : evaluation_of b ≡ worth mode p (a + 0) = (h 0 (omega arith)).value in
    let rest = swept_from mode p bs (a + 1) (λ i lt. subst (λ (n : ℕ). IsSwept mode p n (get_or (map Some bs) i None)) (next a i) (h (suc i) (omega arith))) in
    ap (λ (e : Evaluation). e ∷ map evaluation_of bs) (first ∙ ap (worth mode p) (none a)) ∙ ap (λ (es : List Evaluation). worth mode p a ∷ es) rest
  where
    none : (n : ℕ) → n + 0 ≡ n
    none n = omega arith

    next : (n i : ℕ) → n + suc i ≡ n + 1 + i
    next n i = omega arith

-- bounds that stand in the slots of all links
pub all_swept : (mode : LinkMode) (p : Planned) (bounds : List Bounds) (slots : List (Option Bounds)) (links : ℕ) → map Some bounds ≡ slots → length slots ≡ links
    → ((i : ℕ) → i < length slots → IsSwept mode p i (get_or slots i None)) → map evaluation_of bounds ≡ sweep_evaluations mode p.net p.proof p.caps links
all_swept mode p bounds slots links is count h =
    let size : length bounds ≡ links = sym (length-map bounds Some) ∙ (ap length is ∙ count) in
    swept_from mode p bounds 0 (λ i lt. subst (λ n. IsSwept mode p n (get_or (map Some bounds) i None)) (from_0 i) (at i lt)) ∙ ap (λ n. map (worth mode p) (range_with_len 0 n)) size
  where
    from_0 : (i : ℕ) → i ≡ 0 + i
    from_0 i = omega arith

    at : (i : ℕ) → i < length bounds → IsSwept mode p i (get_or (map Some bounds) i None)
    at i lt = subst (λ (s : List (Option Bounds)). IsSwept mode p i (get_or s i None)) (sym is) (h i (omega (arith, ap length is, length-map bounds Some)))
