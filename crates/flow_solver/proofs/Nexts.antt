-- Phases, with one phase more.
use Rattle.std.proofs.Common.{◌≡◌, ℕ, zero, suc, ◌+◌, ◌*◌, ◌<◌, ◌≤◌, Bool, true, false, nat_eq, nat_lt, cond, List, [], ◌∷◌, ◌++◌, length, get_or, take, refl, sym, ap, ◌∙◌, subst, arith}
use Rattle.std.proofs.Math.Seq.{get_or-append_seam}
use Rattle.std.proofs.lemmas.Bool.Decides.{nat_tests}
use Rattle.std.proofs.lemmas.List.{take-append-le, get_or_append_left, length-append}
use Rattle.flow_model.specs.declared.setting.Setting.{Setting}
use Rattle.flow_model.specs.Network.{Network}
use Rattle.flow_model.specs.Lengths.{lengths_of}
use Rattle.flow_core.specs.Phase.{Routed, IsPhase}
use Rattle.flow_paths.specs.DualRows.{DualRows}
use Rattle.flow_paths.specs.Evaluation.{fill}
use Rattle.flow_paths.specs.Certificate.{upper_of}
use Rattle.gap_fraction.specs.Fraction.{Fraction, IsWithinGap}
use Rattle.dual_bound.specs.Bounds.{IsBoundOf}
use Rattle.solver_run.specs.declared.options.SolveOptions.{SolveOptions}
use Rattle.solver_run.specs.History.{loads_after, fill_after, lower_after, first_setting, later_setting, setting_after}
use Rattle.solver_run.specs.Run.{no_dual, least_dual, IsClosedAfter, IsNext, ArePhases}
use Rattle.flow_solver.proofs.Loads.{loads-kept}

pub fill-kept : (net : Network) (phases : List (List Routed)) (e : List Routed) (p : ℕ) → p ≤ length phases → fill_after net (phases ++ e ∷ []) p ≡ fill_after net phases p
fill-kept net phases e p h = ap (fill net.cells) (loads-kept net phases e p h)

-- the reference stays
pub reference-kept : (net : Network) (o : SolveOptions) (phases : List (List Routed)) (e : List Routed) → 1 ≤ length phases → later_setting net o (phases ++ e ∷ []) ≡ later_setting net o phases
reference-kept net o phases e some = ap (λ (f : Fraction). record { first = false; ref_cap = f.num; ref_load = f.den; step = o.step }) (fill-kept net phases e 1 some)

setting-kept : (net : Network) (o : SolveOptions) (phases : List (List Routed)) (e : List Routed) (p : ℕ) → p ≤ length phases → setting_after net o (phases ++ e ∷ []) p ≡ setting_after net o phases p
setting-kept net o phases e zero h = refl
setting-kept net o phases e (suc p) h = ap (λ (s : Setting). cond (nat_eq (suc p) 0) (first_setting o) s) (reference-kept net o phases e (omega arith))

closed-kept : (net : Network) (o : SolveOptions) (phases : List (List Routed)) (e : List Routed) (duals : List DualRows) (d : DualRows) (p : ℕ) → length duals ≡ length phases → p ≤ length phases
    → IsClosedAfter net o (phases ++ e ∷ []) (duals ++ d ∷ []) p → IsClosedAfter net o phases duals p
closed-kept net o phases e duals d p same h closed =
    subst (λ (ds : List DualRows). IsWithinGap (lower_after net phases p) (upper_of net (least_dual net ds)) o.gap) (take-append-le p duals (d ∷ []) (omega arith))
    (subst (λ (f : Fraction). IsWithinGap (record { num = p * f.num; den = f.den }) (upper_of net (least_dual net (take p (duals ++ d ∷ [])))) o.gap) (fill-kept net phases e p h) closed)

next-kept : (net : Network) (o : SolveOptions) (phases : List (List Routed)) (e : List Routed) (p : ℕ) (d : DualRows) → p < length phases → IsNext net o phases p d → IsNext net o (phases ++ e ∷ []) p d
next-kept net o phases e p d l next = record {
  phase = subst (λ (s : Setting). IsPhase net s (loads_after net (phases ++ e ∷ []) p) (loads_after net (phases ++ e ∷ []) (p + 1)) (get_or (phases ++ e ∷ []) p [])) (sym (setting-kept net o phases e p (omega arith)))
      (subst (λ (b : List ℕ). IsPhase net (setting_after net o phases p) b (loads_after net (phases ++ e ∷ []) (p + 1)) (get_or (phases ++ e ∷ []) p [])) (sym (loads-kept net phases e p (omega arith)))
      (subst (λ (b : List ℕ). IsPhase net (setting_after net o phases p) (loads_after net phases p) b (get_or (phases ++ e ∷ []) p [])) (sym (loads-kept net phases e (p + 1) (omega arith)))
      (subst (λ (r : List Routed). IsPhase net (setting_after net o phases p) (loads_after net phases p) (loads_after net phases (p + 1)) r) (sym (get_or_append_left phases (e ∷ []) [] p l)) next.phase)));
  bound = subst (λ (s : Setting). IsBoundOf net (lengths_of net s (loads_after net (phases ++ e ∷ []) (p + 1))) d) (sym (reference-kept net o phases e (omega arith)))
      (subst (λ (b : List ℕ). IsBoundOf net (lengths_of net (later_setting net o phases) b) d) (sym (loads-kept net phases e (p + 1) (omega arith))) next.bound);
}

below-more : (P : ℕ → Type 0) (n : ℕ) → ((p : ℕ) → p < n → P p) → P n → (p : ℕ) → p < n + 1 → P p
below-more P n before here p l = by_test (nat_lt p n) refl
  where
    by_test : (t : Bool) → nat_lt p n ≡ t → P p
    by_test true e = before p (grind (arith, nat_tests))
    by_test false e = let same : n ≡ p = (let m : n ≤ p = grind (arith, nat_tests) in omega arith) in subst P same here

-- one phase more, where the gap was not met before it
pub phases-more : (net : Network) (o : SolveOptions) (phases : List (List Routed)) (e : List Routed) (duals : List DualRows) (d : DualRows) → ArePhases net o phases duals
    → (1 ≤ length phases → IsClosedAfter net o phases duals (length phases) → ⊥) → IsNext net o (phases ++ e ∷ []) (length phases) d
    → ArePhases net o (phases ++ e ∷ []) (duals ++ d ∷ [])
phases-more net o phases e duals d are unmet next =
    let count = are.count in
    let longer = length-append phases (e ∷ []) in
    record {
      count = omega (arith, length-append duals (d ∷ []));
      each = λ p l. below-more (λ (p : ℕ). IsNext net o (phases ++ e ∷ []) p (get_or (duals ++ d ∷ []) p no_dual)) (length phases)
          (λ p l. subst (λ (x : DualRows). IsNext net o (phases ++ e ∷ []) p x) (sym (get_or_append_left duals (d ∷ []) no_dual p (omega arith))) (next-kept net o phases e p (get_or duals p no_dual) l (are.each p l)))
          (subst (λ (x : DualRows). IsNext net o (phases ++ e ∷ []) (length phases) x) (sym (ap (λ (n : ℕ). get_or (duals ++ d ∷ []) n no_dual) (sym count) ∙ get_or-append_seam duals d [] no_dual)) next)
          p (omega arith);
      goes_on = λ p some l closed. below-more (λ (p : ℕ). 1 ≤ p → IsClosedAfter net o phases duals p → ⊥) (length phases) (λ p l some c. are.goes_on p some l c) unmet p (omega arith) some
          (closed-kept net o phases e duals d p count (omega arith) closed);
    }

-- what makes the phase after those
pub next-of : (net : Network) (o : SolveOptions) (phases : List (List Routed)) (e : List Routed) (setting reference : Setting) (old new : List ℕ) (d : DualRows) → setting ≡ setting_after net o (phases ++ e ∷ []) (length phases)
    → reference ≡ later_setting net o (phases ++ e ∷ []) → old ≡ loads_after net phases (length phases) → new ≡ loads_after net (phases ++ e ∷ []) (length phases + 1) → IsPhase net setting old new e
    → IsBoundOf net (lengths_of net reference new) d → IsNext net o (phases ++ e ∷ []) (length phases) d
next-of net o phases e setting reference old new d is later before after phase bound =
    let n = length phases in
    let more = phases ++ e ∷ [] in
    let base : old ≡ loads_after net more n = before ∙ sym (loads-kept net phases e n (omega arith)) in
    record {
      phase = subst (λ (s : Setting). IsPhase net s (loads_after net more n) (loads_after net more (n + 1)) (get_or more n [])) is
          (subst (λ (b : List ℕ). IsPhase net setting b (loads_after net more (n + 1)) (get_or more n [])) base
          (subst (λ (b : List ℕ). IsPhase net setting old b (get_or more n [])) after
          (subst (λ (r : List Routed). IsPhase net setting old new r) (sym (get_or-append_seam phases e [] [])) phase)));
      bound = subst (λ (s : Setting). IsBoundOf net (lengths_of net s (loads_after net more (n + 1))) d) later
          (subst (λ (b : List ℕ). IsBoundOf net (lengths_of net reference b) d) after bound);
    }

-- no phase
pub no-phases : (net : Network) (o : SolveOptions) → ArePhases net o [] []
no-phases net o = record {
  count = refl;
  each = λ p l. absurd (omega arith);
  goes_on = λ p some l. absurd (omega arith);
}
