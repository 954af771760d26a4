-- Phases, with one phase more.
use Rattle.std.proofs.Common.{◌≡◌, ℕ, zero, suc, ◌+◌, ◌*◌, ◌<◌, ◌≤◌, Bool, true, false, nat_eq, nat_lt, cond, List, [], ◌∷◌, ◌++◌, length, get_or, Option, refl, sym, ap, ◌∙◌, subst, arith}
use Rattle.std.specs.Prelude.{flat_map}
use Rattle.std.proofs.Math.Seq.{get_or-append_seam, take-length}
use Rattle.std.proofs.lemmas.Bool.Decides.{nat_tests}
use Rattle.std.proofs.lemmas.List.{take-append-le, take_all, get_or_append_left, length-append, flat_map_more}
use Rattle.flow_model.specs.declared.net.Cell.{Cell}
use Rattle.flow_model.specs.declared.setting.Setting.{Setting}
use Rattle.flow_model.specs.Network.{Network}
use Rattle.flow_model.specs.Routing.{Row}
use Rattle.flow_paths.specs.Evaluation.{fill}
use Rattle.flow_paths.specs.Least.{least_by}
use Rattle.gap_fraction.specs.Fraction.{Fraction, IsWithinGap}
use Rattle.route_tally.specs.declared.options.RunOptions.{RunOptions}
use Rattle.route_tally.specs.Asked.{first_setting, later_setting, setting_after}
use Rattle.throughput.specs.declared.part_proof.PartDual.{PartDual}
use Rattle.throughput.specs.Partial.{total_of, part_upper_of}
use Rattle.gates.specs.Gates.{gated, gated_loads, gated_lengths}
use Rattle.throughput.specs.Run.{IsPartPhase, IsNextPart, IsPartBoundOf, IsPartClosedAfter, no_part_dual, part_fill_after, part_kept_after, part_lower_after, routed, turns_after}
use Rattle.throughput.specs.Reached.{ArePartPhases}

-- what was routed, one phase more

pub turns-kept : (phases : List (List (Option Row))) (t : List (Option Row)) (p : ℕ) → p ≤ length phases → turns_after (phases ++ t ∷ []) p ≡ turns_after phases p
turns-kept phases t p h = ap (flat_map routed) (take-append-le p phases (t ∷ []) h)

pub turns-all : (phases : List (List (Option Row))) → turns_after phases (length phases) ≡ flat_map routed phases
turns-all phases = ap (flat_map routed) (take-length phases)

pub turns-last : (phases : List (List (Option Row))) (t : List (Option Row)) → turns_after phases (length phases) ++ routed t ≡ turns_after (phases ++ t ∷ []) (length phases + 1)
turns-last phases t =
    ap (λ (rs : List Row). rs ++ routed t) (turns-all phases) ∙ (flat_map_more routed [] phases t
    ∙ sym (ap (flat_map routed) (take_all (length phases + 1) (phases ++ t ∷ []) (omega (arith, length-append phases (t ∷ []))))))

pub fill-kept : (net : Network) (gates : List Cell) (phases : List (List (Option Row))) (t : List (Option Row)) (p : ℕ) → p ≤ length phases → part_fill_after net gates (phases ++ t ∷ []) p ≡ part_fill_after net gates phases p
fill-kept net gates phases t p h = ap (λ (rows : List Row). fill (gated net gates).cells (gated_loads net rows)) (turns-kept phases t p h)

-- the settings stay

pub later-kept : (net : Network) (gates : List Cell) (step : ℕ) (phases : List (List (Option Row))) (t : List (Option Row)) → 1 ≤ length phases
    → later_setting step (part_fill_after net gates (phases ++ t ∷ []) 1) ≡ later_setting step (part_fill_after net gates phases 1)
later-kept net gates step phases t some = ap (later_setting step) (fill-kept net gates phases t 1 some)

pub setting-kept : (net : Network) (gates : List Cell) (step : ℕ) (phases : List (List (Option Row))) (t : List (Option Row)) (p : ℕ) → p ≤ length phases
    → setting_after step (part_fill_after net gates (phases ++ t ∷ []) 1) p ≡ setting_after step (part_fill_after net gates phases 1) p
setting-kept net gates step phases t zero h = refl
setting-kept net gates step phases t (suc p) h = ap (λ (s : Setting). cond (nat_eq (suc p) 0) (first_setting step) s) (later-kept net gates step phases t (omega arith))

pub after-some : (step p : ℕ) (reference : Fraction) → 1 ≤ p → setting_after step reference p ≡ later_setting step reference
after-some step zero reference h = absurd (omega arith)
after-some step (suc p) reference h = later_is (nat_eq (suc p) 0) refl
  where
    later_is : (b : Bool) → nat_eq (suc p) 0 ≡ b → cond b (first_setting step) (later_setting step reference) ≡ later_setting step reference
    later_is false e = refl
    later_is true e = let z : suc p ≡ 0 = grind (arith, nat_tests) in absurd (omega arith)

closed-kept : (net : Network) (gates : List Cell) (o : RunOptions) (phases : List (List (Option Row))) (t : List (Option Row)) (bounds : List PartDual) (b : PartDual) (p : ℕ) → length bounds ≡ length phases → p ≤ length phases
    → IsPartClosedAfter net gates o (phases ++ t ∷ []) (bounds ++ b ∷ []) p → IsPartClosedAfter net gates o phases bounds p
closed-kept net gates o phases t bounds b p same h closed =
    let lower : part_lower_after net gates (phases ++ t ∷ []) p ≡ part_lower_after net gates phases p =
    ap (λ (rows : List Row). record { num = total_of rows * (fill (gated net gates).cells (gated_loads net rows)).num; den = (fill (gated net gates).cells (gated_loads net rows)).den }) (turns-kept phases t p h) in
    let kept : part_kept_after net (bounds ++ b ∷ []) p ≡ part_kept_after net bounds p = ap (λ (bs : List PartDual). least_of bs) (take-append-le p bounds (b ∷ []) (omega arith)) in
    subst (λ (d : PartDual). IsWithinGap (part_lower_after net gates phases p) (part_upper_of net d) o.gap) kept
    (subst (λ (f : Fraction). IsWithinGap f (part_upper_of net (part_kept_after net (bounds ++ b ∷ []) p)) o.gap) lower closed)
  where
    least_of : List PartDual → PartDual
    least_of bs = least_by (part_upper_of net) no_part_dual bs

phase-kept : (net : Network) (gates : List Cell) (o : RunOptions) (phases : List (List (Option Row))) (t : List (Option Row)) (p : ℕ) (b : PartDual) → p < length phases → IsNextPart net gates o phases p b → IsNextPart net gates o (phases ++ t ∷ []) p b
phase-kept net gates o phases t p b l next = record {
  phase = subst (λ (s : Setting). IsPartPhase net gates s (turns_after (phases ++ t ∷ []) p) (get_or (phases ++ t ∷ []) p [])) (sym (setting-kept net gates o.step phases t p (omega arith)))
      (subst (λ (rs : List Row). IsPartPhase net gates (setting_after o.step (part_fill_after net gates phases 1) p) rs (get_or (phases ++ t ∷ []) p [])) (sym (turns-kept phases t p (omega arith)))
      (subst (λ (ts : List (Option Row)). IsPartPhase net gates (setting_after o.step (part_fill_after net gates phases 1) p) (turns_after phases p) ts) (sym (get_or_append_left phases (t ∷ []) [] p l)) next.phase));
  bound = subst (λ (s : Setting). IsPartBoundOf net (gated_lengths net gates s (turns_after (phases ++ t ∷ []) (p + 1))) b) (sym (later-kept net gates o.step phases t (omega arith)))
      (subst (λ (rs : List Row). IsPartBoundOf net (gated_lengths net gates (later_setting o.step (part_fill_after net gates phases 1)) rs) b) (sym (turns-kept phases t (p + 1) (omega arith))) next.bound);
}

below-more : (P : ℕ → Type 0) (n : ℕ) → ((p : ℕ) → p < n → P p) → P n → (p : ℕ) → p < n + 1 → P p
below-more P n before here p l = by_test (nat_lt p n) refl
  where
    by_test : (t : Bool) → nat_lt p n ≡ t → P p
    by_test true e = before p (grind (arith, nat_tests))
    by_test false e = let same : n ≡ p = (let m : n ≤ p = grind (arith, nat_tests) in omega arith) in subst P same here

-- one phase more, where the gap was not met before it
pub phases-more : (net : Network) (gates : List Cell) (o : RunOptions) (phases : List (List (Option Row))) (t : List (Option Row)) (bounds : List PartDual) (b : PartDual) → ArePartPhases net gates o phases bounds
    → (1 ≤ length phases → IsPartClosedAfter net gates o phases bounds (length phases) → ⊥) → IsNextPart net gates o (phases ++ t ∷ []) (length phases) b
    → ArePartPhases net gates o (phases ++ t ∷ []) (bounds ++ b ∷ [])
phases-more net gates o phases t bounds b are unmet next =
    let count = are.count in
    let longer = length-append phases (t ∷ []) in
    record {
      count = omega (arith, length-append bounds (b ∷ []));
      each = λ p l. below-more (λ (p : ℕ). IsNextPart net gates o (phases ++ t ∷ []) p (get_or (bounds ++ b ∷ []) p no_part_dual)) (length phases)
          (λ p l. subst (λ (x : PartDual). IsNextPart net gates o (phases ++ t ∷ []) p x) (sym (get_or_append_left bounds (b ∷ []) no_part_dual p (omega arith))) (phase-kept net gates o phases t p (get_or bounds p no_part_dual) l (are.each p l)))
          (subst (λ (x : PartDual). IsNextPart net gates o (phases ++ t ∷ []) (length phases) x) (sym (ap (λ (n : ℕ). get_or (bounds ++ b ∷ []) n no_part_dual) (sym count) ∙ get_or-append_seam bounds b [] no_part_dual)) next)
          p (omega arith);
      goes_on = λ p some l closed. below-more (λ (p : ℕ). 1 ≤ p → IsPartClosedAfter net gates o phases bounds p → ⊥) (length phases) (λ p l some c. are.goes_on p some l c) unmet p (omega arith) some
          (closed-kept net gates o phases t bounds b p count (omega arith) closed);
    }

-- what makes the phase after those
pub next-of : (net : Network) (gates : List Cell) (o : RunOptions) (phases : List (List (Option Row))) (t : List (Option Row)) (setting later : Setting) (b : PartDual)
    → setting ≡ setting_after o.step (part_fill_after net gates (phases ++ t ∷ []) 1) (length phases) → later ≡ later_setting o.step (part_fill_after net gates (phases ++ t ∷ []) 1)
    → IsPartPhase net gates setting (turns_after phases (length phases)) t → IsPartBoundOf net (gated_lengths net gates later (turns_after (phases ++ t ∷ []) (length phases + 1))) b
    → IsNextPart net gates o (phases ++ t ∷ []) (length phases) b
next-of net gates o phases t setting later b is later_is phase bound = record {
  phase = subst (λ (s : Setting). IsPartPhase net gates s (turns_after (phases ++ t ∷ []) (length phases)) (get_or (phases ++ t ∷ []) (length phases) [])) is
      (subst (λ (rs : List Row). IsPartPhase net gates setting rs (get_or (phases ++ t ∷ []) (length phases) [])) (sym (turns-kept phases t (length phases) (omega arith)))
      (subst (λ (ts : List (Option Row)). IsPartPhase net gates setting (turns_after phases (length phases)) ts) (sym (get_or-append_seam phases t [] [])) phase));
  bound = subst (λ (s : Setting). IsPartBoundOf net (gated_lengths net gates s (turns_after (phases ++ t ∷ []) (length phases + 1))) b) later_is bound;
}

-- no phase
pub no-phases : (net : Network) (gates : List Cell) (o : RunOptions) → ArePartPhases net gates o [] []
no-phases net gates o = record {
  count = refl;
  each = λ p l. absurd (omega arith);
  goes_on = λ p some l. absurd (omega arith);
}
