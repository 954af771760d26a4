-- What is reached with the first phase, and with one phase more.
use Rattle.std.proofs.Common.{◌≡◌, ℕ, zero, suc, ◌+◌, ◌*◌, ◌<◌, ◌≤◌, Bool, true, false, nat_eq, nat_lt, cond, ◌^◌, List, [], ◌∷◌, ◌++◌, length, get_or, take, Option, refl, sym, ap, ◌∙◌, subst, arith, length-append, append-nil, mul-le-mul_left, mul_comm, ne_eqb}
use Rattle.std.specs.Prelude.{All}
use Rattle.std.proofs.Math.Seq.{get_or-append_seam}
use Rattle.std.proofs.lemmas.Bool.Decides.{nat_tests}
use Rattle.std.proofs.lemmas.List.{take-append-le, take_all, flat_map_more, get_or_append_left}
use Rattle.std.proofs.lemmas.List.Elements.{All-push, All-nil, All-cons, All-from_get_or}
use Rattle.flow_model.specs.declared.setting.Setting.{Setting}
use Rattle.flow_model.specs.Network.{Network, IsNetwork}
use Rattle.flow_model.specs.Routing.{Row}
use Rattle.flow_model.specs.Lengths.{IsSetting, lengths_of, greatest_exponent, least_capacity}
use Rattle.fixed_exp.proofs.Passes.{empty-far}
use Rattle.gap_fraction.specs.Fraction.{Fraction, IsWithinGap}
use Rattle.flow_paths.specs.declared.fill.Fill.{Fill}
use Rattle.flow_paths.specs.Fullness.{IsFill, fullness}
use Rattle.flow_paths.specs.Evaluation.{fill, loads_of, fraction_le}
use Rattle.flow_paths.specs.Least.{least_by}
use Rattle.flow_paths.proofs.Least.{least-push}
use Rattle.mcf_limits.specs.declared.TheConstants.{MAX_LENGTH, MAX_PHASES, MAX_STEP, MAX_WORK}
use Rattle.route_tally.specs.declared.options.RunOptions.{RunOptions}
use Rattle.route_tally.specs.Asked.{AreRunOptions, first_setting, later_setting, setting_after}
use Rattle.hop_paths.specs.Allowed.{AreLimits}
use Rattle.hop_check.specs.Layers.{HopDual, hop_upper_of}
use Rattle.hop_solve.specs.declared.bounds.HopBound.{HopBound}
use Rattle.hop_solve.specs.declared.reached.HopReached.{HopReached}
use Rattle.hop_solve.specs.Run.{IsHopPhase, turns_after, fill_after, lower_after, IsHopBoundOf, no_hop_dual, kept_after, IsHopClosedAfter, IsNextHops}
use Rattle.hop_solve.specs.Turns.{IsRouted, IsFinder, weight_of, amount_of, HasRoom}
use Rattle.hop_solve.specs.Numbers.{hop_dual_of}
use Rattle.hop_solve.specs.Reached.{IsHopReached, IsHopMet}
use Rattle.hop_solve.proofs.Turning.{loads-length}
use Rattle.hop_solve.proofs.Rounds.{IsRound, round-of, all_turns, rounds-count, rounds-weight, lengths-are}
use Rattle.hop_solve.proofs.Shows.{bound-shows}
use Rattle.hop_solve.proofs.Valid.{rounds-fill, total-within, all-after}

-- ---- turns of phases

turns-kept : (phases : List (List Row)) (t : List Row) (p : ℕ) → p ≤ length phases → turns_after (phases ++ t ∷ []) p ≡ turns_after phases p
turns-kept phases t p l = ap (λ (ps : List (List Row)). all_turns ps) (take-append-le p phases (t ∷ []) l)

all-more : (phases : List (List Row)) (t : List Row) → all_turns (phases ++ t ∷ []) ≡ all_turns phases ++ t
all-more phases t = sym (flat_map_more (λ (turns : List Row). turns) [] phases t)

turns-more : (phases : List (List Row)) (t : List Row) → turns_after (phases ++ t ∷ []) (length phases + 1) ≡ turns_after phases (length phases) ++ t
turns-more phases t =
    let whole : take (length phases + 1) (phases ++ t ∷ []) ≡ phases ++ t ∷ [] = take_all (length phases + 1) (phases ++ t ∷ []) (omega (arith, length-append phases (t ∷ []))) in
    ap (λ (ps : List (List Row)). all_turns ps) whole ∙ all-more phases t ∙ ap (λ (turns : List Row). turns ++ t) (sym (all-after phases))

fill-kept : (net : Network) (phases : List (List Row)) (t : List Row) (p : ℕ) → p ≤ length phases → fill_after net (phases ++ t ∷ []) p ≡ fill_after net phases p
fill-kept net phases t p l = ap (λ (turns : List Row). fill net.cells (loads_of net turns)) (turns-kept phases t p l)

-- ---- a phase and its bound

-- a phase behind these turns, and the bound behind those
record NextWith (net : Network) (limits : List (Option ℕ)) (step : ℕ) (f : Fraction) (p : ℕ) (before after turns : List Row) (d : HopDual) : Type 0 where
  phase : IsHopPhase net limits (setting_after step f p) before turns
  bound : IsHopBoundOf net limits (lengths_of net (later_setting step f) (loads_of net after)) d

next-with : (net : Network) (limits : List (Option ℕ)) (o : RunOptions) (phases : List (List Row)) (p : ℕ) (d : HopDual) → IsNextHops net limits o phases p d → NextWith net limits o.step (fill_after net phases 1) p (turns_after phases p) (turns_after phases (p + 1)) (get_or phases p []) d
next-with net limits o phases p d next = record { phase = next.phase; bound = next.bound }

with-next : (net : Network) (limits : List (Option ℕ)) (o : RunOptions) (phases : List (List Row)) (p : ℕ) (d : HopDual) → NextWith net limits o.step (fill_after net phases 1) p (turns_after phases p) (turns_after phases (p + 1)) (get_or phases p []) d → IsNextHops net limits o phases p d
with-next net limits o phases p d next = record { phase = next.phase; bound = next.bound }

same-next : (net : Network) (limits : List (Option ℕ)) (step p : ℕ) (d : HopDual) (f g : Fraction) (before before2 after after2 turns turns2 : List Row) → f ≡ g → before ≡ before2 → after ≡ after2 → turns ≡ turns2
    → NextWith net limits step f p before after turns d → NextWith net limits step g p before2 after2 turns2 d
same-next net limits step p d f g before before2 after after2 turns turns2 ef eb ea et next =
    subst (λ (x : Fraction). NextWith net limits step x p before2 after2 turns2 d) ef
    (subst (λ (x : List Row). NextWith net limits step f p x after2 turns2 d) eb
    (subst (λ (x : List Row). NextWith net limits step f p before x turns2 d) ea
    (subst (λ (x : List Row). NextWith net limits step f p before after x d) et next)))

next-kept : (net : Network) (limits : List (Option ℕ)) (o : RunOptions) (phases : List (List Row)) (t : List Row) (p : ℕ) (d : HopDual) → p < length phases → IsNextHops net limits o phases p d → IsNextHops net limits o (phases ++ t ∷ []) p d
next-kept net limits o phases t p d l next =
    with-next net limits o (phases ++ t ∷ []) p d
    (same-next net limits o.step p d (fill_after net phases 1) (fill_after net (phases ++ t ∷ []) 1) (turns_after phases p) (turns_after (phases ++ t ∷ []) p) (turns_after phases (p + 1)) (turns_after (phases ++ t ∷ []) (p + 1))
    (get_or phases p []) (get_or (phases ++ t ∷ []) p [])
    (sym (fill-kept net phases t 1 (omega arith))) (sym (turns-kept phases t p (omega arith))) (sym (turns-kept phases t (p + 1) (omega arith))) (sym (get_or_append_left phases (t ∷ []) [] p l))
    (next-with net limits o phases p d next))

closed-kept : (net : Network) (limits : List (Option ℕ)) (o : RunOptions) (phases : List (List Row)) (t : List Row) (bounds : List HopDual) (d : HopDual) (p : ℕ) → length bounds ≡ length phases → p ≤ length phases
    → IsHopClosedAfter net limits o (phases ++ t ∷ []) (bounds ++ d ∷ []) p → IsHopClosedAfter net limits o phases bounds p
closed-kept net limits o phases t bounds d p same l closed =
    subst (λ (ds : List HopDual). IsWithinGap (lower_after net phases p) (hop_upper_of net limits (least_by (hop_upper_of net limits) no_hop_dual ds)) o.gap) (take-append-le p bounds (d ∷ []) (omega arith))
    (subst (λ (f : Fraction). IsWithinGap (record { num = p * f.num; den = f.den }) (hop_upper_of net limits (kept_after net limits (bounds ++ d ∷ []) p)) o.gap) (fill-kept net phases t p l) closed)

below-more : (P : ℕ → Type 0) (n : ℕ) → ((p : ℕ) → p < n → P p) → P n → (p : ℕ) → p < n + 1 → P p
below-more P n before here p l = by_test (nat_lt p n) refl
  where
    by_test : (t : Bool) → nat_lt p n ≡ t → P p
    by_test true e = before p (grind (arith, nat_tests))
    by_test false e = let same : n ≡ p = (let m : n ≤ p = grind (arith, nat_tests) in omega arith) in subst P same here

-- phase after phase, the gap not met before the last, with a bound after each
pub record AreHopPhases (net : Network) (limits : List (Option ℕ)) (o : RunOptions) (phases : List (List Row)) (bounds : List HopDual) : Type 0 where
  pub count : length bounds ≡ length phases
  pub each : (p : ℕ) → p < length phases → IsNextHops net limits o phases p (get_or bounds p no_hop_dual)
  pub goes_on : (p : ℕ) → 1 ≤ p → p < length phases → IsHopClosedAfter net limits o phases bounds p → ⊥

phases-more : (net : Network) (limits : List (Option ℕ)) (o : RunOptions) (phases : List (List Row)) (t : List Row) (bounds : List HopDual) (d : HopDual) → AreHopPhases net limits o phases bounds
    → (1 ≤ length phases → IsHopClosedAfter net limits o phases bounds (length phases) → ⊥) → IsNextHops net limits o (phases ++ t ∷ []) (length phases) d → AreHopPhases net limits o (phases ++ t ∷ []) (bounds ++ d ∷ [])
phases-more net limits o phases t bounds d are unmet next =
    let count = are.count in
    let longer = length-append phases (t ∷ []) in
    let more = length-append bounds (d ∷ []) in
    record {
      count = omega arith;
      each = λ p l. below-more (λ (p : ℕ). IsNextHops net limits o (phases ++ t ∷ []) p (get_or (bounds ++ d ∷ []) p no_hop_dual)) (length phases)
          (λ p l. subst (λ (x : HopDual). IsNextHops net limits o (phases ++ t ∷ []) p x) (sym (get_or_append_left bounds (d ∷ []) no_hop_dual p (omega arith))) (next-kept net limits o phases t p (get_or bounds p no_hop_dual) l (are.each p l)))
          (subst (λ (x : HopDual). IsNextHops net limits o (phases ++ t ∷ []) (length phases) x) (sym (ap (λ (n : ℕ). get_or (bounds ++ d ∷ []) n no_hop_dual) (sym count) ∙ get_or-append_seam bounds d [] no_hop_dual)) next)
          p (omega arith);
      goes_on = λ p some l closed. below-more (λ (p : ℕ). 1 ≤ p → IsHopClosedAfter net limits o phases bounds p → ⊥) (length phases) (λ p l some c. are.goes_on p some l c) unmet p (omega arith) some
          (closed-kept net limits o phases t bounds d p count (omega arith) closed);
    }

-- the phase behind those
next-of : (net : Network) (limits : List (Option ℕ)) (o : RunOptions) (phases : List (List Row)) (t : List Row) (setting reference : Setting) (d : HopDual) → setting ≡ setting_after o.step (fill_after net (phases ++ t ∷ []) 1) (length phases)
    → reference ≡ later_setting o.step (fill_after net (phases ++ t ∷ []) 1) → IsHopPhase net limits setting (turns_after phases (length phases)) t → IsHopBoundOf net limits (lengths_of net reference (loads_of net (turns_after phases (length phases) ++ t))) d
    → IsNextHops net limits o (phases ++ t ∷ []) (length phases) d
next-of net limits o phases t setting reference d is later phase bound =
    let more = phases ++ t ∷ [] in
    let n = length phases in
    let f = fill_after net more 1 in
    let whole = turns_after phases n in
    with-next net limits o more n d
    (same-next net limits o.step n d f f whole (turns_after more n) (whole ++ t) (turns_after more (n + 1)) t (get_or more n [])
    refl (sym (turns-kept phases t n (omega arith))) (sym (turns-more phases t)) (sym (get_or-append_seam phases t [] []))
    (record {
      phase = subst (λ (s : Setting). IsHopPhase net limits s whole t) is phase;
      bound = subst (λ (s : Setting). IsHopBoundOf net limits (lengths_of net s (loads_of net (whole ++ t))) d) later bound;
    }))

-- ---- what is reached

pub rounds-of : (net : Network) (limits : List (Option ℕ)) (o : RunOptions) (phases : List (List Row)) (bounds : List HopDual) → IsNetwork net → AreLimits net limits
    → ((p : ℕ) → p < length phases → IsNextHops net limits o phases p (get_or bounds p no_hop_dual)) → All (IsRound net limits) phases
rounds-of net limits o phases bounds n are each = All-from_get_or (IsRound net limits) phases [] (λ p l. round-of net limits _ (turns_after phases p) (get_or phases p []) n are (each p l).phase)

-- the fullest cell is within the limits
pub fill-fits : (net : Network) (limits : List (Option ℕ)) (phases : List (List Row)) (f : Fill) → IsNetwork net → All (IsRound net limits) phases → 1 ≤ length phases → length phases ≤ MAX_PHASES
    → fullness f ≡ fill net.cells (loads_of net (all_turns phases)) → IsFill f
fill-fits net limits phases f n rounds some few same =
    let h = rounds-fill net limits phases n rounds some in
    let cap = ap (λ (x : Fraction). x.num) same in
    let load = ap (λ (x : Fraction). x.den) same in
    record {
      some = omega (arith, load, h.some);
      load = omega (arith, load, h.load, rounds-weight net limits phases rounds, total-within net (length phases) n few);
      cap = omega (arith, cap, h.cap);
    }

-- so it is behind the first phase
pub first-fill : (net : Network) (limits : List (Option ℕ)) (setting : Setting) (turns : List Row) (f : Fill) → IsNetwork net → AreLimits net limits → IsHopPhase net limits setting [] turns → fullness f ≡ fill net.cells (loads_of net turns) → IsFill f
first-fill net limits setting turns f n are phase same =
    let round = round-of net limits setting [] turns n are phase in
    let rounds = All-cons (IsRound net limits) turns [] round (All-nil (IsRound net limits)) in
    fill-fits net limits (turns ∷ []) f n rounds (omega arith) (omega arith) (same ∙ ap (λ (ts : List Row). fill net.cells (loads_of net ts)) (sym (append-nil turns)))

pub first-small : (net : Network) (limits : List (Option ℕ)) (setting : Setting) (turns : List Row) → IsNetwork net → AreLimits net limits → IsHopPhase net limits setting [] turns → weight_of turns ≤ MAX_LENGTH
first-small net limits setting turns n are phase =
    let round = round-of net limits setting [] turns n are phase in
    omega (arith, round.weight, n.total)

-- a fullest cell as the reference
pub later-fits : (step : ℕ) (f : Fill) → IsFill f → step ≤ MAX_STEP → IsSetting (later_setting step (fullness f))
later-fits step f is l = record { cap = is.cap; load = is.some; step = l }

-- a bound divides
pub bound-divides : (net : Network) (limits : List (Option ℕ)) (setting : Setting) (turns : List Row) (d : HopDual) → IsNetwork net → AreLimits net limits → IsHopBoundOf net limits (lengths_of net setting (loads_of net turns)) d → 1 ≤ (hop_upper_of net limits d).den
bound-divides net limits setting turns d n are bound =
    let loads = loads_of net turns in
    let far = empty-far setting (greatest_exponent setting net.cells loads) (least_capacity net.cells) net.cells loads (loads-length net turns) in
    (bound-shows net limits (lengths_of net setting loads) d n are (lengths-are net setting turns) far bound).positive

all-phases-divide : (net : Network) (limits : List (Option ℕ)) (bounds : List HopDual) (d : HopDual) → All (λ (x : HopDual). 1 ≤ (hop_upper_of net limits x).den) bounds → 1 ≤ (hop_upper_of net limits d).den → All (λ (x : HopDual). 1 ≤ (hop_upper_of net limits x).den) (bounds ++ d ∷ [])
all-phases-divide net limits bounds d h here = All-push (λ (x : HopDual). 1 ≤ (hop_upper_of net limits x).den) bounds d h here

whole-bounds : (bounds : List HopDual) (d : HopDual) (n : ℕ) → length bounds ≡ n → take (n + 1) (bounds ++ d ∷ []) ≡ bounds ++ d ∷ []
whole-bounds bounds d n e = take_all (n + 1) (bounds ++ d ∷ []) (omega (arith, length-append bounds (d ∷ [])))

after-some : (o : RunOptions) (f : Fraction) (n : ℕ) → 1 ≤ n → later_setting o.step f ≡ setting_after o.step f n
after-some o f zero some = absurd (omega arith)
after-some o f (suc n) some = let not : nat_eq (suc n) 0 ≡ false = ne_eqb (suc n) 0 (λ e. omega arith) in sym (ap (λ (b : Bool). cond b (first_setting o.step) (later_setting o.step f)) not)

-- what the first phase gives
pub first-reached : (net : Network) (limits : List (Option ℕ)) (counts : List ℕ) (o : RunOptions) (turns : List Row) (r : HopReached) → IsNetwork net → AreLimits net limits → AreRunOptions (length net.commodities) o
    → IsHopPhase net limits (first_setting o.step) [] turns → IsRouted net turns r.routed → r.routed.table.setting ≡ later_setting o.step (fullness r.fill) → IsFinder net counts r.finder → fullness r.fill ≡ fill net.cells (loads_of net turns)
    → r.phases ≡ 1 → IsHopBoundOf net limits (lengths_of net r.routed.table.setting (loads_of net turns)) (hop_dual_of r.kept) → r.kept.value ≡ hop_upper_of net limits (hop_dual_of r.kept) → IsHopReached net limits counts o r
first-reached net limits counts o turns r n are options phase routed later finder fills count bound value =
    let phases = turns ∷ [] in
    let d = hop_dual_of r.kept in
    let all : turns_after phases 1 ≡ turns = append-nil turns in
    let after : fill_after net phases 1 ≡ fullness r.fill = ap (λ (ts : List Row). fill net.cells (loads_of net ts)) all ∙ sym fills in
    let reference : r.routed.table.setting ≡ later_setting o.step (fill_after net phases 1) = later ∙ ap (later_setting o.step) (sym after) in
    let empty : AreHopPhases net limits o [] [] = record { count = refl; each = λ p l. absurd (omega arith); goes_on = λ p some l. absurd (omega arith) } in
    let next = next-of net limits o [] turns (first_setting o.step) r.routed.table.setting d refl reference phase bound in
    let more = phases-more net limits o [] turns [] d empty (λ some. absurd (omega arith)) next in
    let rounds = rounds-of net limits o phases (d ∷ []) n are more.each in
    record {
      phases = phases;
      bounds = d ∷ [];
      count = count;
      some = omega arith;
      routed = subst (λ (ts : List Row). IsRouted net ts r.routed) (sym all) routed;
      setting = reference;
      finder = finder;
      fill = sym after;
      fill_fits = fill-fits net limits phases r.fill n rounds (omega arith) (omega arith) (sym after ∙ ap (λ (ts : List Row). fill net.cells (loads_of net ts)) (all-after phases));
      bounds_count = more.count;
      each = more.each;
      goes_on = more.goes_on;
      divide = all-phases-divide net limits [] d (All-nil (λ (x : HopDual). 1 ≤ (hop_upper_of net limits x).den)) (bound-divides net limits r.routed.table.setting turns d n are bound);
      kept = refl;
      value = value;
    }

-- the fraction and the bound as the phases have them
pub of-met : (net : Network) (limits : List (Option ℕ)) (counts : List ℕ) (o : RunOptions) (r : HopReached) → (is : IsHopReached net limits counts o r) → IsHopMet net limits o r → IsHopClosedAfter net limits o is.phases is.bounds (length is.phases)
of-met net limits counts o r is met =
    subst (λ (d : HopDual). IsWithinGap (lower_after net is.phases (length is.phases)) (hop_upper_of net limits d) o.gap) is.kept
    (subst (λ (f : Fraction). IsWithinGap (record { num = length is.phases * f.num; den = f.den }) (hop_upper_of net limits (hop_dual_of r.kept)) o.gap) is.fill
    (subst (λ (m : ℕ). IsWithinGap (record { num = m * r.fill.cap; den = r.fill.load }) (hop_upper_of net limits (hop_dual_of r.kept)) o.gap) is.count met))

pub met-of : (net : Network) (limits : List (Option ℕ)) (counts : List ℕ) (o : RunOptions) (r : HopReached) → (is : IsHopReached net limits counts o r) → IsHopClosedAfter net limits o is.phases is.bounds (length is.phases) → IsHopMet net limits o r
met-of net limits counts o r is closed =
    subst (λ (m : ℕ). IsWithinGap (record { num = m * r.fill.cap; den = r.fill.load }) (hop_upper_of net limits (hop_dual_of r.kept)) o.gap) (sym is.count)
    (subst (λ (f : Fraction). IsWithinGap (record { num = length is.phases * f.num; den = f.den }) (hop_upper_of net limits (hop_dual_of r.kept)) o.gap) (sym is.fill)
    (subst (λ (d : HopDual). IsWithinGap (lower_after net is.phases (length is.phases)) (hop_upper_of net limits d) o.gap) (sym is.kept) closed))

-- there is room for one phase more
pub room-more : (net : Network) (limits : List (Option ℕ)) (counts : List ℕ) (o : RunOptions) (r : HopReached) → IsNetwork net → AreLimits net limits → AreRunOptions (length net.commodities) o → IsHopReached net limits counts o r → r.phases < o.phases
    → HasRoom net (length net.commodities) (amount_of net.commodities) r.routed
room-more net limits counts o r n are options is l =
    let phases = is.phases in
    let rounds = rounds-of net limits o phases is.bounds n are is.each in
    let all = all-after phases in
    let count : length (turns_after phases (length phases)) ≡ length phases * length net.commodities = ap (λ (ts : List Row). length ts) all ∙ rounds-count net limits phases rounds in
    let weight : weight_of (turns_after phases (length phases)) ≡ length phases * amount_of net.commodities = ap weight_of all ∙ rounds-weight net limits phases rounds in
    let few : length phases + 1 ≤ MAX_PHASES = omega (arith, is.count, l, options.phases) in
    let total = total-within net (length phases + 1) n few in
    let split : (length phases + 1) * amount_of net.commodities ≡ length phases * amount_of net.commodities + amount_of net.commodities = omega arith in
    let work = options.work in
    record {
      before = turns_after phases (length phases);
      routed = is.routed;
      few = few-rows (length phases) (length net.commodities) o.phases (length (turns_after phases (length phases))) count (omega (arith, is.count, l)) work;
      small = omega (arith, weight, total, split);
    }
  where
    few-rows : (p k q m : ℕ) → m ≡ p * k → p + 1 ≤ q → k * q ≤ MAX_WORK → m + k < 2 ^ 32
    few-rows p k q m e l work =
        let product : k * (p + 1) ≤ k * q = mul-le-mul_left k l in
        let split : k * (p + 1) ≡ p * k + k = omega (arith, mul_comm k p) in
        omega (arith, e, product, split, work)

-- of one of two what holds of both
of-both : (P : HopBound → Type 0) (b : Bool) (x y : HopBound) → P x → P y → P (cond b x y)
of-both P true x y p q = p
of-both P false x y p q = q

dual-of : (b : Bool) (x y : HopBound) → hop_dual_of (cond b x y) ≡ cond b (hop_dual_of x) (hop_dual_of y)
dual-of true x y = refl
dual-of false x y = refl

-- what one phase more gives
pub next-reached : (net : Network) (limits : List (Option ℕ)) (counts : List ℕ) (o : RunOptions) (old new : HopReached) (later : HopBound) (turns : List Row) → IsNetwork net → AreLimits net limits → AreRunOptions (length net.commodities) o
    → (is : IsHopReached net limits counts o old) → (IsHopMet net limits o old → ⊥) → old.phases < o.phases → IsHopPhase net limits old.routed.table.setting (turns_after is.phases (length is.phases)) turns
    → IsRouted net (turns_after is.phases (length is.phases) ++ turns) new.routed → new.routed.table.setting ≡ old.routed.table.setting → IsFinder net counts new.finder
    → fullness new.fill ≡ fill net.cells (loads_of net (turns_after is.phases (length is.phases) ++ turns)) → new.phases ≡ old.phases + 1
    → IsHopBoundOf net limits (lengths_of net old.routed.table.setting (loads_of net (turns_after is.phases (length is.phases) ++ turns))) (hop_dual_of later) → later.value ≡ hop_upper_of net limits (hop_dual_of later)
    → new.kept ≡ cond (fraction_le old.kept.value later.value) old.kept later → IsHopReached net limits counts o new
next-reached net limits counts o old new later turns n are options is unmet l phase routed same finder fills count bound value kept =
    let phases = is.phases in
    let more = phases ++ turns ∷ [] in
    let d = hop_dual_of later in
    let before = turns_after phases (length phases) in
    let longer : length more ≡ length phases + 1 = length-append phases (turns ∷ []) in
    let after : turns_after more (length more) ≡ before ++ turns = ap (λ (m : ℕ). turns_after more m) longer ∙ turns-more phases turns in
    let stays = fill-kept net phases turns 1 is.some in
    let reference : old.routed.table.setting ≡ later_setting o.step (fill_after net more 1) = is.setting ∙ ap (later_setting o.step) (sym stays) in
    let setting : old.routed.table.setting ≡ setting_after o.step (fill_after net more 1) (length phases) = reference ∙ after-some o (fill_after net more 1) (length phases) is.some in
    let next = next-of net limits o phases turns old.routed.table.setting old.routed.table.setting d setting reference phase bound in
    let were : AreHopPhases net limits o phases is.bounds = record { count = is.bounds_count; each = is.each; goes_on = is.goes_on } in
    let now = phases-more net limits o phases turns is.bounds d were (λ _ closed. unmet (met-of net limits counts o old is closed)) next in
    let rounds = rounds-of net limits o more (is.bounds ++ d ∷ []) n are now.each in
    let divides = bound-divides net limits old.routed.table.setting (before ++ turns) d n are bound in
    let all : take (length phases) is.bounds ≡ is.bounds = take_all (length phases) is.bounds (omega (arith, is.bounds_count)) in
    let least : hop_dual_of old.kept ≡ least_by (hop_upper_of net limits) no_hop_dual is.bounds = is.kept ∙ ap (least_by (hop_upper_of net limits) no_hop_dual) all in
    let test : fraction_le old.kept.value later.value ≡ fraction_le (hop_upper_of net limits (least_by (hop_upper_of net limits) no_hop_dual is.bounds)) (hop_upper_of net limits d)
    = ap (λ (x : Fraction). fraction_le x later.value) (is.value ∙ ap (hop_upper_of net limits) least) ∙ ap (fraction_le (hop_upper_of net limits (least_by (hop_upper_of net limits) no_hop_dual is.bounds))) value in
    let b = fraction_le old.kept.value later.value in
    let taken : hop_dual_of new.kept ≡ cond b (hop_dual_of old.kept) d = ap hop_dual_of kept ∙ dual-of b old.kept later in
    let pushed = least-push (hop_upper_of net limits) no_hop_dual is.bounds d (omega (arith, is.bounds_count, is.some)) is.divide divides in
    let chosen : cond b (hop_dual_of old.kept) d ≡ least_by (hop_upper_of net limits) no_hop_dual (is.bounds ++ d ∷ [])
    = ap (λ (x : HopDual). cond b x d) least ∙ ap (λ (t : Bool). cond t (least_by (hop_upper_of net limits) no_hop_dual is.bounds) d) test ∙ sym pushed in
    let whole : take (length more) (is.bounds ++ d ∷ []) ≡ is.bounds ++ d ∷ [] = ap (λ (m : ℕ). take m (is.bounds ++ d ∷ [])) longer ∙ whole-bounds is.bounds d (length phases) is.bounds_count in
    record {
      phases = more;
      bounds = is.bounds ++ d ∷ [];
      count = omega (arith, count, is.count, longer);
      some = omega (arith, longer);
      routed = subst (λ (ts : List Row). IsRouted net ts new.routed) (sym after) routed;
      setting = same ∙ reference;
      finder = finder;
      fill = fills ∙ ap (λ (ts : List Row). fill net.cells (loads_of net ts)) (sym after);
      fill_fits = fill-fits net limits more new.fill n rounds (omega (arith, longer)) (omega (arith, longer, is.count, l, options.phases)) (fills ∙ ap (λ (ts : List Row). fill net.cells (loads_of net ts)) (sym after ∙ all-after more));
      bounds_count = now.count;
      each = now.each;
      goes_on = now.goes_on;
      divide = all-phases-divide net limits is.bounds d is.divide divides;
      kept = taken ∙ chosen ∙ ap (least_by (hop_upper_of net limits) no_hop_dual) (sym whole);
      value = subst (λ (x : HopBound). x.value ≡ hop_upper_of net limits (hop_dual_of x)) (sym kept) (of-both (λ (x : HopBound). x.value ≡ hop_upper_of net limits (hop_dual_of x)) b old.kept later is.value value);
    }
