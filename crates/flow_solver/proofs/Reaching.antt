-- What is reached with the first phase, and with one phase more.
use Rattle.std.proofs.Common.{◌≡◌, ◌≢◌, ℕ, zero, suc, ◌+◌, ◌*◌, ◌<◌, ◌≤◌, Bool, true, false, nat_eq, cond, List, [], ◌∷◌, ◌++◌, length, get_or, take, refl, sym, ap, ◌∙◌, subst, arith, ne_eqb}
use Rattle.std.specs.Prelude.{All, map}
use Rattle.std.proofs.Math.Nat.{mul-le-mul_left}
use Rattle.std.proofs.Math.Seq.{take-length}
use Rattle.std.proofs.lemmas.List.{length-append}
use Rattle.std.proofs.lemmas.List.Elements.{All-append, All-cons, All-nil}
use Rattle.flow_model.specs.declared.setting.Setting.{Setting}
use Rattle.flow_model.specs.Network.{Network, IsNetwork}
use Rattle.flow_model.specs.Lengths.{IsSetting, lengths_of}
use Rattle.gap_fraction.specs.Fraction.{Fraction, IsWithinGap}
use Rattle.flow_paths.specs.DualRows.{DualRows}
use Rattle.flow_paths.specs.Certificate.{upper_of}
use Rattle.flow_paths.specs.Evaluation.{fill, fraction_le}
use Rattle.flow_paths.specs.declared.fill.Fill.{Fill}
use Rattle.flow_paths.specs.Fullness.{IsFill, fullness}
use Rattle.flow_paths.proofs.FillLimits.{fill-positive, fill-cap, fill-load}
use Rattle.flow_paths.proofs.Least.{least-push}
use Rattle.flow_core.specs.Phase.{Routed}
use Rattle.dual_bound.specs.declared.bounds.Bounded.{Bounded}
use Rattle.dual_bound.specs.Bounds.{IsBoundOf, ShowsBound}
use Rattle.mcf_limits.specs.declared.TheConstants.{MAX_LENGTH, MAX_UNITS}
use Rattle.solver_run.specs.declared.options.Entry.{Entry}
use Rattle.solver_run.specs.declared.options.SolveOptions.{SolveOptions}
use Rattle.solver_run.specs.Options.{AreOptions}
use Rattle.solver_run.specs.History.{routed_in, loads_after, fill_after, lower_after, first_setting, later_setting, setting_after, AreRoutedBy}
use Rattle.solver_run.specs.Run.{no_dual, least_dual, IsClosedAfter, ArePhases}
use Rattle.flow_solver.specs.declared.search.Search.{Search}
use Rattle.flow_solver.specs.declared.reached.Reached.{Reached}
use Rattle.flow_solver.specs.Adding.{CanNote, CanTakePhase}
use Rattle.flow_solver.proofs.Named.{none_routed}
use Rattle.flow_solver.proofs.OneMore.{begins}
use Rattle.flow_solver.specs.Leading.{CanGoOn}
use Rattle.flow_solver.specs.Search.{ArePhasesOf, CanAddPhase, HasAdded, HasRouted, IsSearch, phase_count, phases_in}
use Rattle.flow_solver.specs.Reached.{AllDivide, IsMet, IsReached, carried}
use Rattle.flow_solver.proofs.Nexts.{phases-more, next-of, no-phases, reference-kept, fill-kept}
use Rattle.flow_solver.proofs.Routing.{can-route, count-of, few-workers, search-more}

-- the fullest cell of some loads is within the limits
pub fill-fits : (net : Network) (loads : List ℕ) (f : Fill) → IsNetwork net → length loads ≡ length net.cells → All (λ (x : ℕ). x ≤ MAX_LENGTH) loads
    → (c : ℕ) × (c < length net.cells) × (1 ≤ get_or loads c 0) → fullness f ≡ fill net.cells loads → IsFill f
fill-fits net loads f n size small some same =
    let cap = ap (λ (x : Fraction). x.num) same in
    let load = ap (λ (x : Fraction). x.den) same in
    let positive = fill-positive net.cells loads some.0 size some.1 some.2 in
    let caps = fill-cap MAX_UNITS net.cells loads (omega arith) (λ k d l. (n.cells k d l).cap) in
    let most = fill-load MAX_LENGTH net.cells loads small in
    record {
      some = omega arith;
      load = omega arith;
      cap = omega arith;
    }

-- how many phases there are
pub count-made : (net : Network) (s : Search) (made : List (List Routed)) → ArePhasesOf net s made → length made ≡ phase_count s
count-made net s made are =
    let noted = count-of s in
    let longer = ap (λ (xs : List (List Routed)). length xs) are.phases_are in
    let appended = length-append (phases_in s) (are.last ∷ []) in
    omega arith

-- with one phase more, the one that was the last is noted
pub made-more : (net : Network) (setting : Setting) (old new : Search) (made : List (List Routed)) → ArePhasesOf net old made → (a : HasAdded net setting old new) → ArePhasesOf net new (made ++ a.routed.phase.entries ∷ [])
made-more net setting old new made are a =
    let p = a.routed.phase in
    record {
      last = p.entries;
      phases_are = ap (λ (ps : List (List Routed)). ps ++ p.entries ∷ []) (are.phases_are ∙ sym (a.noted.phases are.last are.routed));
      routed = record { count = p.count; routes = p.routes };
    }

pub search-added : (net : Network) (setting : Setting) (old new : Search) (made : List (List Routed)) → IsNetwork net → IsSearch net made old → (a : HasAdded net setting old new)
    → IsSearch net (made ++ a.routed.phase.entries ∷ []) new
search-added net setting old new made n is a = search-more net setting made old new n is a.routed a.room (a.noted.commodities ∙ is.commodities) a.noted.rows

-- one phase more
pub count-more : (net : Network) (setting : Setting) (old new : Search) (made : List (List Routed)) → ArePhasesOf net old made → HasAdded net setting old new → phase_count new ≡ phase_count old + 1
count-more net setting old new made are a =
    let p = a.routed.phase in
    let before = count-made net old made are in
    let after = count-made net new (made ++ p.entries ∷ []) (made-more net setting old new made are a) in
    let appended = length-append made (p.entries ∷ []) in
    omega arith

run-more : (net : Network) (o : SolveOptions) (made : List (List Routed)) (old new : Search) (duals : List DualRows) (setting reference : Setting) (d : DualRows) → IsSearch net made old → (h : HasRouted net setting old new)
    → IsSearch net (made ++ h.phase.entries ∷ []) new → ArePhases net o made duals → (1 ≤ length made → IsClosedAfter net o made duals (length made) → ⊥) → setting ≡ setting_after net o (made ++ h.phase.entries ∷ []) (length made)
    → reference ≡ later_setting net o (made ++ h.phase.entries ∷ []) → IsBoundOf net (lengths_of net reference new.loads.items) d → ArePhases net o (made ++ h.phase.entries ∷ []) (duals ++ d ∷ [])
run-more net o made old new duals setting reference d before h after are unmet is later bound =
    let e = h.phase.entries in
    let loads = after.loads ∙ ap (λ (n : ℕ). loads_after net (made ++ e ∷ []) n) (length-append made (e ∷ [])) in
    phases-more net o made e duals d are unmet (next-of net o made e setting reference old.loads.items new.loads.items d is later before.loads loads h.phase.phase bound)

nonzero : (n : ℕ) → n ≢ 0 → 1 ≤ n
nonzero zero h = absurd (h refl)
nonzero (suc n) h = omega arith

-- a dual that shows a bound has a value
divides : (net : Network) (d : DualRows) → ((lengths : List ℕ) × ShowsBound net lengths d) → 1 ≤ (upper_of net d).den
divides net d s = nonzero (upper_of net d).den s.1.distance.divides

divide-more : (net : Network) (ds : List DualRows) (d : DualRows) → AllDivide net ds → 1 ≤ (upper_of net d).den → AllDivide net (ds ++ d ∷ [])
divide-more net [] d all some = one
  where
    one : AllDivide net (d ∷ [])
    one zero x l = some
    one (suc k) x l = absurd (omega arith)
divide-more net (x ∷ xs) d all some = longer (divide-more net xs d (λ k y l. all (suc k) y (omega arith)) some)
  where
    longer : AllDivide net (xs ++ d ∷ []) → AllDivide net ((x ∷ xs) ++ d ∷ [])
    longer rest zero y l = all 0 y (omega arith)
    longer rest (suc k) y l = rest k y (omega arith)

-- what holds of the lesser of two bounds
of-both : (P : Bounded → Type 0) (b : Bool) (x y : Bounded) → P x → P y → P (cond b x y)
of-both P true x y p q = p
of-both P false x y p q = q

dual-of : (b : Bool) (x y : Bounded) → (cond b x y).dual ≡ cond b x.dual y.dual
dual-of true x y = refl
dual-of false x y = refl

later-of : (net : Network) (o : SolveOptions) (phases : List (List Routed)) (f : Fill) → fullness f ≡ fill_after net phases 1 → record { first = false; ref_cap = f.cap; ref_load = f.load; step = o.step } ≡ later_setting net o phases
later-of net o phases f e = ap (λ (x : Fraction). record { first = false; ref_cap = x.num; ref_load = x.den; step = o.step }) e

after-some : (net : Network) (o : SolveOptions) (phases : List (List Routed)) (n : ℕ) → 1 ≤ n → later_setting net o phases ≡ setting_after net o phases n
after-some net o phases zero some = absurd (omega arith)
after-some net o phases (suc n) some = let not : nat_eq (suc n) 0 ≡ false = ne_eqb (suc n) 0 (λ e. omega arith) in sym (ap (λ (b : Bool). cond b (first_setting o) (later_setting net o phases)) not)

-- who routed a phase more is one of the hands, as many as before
routed-by : (net : Network) (setting : Setting) (old new : Search) (n : ℕ) (made : List (List Routed)) → (h : HasRouted net setting old new) → length old.hands.items ≡ n → AreRoutedBy n made → AreRoutedBy n (made ++ h.phase.entries ∷ [])
routed-by net setting old new n made h count before =
    let p = h.phase in
    let By : List Routed → Type 0 = λ entries. All (λ (x : Routed). x.worker < n) entries in
    let now : By p.entries = subst (λ (m : ℕ). All (λ (x : Routed). x.worker < m) p.entries) (h.same ∙ count) (few-workers net setting old.loads.items new.loads.items new.hands.items p) in
    let one : All By (p.entries ∷ []) = All-cons By p.entries [] now (All-nil By) in
    All-append By made (p.entries ∷ []) before one

-- the kept bound and all phases
dual-kept : (net : Network) (o : SolveOptions) (r : Reached) → (is : IsReached net o r) → least_dual net (take (length is.made) is.duals) ≡ r.kept.dual
dual-kept net o r is =
    let count = is.phases.count in
    let whole : take (length is.made) is.duals ≡ is.duals = ap (λ (n : ℕ). take n is.duals) (omega arith) ∙ take-length is.duals in
    ap (least_dual net) whole ∙ sym is.kept

carried-is : (net : Network) (o : SolveOptions) (r : Reached) → (is : IsReached net o r) → lower_after net is.made (length is.made) ≡ carried (phase_count r.search) r.fill
carried-is net o r is =
    ap (λ (f : Fraction). record { num = length is.made * f.num; den = f.den }) (sym is.fill) ∙ ap (λ (n : ℕ). carried n r.fill) (count-made net r.search is.made is.made_are)

abbrev Lie : Network → SolveOptions → Fraction × DualRows → Type 0
Lie net o p = IsWithinGap p.0 (upper_of net p.1) o.gap

pub met-of : (net : Network) (o : SolveOptions) (r : Reached) → (is : IsReached net o r) → IsClosedAfter net o is.made is.duals (length is.made) → IsMet net o r
met-of net o r is closed = subst (Lie net o) (λ i. (carried-is net o r is i, dual-kept net o r is i)) closed

pub of-met : (net : Network) (o : SolveOptions) (r : Reached) → (is : IsReached net o r) → IsMet net o r → IsClosedAfter net o is.made is.duals (length is.made)
of-met net o r is met = subst (Lie net o) (λ i. (sym (carried-is net o r is) i, sym (dual-kept net o r is) i)) met

pub first-reached : (net : Network) (o : SolveOptions) (old new : Search) (f : Fill) (kept : Bounded) → IsSearch net [] old → length old.hands.items ≡ o.workers → (h : HasRouted net (first_setting o) old new)
    → IsSearch net (h.phase.entries ∷ []) new → new.history.history ≡ [] → fullness f ≡ fill net.cells new.loads.items → IsFill f
    → IsBoundOf net (lengths_of net (record { first = false; ref_cap = f.cap; ref_load = f.load; step = o.step }) new.loads.items) kept.dual → ((lengths : List ℕ) × ShowsBound net lengths kept.dual) → kept.value ≡ upper_of net kept.dual
    → IsReached net o (record { search = new; reference = f; fill = f; kept = kept })
first-reached net o old new f kept before hands h after none same fits bound shows value =
    let p = h.phase in
    let made : List (List Routed) = p.entries ∷ [] in
    let at_one : fullness f ≡ fill_after net made 1 = same ∙ ap (fill net.cells) after.loads in
    let some = divides net kept.dual shows in
    record {
      made = made;
      made_are = record {
        last = p.entries;
        phases_are = sym (ap (λ (hs : List (List Entry)). map (routed_in new.history.rows) hs ++ p.entries ∷ []) none);
        routed = record { count = p.count; routes = p.routes };
      };
      search = after;
      hands = h.same ∙ hands;
      workers = routed-by net (first_setting o) old new o.workers [] h hands (All-nil (λ (entries : List Routed). All (λ (x : Routed). x.worker < o.workers) entries));
      reference = at_one;
      reference_fits = fits;
      fill = at_one;
      fill_fits = fits;
      duals = kept.dual ∷ [];
      phases = run-more net o [] old new [] (first_setting o) (record { first = false; ref_cap = f.cap; ref_load = f.load; step = o.step }) kept.dual before h after
          (no-phases net o) (λ some closed. absurd (omega arith)) refl (later-of net o made f at_one) bound;
      divide = divide-more net [] kept.dual (λ k d l. absurd (omega arith)) some;
      kept = refl;
      value = value;
      shows = shows;
    }

pub next-reached : (net : Network) (o : SolveOptions) (r : Reached) (new : Search) (f : Fill) (later kept : Bounded) → IsNetwork net → IsReached net o r → (IsMet net o r → ⊥)
    → HasAdded net (record { first = false; ref_cap = r.reference.cap; ref_load = r.reference.load; step = o.step }) r.search new → fullness f ≡ fill net.cells new.loads.items → IsFill f
    → IsBoundOf net (lengths_of net (record { first = false; ref_cap = r.reference.cap; ref_load = r.reference.load; step = o.step }) new.loads.items) later.dual → ((lengths : List ℕ) × ShowsBound net lengths later.dual)
    → later.value ≡ upper_of net later.dual → kept ≡ cond (fraction_le r.kept.value later.value) r.kept later
    → IsReached net o (record { search = new; reference = r.reference; fill = f; kept = kept })
next-reached net o r new f later kept n is unmet a same fits bound shows value lesser =
    let old = r.search in
    let setting : Setting = record { first = false; ref_cap = r.reference.cap; ref_load = r.reference.load; step = o.step } in
    let made = is.made in
    let h = a.routed in
    let e = h.phase.entries in
    let all : List (List Routed) = made ++ e ∷ [] in
    let after = search-added net setting old new made n is.search a in
    let count = count-made net old made is.made_are in
    let some : 1 ≤ length made = omega arith in
    let kept_reference : later_setting net o all ≡ later_setting net o made = reference-kept net o made e some in
    let reference_is : setting ≡ later_setting net o all = later-of net o made r.reference is.reference ∙ sym kept_reference in
    let low = divides net later.dual shows in
    let duals_count = is.phases.count in
    let least = least-push (upper_of net) no_dual is.duals later.dual (omega arith) is.divide low in
    let values : fraction_le r.kept.value later.value ≡ fraction_le (upper_of net (least_dual net is.duals)) (upper_of net later.dual) =
    ap (λ (x : Fraction). fraction_le x later.value) (is.value ∙ ap (upper_of net) is.kept) ∙ ap (λ (x : Fraction). fraction_le (upper_of net (least_dual net is.duals)) x) value in
    let kept_dual : kept.dual ≡ least_dual net (is.duals ++ later.dual ∷ []) =
    ap (λ (b : Bounded). b.dual) lesser ∙ (dual-of (fraction_le r.kept.value later.value) r.kept later
    ∙ (ap (λ (b : Bool). cond b r.kept.dual later.dual) values ∙ (ap (λ (d : DualRows). cond (fraction_le (upper_of net (least_dual net is.duals)) (upper_of net later.dual)) d later.dual) is.kept ∙ sym least))) in
    record {
      made = all;
      made_are = made-more net setting old new made is.made_are a;
      search = after;
      hands = h.same ∙ is.hands;
      workers = routed-by net setting old new o.workers made h is.hands is.workers;
      reference = is.reference ∙ sym (fill-kept net made e 1 some);
      reference_fits = is.reference_fits;
      fill = same ∙ ap (fill net.cells) after.loads;
      fill_fits = fits;
      duals = is.duals ++ later.dual ∷ [];
      phases = run-more net o made old new is.duals setting setting later.dual is.search h after is.phases (λ some closed. unmet (met-of net o r is closed))
          (reference_is ∙ after-some net o all (length made) some) reference_is bound;
      divide = divide-more net is.duals later.dual is.divide low;
      kept = kept_dual;
      value = subst (λ (b : Bounded). b.value ≡ upper_of net b.dual) (sym lesser) (of-both (λ (b : Bounded). b.value ≡ upper_of net b.dual) (fraction_le r.kept.value later.value) r.kept later is.value value);
      shows = subst (λ (b : Bounded). (lengths : List ℕ) × ShowsBound net lengths b.dual) (sym lesser)
          (of-both (λ (b : Bounded). (lengths : List ℕ) × ShowsBound net lengths b.dual) (fraction_le r.kept.value later.value) r.kept later is.shows shows);
    }

-- within the budget the last phase can be noted
pub notes-phase : (net : Network) (o : SolveOptions) (r : Reached) → AreOptions net o → IsReached net o r → phase_count r.search ≤ o.phases → CanNote net r.search.hands.items r.search.history []
notes-phase net o r options is budget =
    let times = mul-le-mul_left (length net.commodities) budget in
    let takes : CanTakePhase net r.search.history [] = record {
      commodities = is.search.commodities;
      begun = begins net r.search.history.history [] r.search.history.rows refl is.search.rows;
      few = omega arith;
      phases = omega (arith, budget, options.phases);
      work = omega (arith, times, options.work);
    } in
    record {
      can = takes;
      few = is.search.hands.last.few;
      routed = (is.made_are.last, is.made_are.routed);
      routed_as = none_routed r.search.hands.items r.search.history.rows [] refl;
    }

-- and with room in the budget one more can be added
pub adds-phase : (net : Network) (o : SolveOptions) (r : Reached) (setting : Setting) → CanGoOn net o r → IsSetting setting → CanAddPhase net setting r.search
adds-phase net o r setting c setting_is =
    let is = c.reached in
    let budget = c.budget in
    let count = count-made net r.search is.made is.made_are in
    record {
      can = can-route net setting is.made r.search c.no_cut setting_is is.search (omega (arith, budget, count, c.options.phases));
      note = notes-phase net o r c.options is (omega (arith, budget));
      room = is.search.room;
    }
