-- The first phase gives a state that a run reaches, and so does each phase from such a state.
use Rattle.std.proofs.Common.{◌≡◌, ℕ, ◌+◌, ◌*◌, ◌<◌, ◌≤◌, Bool, true, false, eqb, cond, List, [], ◌∷◌, ◌++◌, length, get_or, take, Option, refl, sym, ap, ◌∙◌, subst, arith}
use Rattle.std.specs.List.{sum_by}
use Rattle.std.proofs.Math.Seq.{take-length}
use Rattle.std.proofs.lemmas.List.{length-append}
use Rattle.std.proofs.lemmas.List.Elements.{All-append, All-cons, All-nil}
use Rattle.std.proofs.lemmas.List.Sums.{sum_by-append}
use Rattle.mcf_limits.specs.declared.TheConstants.{MAX_LENGTH}
use Rattle.flow_model.specs.declared.net.Cell.{Cell}
use Rattle.flow_model.specs.declared.net.Commodity.{Commodity}
use Rattle.flow_model.specs.declared.setting.Setting.{Setting}
use Rattle.flow_model.specs.Network.{Network, IsNetwork}
use Rattle.flow_model.specs.Routing.{Row}
use Rattle.gap_fraction.specs.Fraction.{Fraction, IsWithinGap}
use Rattle.flow_paths.specs.declared.fill.Fill.{Fill}
use Rattle.flow_paths.specs.Evaluation.{fill, fraction_le}
use Rattle.flow_paths.specs.Fullness.{IsFill, fullness}
use Rattle.flow_paths.specs.Least.{least_by}
use Rattle.flow_paths.proofs.Least.{least-push}
use Rattle.route_tally.specs.declared.options.RunOptions.{RunOptions}
use Rattle.route_tally.specs.Asked.{first_setting, later_setting}
use Rattle.throughput.specs.declared.part_proof.PartDual.{PartDual}
use Rattle.throughput.specs.declared.loaded.Loaded.{Loaded}
use Rattle.throughput.specs.declared.reached.Room.{Room}
use Rattle.throughput.specs.declared.reached.Kept.{Kept}
use Rattle.throughput.specs.declared.reached.Reached.{Reached}
use Rattle.throughput.specs.Partial.{total_of, part_upper_of}
use Rattle.gates.specs.Gates.{gated_lengths}
use Rattle.throughput.specs.Run.{IsPartBoundOf, IsPartClosedAfter, no_part_dual, part_fill_after, part_kept_after, part_lower_after, routed, turns_after}
use Rattle.throughput.specs.Loaded.{HasLoaded, IsLoaded, lengths_under}
use Rattle.throughput.specs.Reached.{AllDivide, HasPhase, IsMet, IsReached, IsRoom, carried_in}
use Rattle.throughput.proofs.Loading.{gate-load}
use Rattle.throughput.proofs.FirstPhase.{carried-first, first-loads}
use Rattle.throughput.proofs.Phasing.{loads-behind, lengths-behind}
use Rattle.throughput.proofs.PartNexts.{turns-last, fill-kept, after-some, phases-more, next-of, no-phases}

-- what was measured of loads
pub record IsMeasured (net : Network) (gates : List Cell) (later : Setting) (s : Loaded) (kept : Kept) : Type 0 where
  pub bound : IsPartBoundOf net (lengths_under net gates later s) kept.bound
  pub value : kept.value ≡ part_upper_of net kept.bound
  pub positive : 1 ≤ kept.bound.threshold
  pub limit : kept.bound.threshold ≤ MAX_LENGTH

-- how much more there is after a phase
pub record HasGrown (net : Network) (old new : Loaded) : Type 0 where
  pub total : new.total ≤ old.total + sum_by (λ (k : Commodity). k.amount) net.commodities
  pub few : length new.tally ≤ length old.tally + length net.commodities

-- the fullest cell or gate of the loads
pub fill-behind : (net : Network) (gates : List Cell) (phases : List (List (Option Row))) (p : ℕ) (s : Loaded) (f : Fill) → IsLoaded net (turns_after phases p) s
    → fullness f ≡ fill (net.cells ++ gates) (s.cells.items ++ s.gates.items) → fullness f ≡ part_fill_after net gates phases p
fill-behind net gates phases p s f is same = same ∙ ap (fill (net.cells ++ gates)) (sym (loads-behind net (turns_after phases p) s is))

bound-behind : (net : Network) (gates : List Cell) (later : Setting) (rows : List Row) (s : Loaded) (b : PartDual) → IsLoaded net rows s → IsPartBoundOf net (lengths_under net gates later s) b → IsPartBoundOf net (gated_lengths net gates later rows) b
bound-behind net gates later rows s b is bound = subst (λ (xs : List ℕ). IsPartBoundOf net xs b) (sym (lengths-behind net gates later rows s is)) bound

one-divides : (net : Network) (b : PartDual) → 1 ≤ b.threshold → AllDivide net (b ∷ [])
one-divides net b some = All-cons (λ (x : PartDual). 1 ≤ (part_upper_of net x).den) b [] some (All-nil (λ (x : PartDual). 1 ≤ (part_upper_of net x).den))

pub first-reached : (net : Network) (gates : List Cell) (o : RunOptions) (old new : Loaded) (room : Room) (f : Fill) (kept : Kept) → IsNetwork net → IsLoaded net [] old → old.total ≡ 0 → length old.tally ≡ 0
    → HasPhase net gates (first_setting o.step) old new → HasGrown net old new → fullness f ≡ fill (net.cells ++ gates) (new.cells.items ++ new.gates.items) → IsFill f
    → IsMeasured net gates (later_setting o.step (fullness f)) new kept → IsRoom net room
    → IsReached net gates o (record { loaded = new; room = room; phases = 1; reference = f; fill = f; kept = kept; least = kept.bound.threshold })
first-reached net gates o old new room f kept n start none empty has grown same fits m is_room =
    let h = has.rows [] start in
    let turns = h.0 in
    let more = turns ∷ [] in
    let rows : routed turns ≡ turns_after more 1 = turns-last [] turns in
    let loaded : IsLoaded net (turns_after more 1) new = subst (λ (rs : List Row). IsLoaded net rs new) rows h.2 in
    let filled = fill-behind net gates more 1 new f loaded same in
    let later = later_setting o.step (fullness f) in
    let later_is : later ≡ later_setting o.step (part_fill_after net gates more 1) = ap (later_setting o.step) filled in
    let next = next-of net gates o [] turns (first_setting o.step) later kept.bound refl later_is h.1 (bound-behind net gates later (turns_after more 1) new kept.bound loaded m.bound) in
    record {
      phases = more;
      bounds = kept.bound ∷ [];
      are = phases-more net gates o [] turns [] kept.bound (no-phases net gates o) (λ some closed. absurd (omega arith)) next;
      count = refl;
      some = omega arith;
      loaded = loaded;
      total = omega (arith, grown.total, n.total);
      few = omega (arith, grown.few);
      reference = filled;
      reference_fits = fits;
      fill = filled;
      fill_fits = fits;
      divide = one-divides net kept.bound m.positive;
      kept = refl;
      value = m.value;
      limit = m.limit;
      least = m.bound.threshold;
      low = m.limit;
      room = is_room;
    }

-- what holds of the lesser of two bounds
of-both : (P : Kept → Type 0) (b : Bool) (x y : Kept) → P x → P y → P (cond b x y)
of-both P true x y p q = p
of-both P false x y p q = q

bound-of : (b : Bool) (x y : Kept) → (cond b x y).bound ≡ cond b x.bound y.bound
bound-of true x y = refl
bound-of false x y = refl

-- the kept bound is that of all phases
pub kept-all : (net : Network) (gates : List Cell) (o : RunOptions) (r : Reached) → (is : IsReached net gates o r) → part_kept_after net is.bounds r.phases ≡ r.kept.bound
kept-all net gates o r is =
    let count = is.are.count in
    let phases = is.count in
    let whole : take r.phases is.bounds ≡ is.bounds = ap (λ (n : ℕ). take n is.bounds) (omega arith) ∙ take-length is.bounds in
    ap (λ (bs : List PartDual). least_by (part_upper_of net) no_part_dual bs) whole ∙ sym is.kept

-- so is the total
pub lower-all : (net : Network) (gates : List Cell) (o : RunOptions) (r : Reached) → (is : IsReached net gates o r) → part_lower_after net gates is.phases r.phases ≡ carried_in r
lower-all net gates o r is =
    let f = part_fill_after net gates is.phases r.phases in
    let cap : f.num ≡ r.fill.cap = ap (λ (x : Fraction). x.num) (sym is.fill) in
    let load : f.den ≡ r.fill.load = ap (λ (x : Fraction). x.den) (sym is.fill) in
    let total : total_of (turns_after is.phases r.phases) ≡ r.loaded.total = sym is.loaded.total in
    ap (λ (t : ℕ). record { num = t * f.num; den = f.den }) total ∙ (ap (λ (c : ℕ). record { num = r.loaded.total * c; den = f.den }) cap ∙ ap (λ (l : ℕ). record { num = r.loaded.total * r.fill.cap; den = l }) load)

pub met-of : (net : Network) (gates : List Cell) (o : RunOptions) (r : Reached) → (is : IsReached net gates o r) → IsPartClosedAfter net gates o is.phases is.bounds r.phases → IsMet net o r
met-of net gates o r is closed =
    subst (λ (f : Fraction). IsWithinGap f (part_upper_of net r.kept.bound) o.gap) (lower-all net gates o r is)
    (subst (λ (b : PartDual). IsWithinGap (part_lower_after net gates is.phases r.phases) (part_upper_of net b) o.gap) (kept-all net gates o r is) closed)

pub of-met : (net : Network) (gates : List Cell) (o : RunOptions) (r : Reached) → (is : IsReached net gates o r) → IsMet net o r → IsPartClosedAfter net gates o is.phases is.bounds r.phases
of-met net gates o r is met =
    subst (λ (f : Fraction). IsWithinGap f (part_upper_of net (part_kept_after net is.bounds r.phases)) o.gap) (sym (lower-all net gates o r is))
    (subst (λ (b : PartDual). IsWithinGap (carried_in r) (part_upper_of net b) o.gap) (sym (kept-all net gates o r is)) met)

pub next-reached : (net : Network) (gates : List Cell) (o : RunOptions) (r : Reached) (new : Loaded) (room : Room) (f : Fill) (later kept : Kept) → IsNetwork net → IsReached net gates o r → (IsMet net o r → ⊥)
    → HasPhase net gates (later_setting o.step (fullness r.reference)) r.loaded new → HasGrown net r.loaded new → fullness f ≡ fill (net.cells ++ gates) (new.cells.items ++ new.gates.items) → IsFill f
    → IsMeasured net gates (later_setting o.step (fullness r.reference)) new later → kept ≡ cond (fraction_le r.kept.value later.value) r.kept later → IsRoom net room
    → IsReached net gates o (record { loaded = new; room = room; phases = r.phases + 1; reference = r.reference; fill = f; kept = kept; least = later.bound.threshold })
next-reached net gates o r new room f later kept n is unmet has grown same fits m lesser is_room =
    let phases = is.phases in
    let count = is.count in
    let some : 1 ≤ length phases = (let a = is.some in omega arith) in
    let start : IsLoaded net (turns_after phases (length phases)) r.loaded = subst (λ (i : ℕ). IsLoaded net (turns_after phases i) r.loaded) (sym count) is.loaded in
    let h = has.rows (turns_after phases (length phases)) start in
    let turns = h.0 in
    let more = phases ++ turns ∷ [] in
    let last : length phases + 1 ≡ r.phases + 1 = omega arith in
    let loaded : IsLoaded net (turns_after more (length phases + 1)) new = subst (λ (rs : List Row). IsLoaded net rs new) (turns-last phases turns) h.2 in
    let loaded_now : IsLoaded net (turns_after more (r.phases + 1)) new = subst (λ (i : ℕ). IsLoaded net (turns_after more i) new) last loaded in
    let setting = later_setting o.step (fullness r.reference) in
    let reference : fullness r.reference ≡ part_fill_after net gates more 1 = is.reference ∙ sym (fill-kept net gates phases turns 1 some) in
    let setting_is : setting ≡ later_setting o.step (part_fill_after net gates more 1) = ap (later_setting o.step) reference in
    let next = next-of net gates o phases turns setting setting later.bound (setting_is ∙ sym (after-some o.step (length phases) (part_fill_after net gates more 1) some)) setting_is h.1
    (bound-behind net gates setting (turns_after more (length phases + 1)) new later.bound loaded m.bound) in
    let bounds_count = is.are.count in
    let least = least-push (part_upper_of net) no_part_dual is.bounds later.bound (omega arith) is.divide m.positive in
    let values : fraction_le r.kept.value later.value ≡ fraction_le (part_upper_of net (least_by (part_upper_of net) no_part_dual is.bounds)) (part_upper_of net later.bound) =
    ap (λ (x : Fraction). fraction_le x later.value) (is.value ∙ ap (part_upper_of net) is.kept) ∙ ap (λ (x : Fraction). fraction_le (part_upper_of net (least_by (part_upper_of net) no_part_dual is.bounds)) x) m.value in
    let kept_bound : kept.bound ≡ least_by (part_upper_of net) no_part_dual (is.bounds ++ later.bound ∷ []) =
    ap (λ (k : Kept). k.bound) lesser ∙ (bound-of (fraction_le r.kept.value later.value) r.kept later
    ∙ (ap (λ (b : Bool). cond b r.kept.bound later.bound) values
    ∙ (ap (λ (d : PartDual). cond (fraction_le (part_upper_of net (least_by (part_upper_of net) no_part_dual is.bounds)) (part_upper_of net later.bound)) d later.bound) is.kept ∙ sym least))) in
    record {
      phases = more;
      bounds = is.bounds ++ later.bound ∷ [];
      are = phases-more net gates o phases turns is.bounds later.bound is.are
          (λ some closed. unmet (met-of net gates o r is (subst (λ (i : ℕ). IsPartClosedAfter net gates o phases is.bounds i) count closed))) next;
      count = length-append phases (turns ∷ []) ∙ last;
      some = omega arith;
      loaded = loaded_now;
      total = omega (arith, grown.total, is.total, n.total);
      few = omega (arith, grown.few, is.few);
      reference = reference;
      reference_fits = is.reference_fits;
      fill = fill-behind net gates more (r.phases + 1) new f loaded_now same;
      fill_fits = fits;
      divide = All-append (λ (x : PartDual). 1 ≤ (part_upper_of net x).den) is.bounds (later.bound ∷ []) is.divide (one-divides net later.bound m.positive);
      kept = kept_bound;
      value = subst (λ (k : Kept). k.value ≡ part_upper_of net k.bound) (sym lesser) (of-both (λ (k : Kept). k.value ≡ part_upper_of net k.bound) (fraction_le r.kept.value later.value) r.kept later is.value m.value);
      limit = subst (λ (k : Kept). k.bound.threshold ≤ MAX_LENGTH) (sym lesser) (of-both (λ (k : Kept). k.bound.threshold ≤ MAX_LENGTH) (fraction_le r.kept.value later.value) r.kept later is.limit m.limit);
      least = m.bound.threshold;
      low = m.limit;
      room = is_room;
    }

-- a phase leaves loads that are those of rows, and some gate is loaded

pub phase-loaded : (net : Network) (gates : List Cell) (setting : Setting) (old new : Loaded) → HasPhase net gates setting old new → HasLoaded net old → HasLoaded net new
phase-loaded net gates setting old new has loaded = let h = has.rows loaded.0 loaded.1 in (_, h.2)

pub first-some : (net : Network) (gates : List Cell) (step : ℕ) (old new : Loaded) → IsNetwork net → HasPhase net gates (first_setting step) old new → IsLoaded net [] old → (k : ℕ) × (k < length net.commodities) × (1 ≤ get_or new.gates.items k 0)
first-some net gates step old new n has start =
    let h = has.rows [] start in
    let c = carried-first net gates step h.0 n h.1 in
    (c.0, c.1, omega (arith, c.2, gate-load net (routed h.0) new c.0 h.2 c.1))

pub next-some : (net : Network) (gates : List Cell) (o : RunOptions) (setting : Setting) (r : Reached) (new : Loaded) → IsNetwork net → IsReached net gates o r → HasPhase net gates setting r.loaded new
    → (k : ℕ) × (k < length net.commodities) × (1 ≤ get_or new.gates.items k 0)
next-some net gates o setting r new n is has =
    let some = is.some in
    let count = is.count in
    let h = has.rows (turns_after is.phases r.phases) is.loaded in
    let c = first-loads net gates o.step r.phases is.phases n (omega arith) (is.are.each 0 (omega arith)).phase some in
    (c.0, c.1, omega (arith, c.2, gate-load net (turns_after is.phases r.phases ++ routed h.0) new c.0 h.2 c.1, sum_by-append (λ (s : Row). cond {A = ℕ} (eqb s.commodity c.0) s.weight 0) (turns_after is.phases r.phases) (routed h.0)))
