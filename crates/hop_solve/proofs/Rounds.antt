-- Phases of turns: what they carry, and what every turn is.
use Rattle.std.proofs.Common.{◌≡◌, ◌≢◌, ℕ, zero, suc, ◌+◌, ◌*◌, ◌<◌, ◌≤◌, nat_eq, cond, List, [], ◌∷◌, ◌++◌, length, length-append, get_or, take, Option, Some, None, refl, sym, ap, subst, ◌∙◌, arith, eq-eqb, ne_eqb, suc-mul}
use Rattle.std.specs.Prelude.{All, MatchOption, flat_map, slice_get}
use Rattle.std.proofs.lemmas.List.Elements.{All-nil, All-append, All-head, All-tail, All-from_get_or}
use Rattle.std.proofs.lemmas.List.Sums.{sum_by-cons, sum_by-append}
use Rattle.std.proofs.lemmas.Option.{slice_get-get_or, slice_get_within, get_or_from_slice_get, same_Some}
use Rattle.mcf_limits.specs.declared.TheConstants.{MAX_HOPS, MAX_PATH_CELLS}
use Rattle.flow_model.specs.declared.net.Commodity.{Commodity}
use Rattle.flow_model.specs.declared.setting.Setting.{Setting}
use Rattle.flow_model.specs.Network.{Network, IsNetwork, IsCommodity}
use Rattle.flow_model.specs.Walk.{PositiveWalk}
use Rattle.flow_model.specs.Routing.{Row, carried}
use Rattle.flow_model.specs.Bound.{walk_length}
use Rattle.flow_model.specs.Lengths.{AreLengths, lengths_of, greatest_exponent}
use Rattle.flow_model.proofs.Duality.{no_commodity}
use Rattle.fixed_exp.proofs.Passes.{lengths-fit}
use Rattle.flow_paths.specs.PathRows.{no_row}
use Rattle.flow_paths.specs.Evaluation.{loads_of}
use Rattle.solver_run.proofs.Short.{least-short}
use Rattle.hop_paths.specs.Allowed.{limit_at, IsWithin, IsAllowed, AreLimits}
use Rattle.hop_solve.specs.Run.{IsTurn, IsHopPhase}
use Rattle.hop_solve.specs.Turns.{weight_of, amount_of, IsOnce}
use Rattle.hop_solve.proofs.Once.{least-once, cells-inside}
use Rattle.hop_solve.proofs.Turning.{loads-length}
use Rattle.hop_solve.proofs.Counted.{limit-small}

-- the lengths under the loads of turns are lengths
pub lengths-are : (net : Network) (setting : Setting) (before : List Row) → AreLengths net.cells (lengths_of net setting (loads_of net before))
lengths-are net setting before = lengths-fit setting (greatest_exponent setting net.cells (loads_of net before)) net.cells (loads_of net before) (loads-length net before)

-- a turn that carries the whole amount of its commodity along an allowed walk, over no cell twice
pub record IsGood (net : Network) (limits : List (Option ℕ)) (turn : Row) : Type 0 where
  pub commodity : Commodity
  pub at : slice_get net.commodities turn.commodity ≡ Some commodity
  pub walks : PositiveWalk net.cells commodity.from commodity.to turn.walk
  pub within : IsWithin (limit_at limits turn.commodity) turn.walk
  pub whole : turn.weight ≡ commodity.amount
  pub once : IsOnce turn.walk
  pub cells : All (λ c. c < length net.cells) turn.walk
  pub some : 1 ≤ length turn.walk
  pub short : length turn.walk ≤ MAX_PATH_CELLS

within-shorter : (o : Option ℕ) (walk other : List ℕ) → IsWithin o walk → length other ≤ length walk → IsWithin o other
within-shorter None walk other h l = tt
within-shorter (Some n) walk other h l = omega arith

some-cell : (net : Network) (u v : ℕ) (walk : List ℕ) → u ≢ v → PositiveWalk net.cells u v walk → 1 ≤ length walk
some-cell net u v [] ne w = absurd (ne w)
some-cell net u v (c ∷ walk) ne w = omega arith

short-by : (net : Network) (limits : List (Option ℕ)) (lengths : List ℕ) (k : ℕ) (commodity : Commodity) (walk : List ℕ) (o : Option ℕ) → IsNetwork net → AreLimits net limits → AreLengths net.cells lengths → slice_get net.commodities k ≡ Some commodity
    → limit_at limits k ≡ o → PositiveWalk net.cells commodity.from commodity.to walk → IsWithin o walk → ((other : List ℕ) → IsAllowed net limits k other → walk_length lengths walk ≤ walk_length lengths other) → length walk ≤ MAX_PATH_CELLS
short-by net limits lengths k commodity walk None n are long at is w within least =
    let fits : IsCommodity net.nodes commodity = subst (IsCommodity net.nodes) (get_or_from_slice_get net.commodities k commodity no_commodity at) (n.commodities k no_commodity (slice_get_within net.commodities k commodity at)) in
    let few = least-short net lengths commodity.from commodity.to walk n long.low fits.from
    (record { walks = w; least = λ other p. least other (record { commodity = commodity; at = at; walks = p; within = subst (λ (o : Option ℕ). IsWithin o other) (sym is) tt }) }) in
    omega (arith, few, n.nodes)
short-by net limits lengths k commodity walk (Some m) n are long at is w within least =
    let small : m ≤ MAX_HOPS = subst (λ (o : Option ℕ). MatchOption o (Unit {0}) (λ n. n ≤ MAX_HOPS)) is (limit-small net limits k are) in
    omega (arith, small, within)

pub good-of : (net : Network) (limits : List (Option ℕ)) (setting : Setting) (before : List Row) (k : ℕ) (turn : Row) → IsNetwork net → AreLimits net limits → IsTurn net limits setting before k turn → IsGood net limits turn
good-of net limits setting before k turn n are t =
    let lengths = lengths_of net setting (loads_of net before) in
    let long = lengths-are net setting before in
    let a = t.least.allowed in
    let commodity = a.commodity in
    let fits : IsCommodity net.nodes commodity = subst (IsCommodity net.nodes) (get_or_from_slice_get net.commodities k commodity no_commodity a.at) (n.commodities k no_commodity (slice_get_within net.commodities k commodity a.at)) in
    let same : t.commodity ≡ commodity = same_Some t.commodity commodity (sym t.at ∙ a.at) in
    record {
      commodity = commodity;
      at = ap (slice_get net.commodities) t.number ∙ a.at;
      walks = a.walks;
      within = subst (λ (j : ℕ). IsWithin (limit_at limits j) turn.walk) (sym t.number) a.within;
      whole = t.whole ∙ ap (λ (x : Commodity). x.amount) same;
      once = least-once net.cells lengths commodity.from commodity.to turn.walk long a.walks
          (λ other w few. t.least.least other (record { commodity = commodity; at = a.at; walks = w; within = within-shorter (limit_at limits k) turn.walk other a.within few }));
      cells = cells-inside net.cells commodity.from commodity.to turn.walk a.walks;
      some = some-cell net commodity.from commodity.to turn.walk fits.apart a.walks;
      short = short-by net limits lengths k commodity turn.walk (limit_at limits k) n are long a.at refl a.walks a.within t.least.least;
    }

-- turns numbered from a on, each with its commodity's amount
abbrev AreNumbered : ℕ → List Commodity → List Row → Type 0
AreNumbered a cs turns = (i : ℕ) → i < length cs → ((get_or turns i no_row).commodity ≡ a + i) × ((get_or turns i no_row).weight ≡ (get_or cs i no_commodity).amount)

numbered-tail : (a : ℕ) (c : Commodity) (cs : List Commodity) (t : Row) (turns : List Row) → AreNumbered a (c ∷ cs) (t ∷ turns) → AreNumbered (a + 1) cs turns
numbered-tail a c cs t turns h i l = let x = h (suc i) (omega arith) in (omega (arith, x.0), x.1)

numbered-weight : (a : ℕ) (cs : List Commodity) (turns : List Row) → length turns ≡ length cs → AreNumbered a cs turns → weight_of turns ≡ amount_of cs
numbered-weight a [] [] e h = refl
numbered-weight a [] (t ∷ turns) e h = absurd (omega arith)
numbered-weight a (c ∷ cs) [] e h = absurd (omega arith)
numbered-weight a (c ∷ cs) (t ∷ turns) e h =
    let x = sum_by-cons (λ (r : Row). r.weight) t turns in
    let y = sum_by-cons (λ (k : Commodity). k.amount) c cs in
    omega (arith, x, y, (h 0 (omega arith)).1, numbered-weight (a + 1) cs turns (omega arith) (numbered-tail a c cs t turns h))

numbered-none : (a k : ℕ) (cs : List Commodity) (turns : List Row) → length turns ≡ length cs → AreNumbered a cs turns → k < a → carried turns k ≡ 0
numbered-none a k [] [] e h l = refl
numbered-none a k [] (t ∷ turns) e h l = absurd (omega arith)
numbered-none a k (c ∷ cs) [] e h l = absurd (omega arith)
numbered-none a k (c ∷ cs) (t ∷ turns) e h l =
    let x = sum_by-cons (λ (r : Row). cond {A = ℕ} (nat_eq r.commodity k) r.weight 0) t turns in
    let here = (h 0 (omega arith)).0 in
    let off : cond {A = ℕ} (nat_eq t.commodity k) t.weight 0 ≡ 0 = rw (ne_eqb t.commodity k (λ q. omega (arith, q, here))) refl in
    omega (arith, x, off, numbered-none (a + 1) k cs turns (omega arith) (numbered-tail a c cs t turns h) (omega arith))

numbered-carried : (a j : ℕ) (cs : List Commodity) (turns : List Row) → length turns ≡ length cs → AreNumbered a cs turns → j < length cs → carried turns (a + j) ≡ (get_or cs j no_commodity).amount
numbered-carried a j [] turns e h l = absurd (omega arith)
numbered-carried a j (c ∷ cs) [] e h l = absurd (omega arith)
numbered-carried a zero (c ∷ cs) (t ∷ turns) e h l =
    let x = sum_by-cons (λ (r : Row). cond {A = ℕ} (nat_eq r.commodity (a + 0)) r.weight 0) t turns in
    let here = h 0 (omega arith) in
    let on : cond {A = ℕ} (nat_eq t.commodity (a + 0)) t.weight 0 ≡ t.weight = rw (eq-eqb t.commodity (a + 0) here.0) refl in
    omega (arith, x, on, here.1, numbered-none (a + 1) (a + 0) cs turns (omega arith) (numbered-tail a c cs t turns h) (omega arith))
numbered-carried a (suc j) (c ∷ cs) (t ∷ turns) e h l =
    let x = sum_by-cons (λ (r : Row). cond {A = ℕ} (nat_eq r.commodity (a + suc j)) r.weight 0) t turns in
    let here = (h 0 (omega arith)).0 in
    let off : cond {A = ℕ} (nat_eq t.commodity (a + suc j)) t.weight 0 ≡ 0 = rw (ne_eqb t.commodity (a + suc j) (λ q. omega (arith, q, here))) refl in
    let place : a + 1 + j ≡ a + suc j = omega arith in
    let rest = numbered-carried (a + 1) j cs turns (omega arith) (numbered-tail a c cs t turns h) (omega arith) in
    omega (arith, x, off, rest, ap (λ (k : ℕ). carried turns k) place)

-- turns of all commodities, each once
pub record IsRound (net : Network) (limits : List (Option ℕ)) (turns : List Row) : Type 0 where
  pub good : All (IsGood net limits) turns
  pub count : length turns ≡ length net.commodities
  pub weight : weight_of turns ≡ amount_of net.commodities
  pub carried_are : (k : ℕ) → k < length net.commodities → carried turns k ≡ (get_or net.commodities k no_commodity).amount

pub round-of : (net : Network) (limits : List (Option ℕ)) (setting : Setting) (before turns : List Row) → IsNetwork net → AreLimits net limits → IsHopPhase net limits setting before turns → IsRound net limits turns
round-of net limits setting before turns n are p =
    let turn : (i : ℕ) → i < length net.commodities → IsTurn net limits setting (before ++ take i turns) i (get_or turns i no_row) = λ i l. p.each i (get_or turns i no_row) (slice_get-get_or turns i no_row (omega (arith, p.count))) in
    let numbered : AreNumbered 0 net.commodities turns = λ i l. (
    let t = turn i l in
    let amount : t.commodity.amount ≡ (get_or net.commodities i no_commodity).amount = ap (λ (x : Commodity). x.amount) (sym (get_or_from_slice_get net.commodities i t.commodity no_commodity t.at)) in
    (omega (arith, t.number), t.whole ∙ amount)) in
    record {
      good = All-from_get_or (IsGood net limits) turns no_row (λ i l. good-of net limits setting (before ++ take i turns) i (get_or turns i no_row) n are (turn i (omega (arith, p.count))));
      count = p.count;
      weight = numbered-weight 0 net.commodities turns p.count numbered;
      carried_are = λ k l. let plain : 0 + k ≡ k = omega arith in ap (λ (j : ℕ). carried turns j) (sym plain) ∙ numbered-carried 0 k net.commodities turns p.count numbered l;
    }

-- the turns of several phases
abbrev pub all_turns : List (List Row) → List Row
all_turns phases = flat_map (λ turns. turns) phases

pub rounds-good : (net : Network) (limits : List (Option ℕ)) (phases : List (List Row)) → All (IsRound net limits) phases → All (IsGood net limits) (all_turns phases)
rounds-good net limits [] h = All-nil (IsGood net limits)
rounds-good net limits (p ∷ phases) h = All-append (IsGood net limits) p (all_turns phases) (All-head (IsRound net limits) p phases h).good (rounds-good net limits phases (All-tail (IsRound net limits) p phases h))

pub rounds-count : (net : Network) (limits : List (Option ℕ)) (phases : List (List Row)) → All (IsRound net limits) phases → length (all_turns phases) ≡ length phases * length net.commodities
rounds-count net limits [] h = omega arith
rounds-count net limits (p ∷ phases) h =
    let here = (All-head (IsRound net limits) p phases h).count in
    let rest = rounds-count net limits phases (All-tail (IsRound net limits) p phases h) in
    omega (arith, length-append p (all_turns phases), here, rest, suc-mul (length phases) (length net.commodities))

pub rounds-weight : (net : Network) (limits : List (Option ℕ)) (phases : List (List Row)) → All (IsRound net limits) phases → weight_of (all_turns phases) ≡ length phases * amount_of net.commodities
rounds-weight net limits [] h = omega arith
rounds-weight net limits (p ∷ phases) h =
    let here = (All-head (IsRound net limits) p phases h).weight in
    let rest = rounds-weight net limits phases (All-tail (IsRound net limits) p phases h) in
    omega (arith, sum_by-append (λ (r : Row). r.weight) p (all_turns phases), here, rest, suc-mul (length phases) (amount_of net.commodities))

pub rounds-carried : (net : Network) (limits : List (Option ℕ)) (phases : List (List Row)) (k : ℕ) → All (IsRound net limits) phases → k < length net.commodities → carried (all_turns phases) k ≡ length phases * (get_or net.commodities k no_commodity).amount
rounds-carried net limits [] k h l = omega arith
rounds-carried net limits (p ∷ phases) k h l =
    let here = (All-head (IsRound net limits) p phases h).carried_are k l in
    let rest = rounds-carried net limits phases k (All-tail (IsRound net limits) p phases h) l in
    omega (arith, sum_by-append (λ (r : Row). cond {A = ℕ} (nat_eq r.commodity k) r.weight 0) p (all_turns phases), here, rest, suc-mul (length phases) (get_or net.commodities k no_commodity).amount)
