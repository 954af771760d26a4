-- The proof of a run is valid, and fits its network.
use Rattle.std.proofs.Common.{◌≡◌, ◌≢◌, ◌↔◌, inl, inr, ℕ, suc, ◌+◌, ◌*◌, ◌<◌, ◌≤◌, Bool, true, false, cond, List, [], ◌∷◌, length, get_or, take, Option, Some, refl, sym, ap, subst, ◌∙◌, arith, mul-le-mul}
use Rattle.std.specs.Prelude.{All, ◌⊎◌, IsTrue, slice_get}
use Rattle.std.proofs.Math.Seq.{take-length}
use Rattle.std.proofs.lemmas.List.{take_all}
use Rattle.std.proofs.lemmas.List.Elements.{All-nil, All-from_get_or}
use Rattle.std.proofs.lemmas.List.Folds.{Any-from_list_any}
use Rattle.std.proofs.lemmas.Option.{slice_get_within, get_or_from_slice_get}
use Rattle.mcf_limits.specs.declared.TheConstants.{MAX_LENGTH, MAX_PHASES, MAX_TOTAL}
use Rattle.flow_model.specs.declared.net.Commodity.{Commodity}
use Rattle.flow_model.specs.Network.{Network, IsNetwork}
use Rattle.flow_model.specs.Walk.{IsWalk, PositiveWalk}
use Rattle.flow_model.specs.Routing.{Row, Joins}
use Rattle.flow_model.specs.Bound.{volume}
use Rattle.flow_model.specs.Lengths.{lengths_of, greatest_exponent, least_capacity}
use Rattle.flow_model.proofs.Duality.{no_commodity}
use Rattle.fixed_exp.proofs.Passes.{empty-far}
use Rattle.gap_fraction.specs.Fraction.{Fraction, IsWithinGap}
use Rattle.flow_paths.specs.declared.certificate.Routing.{Routing}
use Rattle.flow_paths.specs.Certificate.{PathsAreWalks, PhasesAreCarried, LoadsFit, ScaleDivides, IsRoutingOf, IsRowOf, lower_of}
use Rattle.flow_paths.specs.Evaluation.{fill, loads_of, fraction_le}
use Rattle.flow_paths.specs.Least.{least_by}
use Rattle.route_tally.specs.declared.options.RunOptions.{RunOptions}
use Rattle.route_tally.specs.Asked.{AreRunOptions, later_setting}
use Rattle.route_tally.specs.Tally.{same_path, IsTally}
use Rattle.route_tally.proofs.SamePaths.{same_parts}
use Rattle.route_tally.proofs.TurnSums.{collected, same_carried, same_loads}
use Rattle.dual_bound.specs.Bounds.{cut_lengths}
use Rattle.dual_bound.proofs.Distances.{cut-volume}
use Rattle.hop_paths.specs.Allowed.{limit_at, IsWithin, AreWithin, AreLimits}
use Rattle.hop_check.specs.declared.hop_proof.HopProof.{HopProof}
use Rattle.hop_check.specs.Layers.{HopDual, dual_of, hop_upper_of}
use Rattle.hop_check.specs.Conditions.{HopFractionsArePrinted, IsValidHops, IsHopProofOf}
use Rattle.hop_solve.specs.Run.{turns_after, fill_after, lower_after, no_hop_dual, IsHopPhasedRun, IsHopCutProof, IsHopRun, HasHopCut, HasNoHopCut}
use Rattle.hop_solve.specs.Turns.{amount_of}
use Rattle.hop_solve.proofs.Shows.{ShowsHops, bound-shows, cut-shows}
use Rattle.hop_solve.proofs.Turning.{loads-length}
use Rattle.hop_solve.proofs.Rounds.{IsGood, IsRound, round-of, all_turns, rounds-good, rounds-count, rounds-weight, rounds-carried, lengths-are}
use Rattle.hop_solve.proofs.Filled.{HasFill, fill-has}

-- ---- rows

plain-walk : (net : Network) (u v : ℕ) (walk : List ℕ) → PositiveWalk net.cells u v walk → IsWalk net.cells u v walk
plain-walk net u v [] w = w
plain-walk net u v (c ∷ walk) w = (w.0, (w.1.0, w.1.1, w.1.3), plain-walk net w.0 v walk w.2)

-- what each row of a tally is
record IsGoodRow (net : Network) (limits : List (Option ℕ)) (row : Row) : Type 0 where
  joins : Joins net row
  within : IsWithin (limit_at limits row.commodity) row.walk
  fits : IsRowOf net row

good-row : (net : Network) (limits : List (Option ℕ)) (row turn : Row) → row.commodity ≡ turn.commodity → row.walk ≡ turn.walk → IsGood net limits turn → IsGoodRow net limits row
good-row net limits row turn ek ew g =
    let at : slice_get net.commodities row.commodity ≡ Some g.commodity = ap (slice_get net.commodities) ek ∙ g.at in
    let walks = subst (λ (w : List ℕ). IsWalk net.cells g.commodity.from g.commodity.to w) (sym ew) (plain-walk net g.commodity.from g.commodity.to turn.walk g.walks) in
    record {
      joins = (g.commodity, at, walks);
      within = subst (λ (k : ℕ). IsWithin (limit_at limits k) row.walk) (sym ek) (subst (λ (w : List ℕ). IsWithin (limit_at limits turn.commodity) w) (sym ew) g.within);
      fits = record {
        commodity = slice_get_within net.commodities row.commodity g.commodity at;
        cells = subst (λ (w : List ℕ). All (λ c. c < length net.cells) w) (sym ew) g.cells;
        short = omega (arith, ap (λ (w : List ℕ). length w) ew, g.short);
      };
    }

good-rows : (net : Network) (limits : List (Option ℕ)) (turns rows : List Row) → All (IsGood net limits) turns → IsTally turns rows → All (IsGoodRow net limits) rows
good-rows net limits turns rows good t = λ i d l.
    let row = get_or rows i d in
    let a = Any-from_list_any (same_path row) turns (t.no_other i d l) in
    let g : IsGood net limits a.1 = subst (IsGood net limits) a.3 (good a.0 a.1 a.2) in
    let p = same_parts row a.1 a.4 in
    good-row net limits row a.1 p.0 p.1 g

-- ---- the routing of phases

-- turns with the rows that they come to
record HasRows (net : Network) (limits : List (Option ℕ)) (phases : List (List Row)) (r : Routing) : Type 0 where
  rounds : All (IsRound net limits) phases
  some : 1 ≤ length phases
  few : length phases ≤ MAX_PHASES
  phases_are : r.phases ≡ length phases
  scale : record { num = r.scale_cap; den = r.scale_load } ≡ fill net.cells (loads_of net (all_turns phases))
  tally : IsTally (all_turns phases) r.paths

some-turns : (net : Network) (limits : List (Option ℕ)) (phases : List (List Row)) → IsNetwork net → All (IsRound net limits) phases → 1 ≤ length phases → 1 ≤ length (all_turns phases)
some-turns net limits phases n h l =
    let product : 1 * 1 ≤ length phases * length net.commodities = mul-le-mul l n.some in
    omega (arith, product, rounds-count net limits phases h)

pub rounds-fill : (net : Network) (limits : List (Option ℕ)) (phases : List (List Row)) → IsNetwork net → All (IsRound net limits) phases → 1 ≤ length phases → HasFill net (all_turns phases) (fill net.cells (loads_of net (all_turns phases)))
rounds-fill net limits phases n h l = fill-has net limits (all_turns phases) n (rounds-good net limits phases h) (some-turns net limits phases n h l)

has-fill : (net : Network) (limits : List (Option ℕ)) (phases : List (List Row)) (r : Routing) → IsNetwork net → HasRows net limits phases r → HasFill net (all_turns phases) (record { num = r.scale_cap; den = r.scale_load })
has-fill net limits phases r n h = subst (HasFill net (all_turns phases)) (sym h.scale) (rounds-fill net limits phases n h.rounds h.some)

rows-are : (net : Network) (limits : List (Option ℕ)) (phases : List (List Row)) (r : Routing) → HasRows net limits phases r → All (IsGoodRow net limits) r.paths
rows-are net limits phases r h = good-rows net limits (all_turns phases) r.paths (rounds-good net limits phases h.rounds) h.tally

carries : (net : Network) (limits : List (Option ℕ)) (phases : List (List Row)) (r : Routing) → HasRows net limits phases r → PhasesAreCarried net r
carries net limits phases r h k commodity at =
    let inside = slice_get_within net.commodities k commodity at in
    let amount : (get_or net.commodities k no_commodity).amount ≡ commodity.amount = ap (λ (x : Commodity). x.amount) (get_or_from_slice_get net.commodities k commodity no_commodity at) in
    same_carried (all_turns phases) r.paths (collected (all_turns phases) r.paths h.tally) k ∙ rounds-carried net limits phases k h.rounds inside
    ∙ ap (λ (m : ℕ). m * (get_or net.commodities k no_commodity).amount) (sym h.phases_are) ∙ ap (λ (m : ℕ). r.phases * m) amount

loads-fit : (net : Network) (limits : List (Option ℕ)) (phases : List (List Row)) (r : Routing) → IsNetwork net → HasRows net limits phases r → LoadsFit net r
loads-fit net limits phases r n h c cell at =
    subst (λ (m : ℕ). m * r.scale_cap ≤ r.scale_load * cell.cap) (sym (same_loads (all_turns phases) r.paths (collected (all_turns phases) r.paths h.tally) c)) ((has-fill net limits phases r n h).fits c cell at)

pub total-within : (net : Network) (m : ℕ) → IsNetwork net → m ≤ MAX_PHASES → m * amount_of net.commodities ≤ MAX_LENGTH
total-within net m n few = let product : m * amount_of net.commodities ≤ MAX_PHASES * MAX_TOTAL = mul-le-mul few n.total in omega (arith, product)

routing-fits : (net : Network) (limits : List (Option ℕ)) (phases : List (List Row)) (r : Routing) → IsNetwork net → HasRows net limits phases r → IsRoutingOf net r
routing-fits net limits phases r n h =
    let f = has-fill net limits phases r n h in
    record {
      phases = omega (arith, h.phases_are, h.few);
      scale_cap = f.cap;
      scale_load = omega (arith, f.load, rounds-weight net limits phases h.rounds, total-within net (length phases) n h.few);
      rows = λ i d l. (rows-are net limits phases r h i d l).fits;
    }

-- ---- what makes a certificate

-- a routing that fits, a dual that shows its bound, and the right verdict
record Makes (net : Network) (limits : List (Option ℕ)) (h : HopProof) : Type 0 where
  walks : PathsAreWalks net h.proof.routing
  within : AreWithin limits h.proof.routing.paths
  carried_are : PhasesAreCarried net h.proof.routing
  loads : LoadsFit net h.proof.routing
  scale : ScaleDivides h.proof.routing
  limits_are : IsRoutingOf net h.proof.routing
  lengths : List ℕ
  shows : ShowsHops net limits lengths (dual_of h)
  closed : IsTrue h.proof.closed ↔ IsWithinGap (lower_of h.proof.routing) (hop_upper_of net limits (dual_of h)) h.proof.gap

makes-valid : (net : Network) (limits : List (Option ℕ)) (h : HopProof) → Makes net limits h → HopFractionsArePrinted net limits h → IsValidHops net limits h
makes-valid net limits h m printed =
    let s = m.shows in
    let divides : (hop_upper_of net limits (dual_of h)).den ≢ 0 = λ e. absurd (omega (arith, s.positive, e)) in (
      record { walks = m.walks; within = m.within },
      (
        m.carried_are,
        (
          m.loads,
          (
            m.scale,
            (
              s.cells,
              (
                record { potentials = s.asked; layers = s.asked_layers },
                (
                  record { potentials = s.potentials; layers = s.layers },
                  (
                    divides,
                    (
                      printed,
                      (m.closed, tt),
                    ),
                  ),
                ),
              ),
            ),
          ),
        ),
      ),
    )

makes-fits : (net : Network) (limits : List (Option ℕ)) (o : RunOptions) (h : HopProof) → AreRunOptions (length net.commodities) o → h.proof.gap ≡ o.gap → Makes net limits h → h.proof.lower.micro < 1000000 → h.proof.upper.micro < 1000000 → IsHopProofOf net h
makes-fits net limits o h options gap m low high = record {
  proof = record {
    routing = m.limits_are;
    gap = omega (arith, gap, options.gap);
    lower_micro = low;
    upper_micro = high;
    lengths = m.shows.numbers;
    potentials = m.shows.rows;
  };
  layers = m.shows.layer_rows;
}

-- ---- phases

pub all-after : (phases : List (List Row)) → turns_after phases (length phases) ≡ all_turns phases
all-after phases = ap (λ (ps : List (List Row)). all_turns ps) (take-length phases)

run-rounds : (net : Network) (limits : List (Option ℕ)) (o : RunOptions) (h : HopProof) → IsNetwork net → AreLimits net limits → (r : IsHopPhasedRun net limits o h) → All (IsRound net limits) r.phases
run-rounds net limits o h n are r = All-from_get_or (IsRound net limits) r.phases [] (λ p l. round-of net limits _ (turns_after r.phases p) (get_or r.phases p []) n are (r.each p l).phase)

run-rows : (net : Network) (limits : List (Option ℕ)) (o : RunOptions) (h : HopProof) → IsNetwork net → AreLimits net limits → AreRunOptions (length net.commodities) o → (r : IsHopPhasedRun net limits o h) → HasRows net limits r.phases h.proof.routing
run-rows net limits o h n are options r =
    let all = all-after r.phases in
    let cap = r.proof.scale_cap in
    let load = r.proof.scale_load in
    let scale : record { num = h.proof.routing.scale_cap; den = h.proof.routing.scale_load } ≡ fill_after net r.phases (length r.phases) = λ i. record { num = cap i; den = load i } in
    record {
      rounds = run-rounds net limits o h n are r;
      some = r.some;
      few = omega (arith, r.budget, options.phases);
      phases_are = r.proof.phases_are;
      scale = scale ∙ ap (λ (turns : List Row). fill net.cells (loads_of net turns)) all;
      tally = subst (λ (turns : List Row). IsTally turns h.proof.routing.paths) all r.proof.paths;
    }

-- the kept dual is one of them
least-in : (net : Network) (limits : List (Option ℕ)) (duals : List HopDual) → 1 ≤ length duals → (p : ℕ) × (p < length duals) × (least_by (hop_upper_of net limits) no_hop_dual duals ≡ get_or duals p no_hop_dual)
least-in net limits [] l = absurd (omega arith)
least-in net limits (d ∷ []) l = (0, omega arith, refl)
least-in net limits (d ∷ e ∷ ds) l = go (fraction_le (hop_upper_of net limits d) (hop_upper_of net limits (least_by (hop_upper_of net limits) no_hop_dual (e ∷ ds)))) (least-in net limits (e ∷ ds) (omega arith))
  where
    go : (b : Bool) → (p : ℕ) × (p < length (e ∷ ds)) × (least_by (hop_upper_of net limits) no_hop_dual (e ∷ ds) ≡ get_or (e ∷ ds) p no_hop_dual)
        → (p : ℕ) × (p < length (d ∷ e ∷ ds)) × (cond b d (least_by (hop_upper_of net limits) no_hop_dual (e ∷ ds)) ≡ get_or (d ∷ e ∷ ds) p no_hop_dual)
    go true r = (0, omega arith, refl)
    go false r = (suc r.0, omega (arith, r.1), r.2)

run-shows : (net : Network) (limits : List (Option ℕ)) (o : RunOptions) (h : HopProof) → IsNetwork net → AreLimits net limits → (r : IsHopPhasedRun net limits o h) → (lengths : List ℕ) × ShowsHops net limits lengths (dual_of h)
run-shows net limits o h n are r =
    let all : take (length r.phases) r.bounds ≡ r.bounds = take_all (length r.phases) r.bounds (omega (arith, r.count)) in
    let kept = least-in net limits r.bounds (omega (arith, r.count, r.some)) in
    let is : dual_of h ≡ get_or r.bounds kept.0 no_hop_dual = r.proof.dual ∙ ap (least_by (hop_upper_of net limits) no_hop_dual) all ∙ kept.2 in
    let p = kept.0 in
    let setting = later_setting o.step (fill_after net r.phases 1) in
    let turns = turns_after r.phases (p + 1) in
    let lengths = lengths_of net setting (loads_of net turns) in
    let far = empty-far setting (greatest_exponent setting net.cells (loads_of net turns)) (least_capacity net.cells) net.cells (loads_of net turns) (loads-length net turns) in
    let next = r.each p (omega (arith, r.count, kept.1)) in
    (lengths, subst (ShowsHops net limits lengths) (sym is) (bound-shows net limits lengths (get_or r.bounds p no_hop_dual) n are (lengths-are net setting turns) far next.bound))

run-closed : (net : Network) (limits : List (Option ℕ)) (o : RunOptions) (h : HopProof) → (r : IsHopPhasedRun net limits o h) → IsTrue h.proof.closed ↔ IsWithinGap (lower_of h.proof.routing) (hop_upper_of net limits (dual_of h)) h.proof.gap
run-closed net limits o h r =
    let count = r.proof.phases_are in
    let cap = r.proof.scale_cap in
    let load = r.proof.scale_load in
    let lower : lower_after net r.phases (length r.phases) ≡ lower_of h.proof.routing = λ i. record { num = sym count i * sym cap i; den = sym load i } in
    subst (λ (g : ℕ). IsTrue h.proof.closed ↔ IsWithinGap (lower_of h.proof.routing) (hop_upper_of net limits (dual_of h)) g) (sym r.proof.gap)
    (subst (λ (x : Fraction). IsTrue h.proof.closed ↔ IsWithinGap x (hop_upper_of net limits (dual_of h)) o.gap) lower
    (subst (λ (d : HopDual). IsTrue h.proof.closed ↔ IsWithinGap (lower_after net r.phases (length r.phases)) (hop_upper_of net limits d) o.gap) (sym r.proof.dual) r.closed))

phased-makes : (net : Network) (limits : List (Option ℕ)) (o : RunOptions) (h : HopProof) → IsNetwork net → AreLimits net limits → AreRunOptions (length net.commodities) o → IsHopPhasedRun net limits o h → Makes net limits h
phased-makes net limits o h n are options r =
    let rows = run-rows net limits o h n are options r in
    let good = rows-are net limits r.phases h.proof.routing rows in
    let s = run-shows net limits o h n are r in
    record {
      walks = λ i d l. (good i d l).joins;
      within = λ i d l. (good i d l).within;
      carried_are = carries net limits r.phases h.proof.routing rows;
      loads = loads-fit net limits r.phases h.proof.routing n rows;
      scale = λ e. absurd (omega (arith, e, (has-fill net limits r.phases h.proof.routing n rows).some));
      limits_are = routing-fits net limits r.phases h.proof.routing n rows;
      lengths = s.0;
      shows = s.1;
      closed = run-closed net limits o h r;
    }

-- ---- without phases

no_routing : Routing
no_routing = record { phases = 0; scale_cap = 0; scale_load = 1; paths = [] }

record IsNone (net : Network) (limits : List (Option ℕ)) (r : Routing) : Type 0 where
  walks : PathsAreWalks net r
  within : AreWithin limits r.paths
  carried_are : PhasesAreCarried net r
  loads : LoadsFit net r
  scale : ScaleDivides r
  limits_are : IsRoutingOf net r

none-is : (net : Network) (limits : List (Option ℕ)) → IsNone net limits no_routing
unfolding no_routing
none-is net limits = record {
  walks = All-nil (Joins net);
  within = λ k d l. absurd (omega arith);
  carried_are = λ k commodity at. omega arith;
  loads = λ c cell at. omega arith;
  scale = λ e. absurd (omega arith);
  limits_are = record { phases = omega arith; scale_cap = omega arith; scale_load = omega arith; rows = All-nil (IsRowOf net) };
}

cut-routing : (net : Network) (limits : List (Option ℕ)) (o : RunOptions) (h : HopProof) → IsHopCutProof net limits o h → no_routing ≡ h.proof.routing
unfolding no_routing
cut-routing net limits o h c =
    let phases = c.phases in
    let cap = c.scale_cap in
    let load = c.scale_load in
    let paths = c.paths in
    λ i. record { phases = sym phases i; scale_cap = sym cap i; scale_load = sym load i; paths = sym paths i }

cut-makes : (net : Network) (limits : List (Option ℕ)) (o : RunOptions) (h : HopProof) → IsNetwork net → AreLimits net limits → HasHopCut net limits → IsHopCutProof net limits o h → Makes net limits h
cut-makes net limits o h n are cut c =
    let shows = cut-shows net limits (dual_of h) n are cut c.dual in
    let m = subst (IsNone net limits) (cut-routing net limits o h c) (none-is net limits) in
    let upper = hop_upper_of net limits (dual_of h) in
    let none : upper.num ≡ 0 = ap (volume net.cells) shows.lengths_are ∙ cut-volume net.cells in
    let product : upper.num * (lower_of h.proof.routing).den * 1000000 ≡ 0 * (lower_of h.proof.routing).den * 1000000 = ap (λ (k : ℕ). k * (lower_of h.proof.routing).den * 1000000) none in
    record {
      walks = m.walks;
      within = m.within;
      carried_are = m.carried_are;
      loads = m.loads;
      scale = m.scale;
      limits_are = m.limits_are;
      lengths = cut_lengths net.cells;
      shows = shows;
      closed = ((λ _. omega arith), (λ _. c.closed));
    }

-- ---- runs

run-makes : (net : Network) (limits : List (Option ℕ)) (o : RunOptions) (h : HopProof) → IsNetwork net → AreLimits net limits → AreRunOptions (length net.commodities) o → IsHopRun net limits o h → Makes net limits h
run-makes net limits o h n are options run = go run.run
  where
    go : (HasHopCut net limits × IsHopCutProof net limits o h) ⊎ (HasNoHopCut net limits × IsHopPhasedRun net limits o h) → Makes net limits h
    go (inl c) = cut-makes net limits o h n are c.0 c.1
    go (inr r) = phased-makes net limits o h n are options r.1

pub run-valid : (net : Network) (limits : List (Option ℕ)) (o : RunOptions) (h : HopProof) → IsNetwork net → AreLimits net limits → AreRunOptions (length net.commodities) o → IsHopRun net limits o h → IsValidHops net limits h
run-valid net limits o h n are options run = makes-valid net limits h (run-makes net limits o h n are options run) run.printed

run-gap : (net : Network) (limits : List (Option ℕ)) (o : RunOptions) (h : HopProof) → IsHopRun net limits o h → h.proof.gap ≡ o.gap
run-gap net limits o h run = go run.run
  where
    go : (HasHopCut net limits × IsHopCutProof net limits o h) ⊎ (HasNoHopCut net limits × IsHopPhasedRun net limits o h) → h.proof.gap ≡ o.gap
    go (inl c) = c.1.gap
    go (inr r) = r.1.proof.gap

pub run-fits : (net : Network) (limits : List (Option ℕ)) (o : RunOptions) (h : HopProof) → IsNetwork net → AreLimits net limits → AreRunOptions (length net.commodities) o → IsHopRun net limits o h → h.proof.lower.micro < 1000000 → h.proof.upper.micro < 1000000 → IsHopProofOf net h
run-fits net limits o h n are options run low high = makes-fits net limits o h options (run-gap net limits o h run) (run-makes net limits o h n are options run) low high
