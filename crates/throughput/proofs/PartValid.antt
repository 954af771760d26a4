-- The proof of a run is valid.
use Rattle.std.proofs.Common.{◌≡◌, ◌≢◌, ◌⊎◌, ℕ, zero, suc, ◌+◌, ◌*◌, ◌<◌, ◌≤◌, List, [], ◌∷◌, ◌++◌, length, get_or, take, Some, refl, sym, ap, ◌∙◌, subst, arith, inl, inr}
use Rattle.std.specs.Prelude.{All, IsTrue, ◌↔◌, slice_get}
use Rattle.std.proofs.Math.Seq.{take-length}
use Rattle.std.proofs.lemmas.Bool.{cases_lt}
use Rattle.std.proofs.lemmas.List.{length-append}
use Rattle.std.proofs.lemmas.List.Elements.{All-append, All-nil, All-weaker, All-from_get_or}
use Rattle.std.proofs.lemmas.Option.{slice_get_within, slice_get-get_or, get_or_from_slice_get}
use Rattle.mcf_limits.specs.declared.TheConstants.{MAX_LENGTH, MAX_PHASES, MAX_UNITS}
use Rattle.flow_model.specs.declared.net.Cell.{Cell}
use Rattle.flow_model.specs.declared.net.Commodity.{Commodity}
use Rattle.flow_model.specs.Network.{Network, IsNetwork}
use Rattle.flow_model.specs.Routing.{Row, carried, load_of, Joins}
use Rattle.flow_model.specs.Walk.{PositiveWalk}
use Rattle.flow_model.specs.Least.{IsCutOff}
use Rattle.flow_model.proofs.Duality.{no_commodity}
use Rattle.gap_fraction.specs.Fraction.{Fraction, IsWithinGap}
use Rattle.flow_paths.specs.Certificate.{LoadsFit, IsRowOf}
use Rattle.flow_paths.specs.Least.{least_by, IsFirstLeast}
use Rattle.flow_paths.proofs.FillLimits.{fill-positive, fill-cap}
use Rattle.flow_paths.proofs.Least.{least-first, least-one}
use Rattle.flow_paths.proofs.NoneFuller.{IsFullest, fullest}
use Rattle.route_tally.specs.declared.options.RunOptions.{RunOptions}
use Rattle.route_tally.specs.Asked.{AreRunOptions, later_setting, setting_after}
use Rattle.route_tally.proofs.TurnSums.{collected, same_carried, same_loads, same_total}
use Rattle.throughput.specs.declared.part_proof.PartDual.{PartDual}
use Rattle.throughput.specs.declared.part_proof.PartProof.{PartProof}
use Rattle.throughput.specs.Partial.{total_of, part_lower_of, part_upper_of}
use Rattle.throughput.specs.Conditions.{AmountsFit, PartFractionsArePrinted, IsValidPart, IsPartProofOf}
use Rattle.gates.specs.Gates.{gate, AreGates, gated_loads}
use Rattle.throughput.specs.Run.{HasNoWalk, HasSomeWalk, IsNothingProof, IsPartPhasedRun, IsThroughputRun, no_part_dual, part_fill_after, part_kept_after, part_lower_after, turns_after}
use Rattle.throughput.proofs.FirstPhase.{first-loads, loads-long}
use Rattle.throughput.proofs.Measuring.{IsSound, part-sound, back-at, front-at, named}
use Rattle.throughput.proofs.Turning.{walk-inside}
use Rattle.throughput.proofs.PartNexts.{turns-all}
use Rattle.throughput.proofs.PartRows.{IsRoute, all-routes, tally-routes, route-joins, carried-route, cell-at, gate-at}
use Rattle.throughput.proofs.PartNothing.{nothing-shows, nothing-bounds}

-- what the ten conditions come from
record Makes (net : Network) (p : PartProof) : Type 0 where
  routes : All (IsRoute net) p.routing.paths
  amounts : AmountsFit net p.routing
  loads : LoadsFit net p.routing
  scale : 1 ≤ p.routing.scale_load
  cap : p.routing.scale_cap ≤ MAX_UNITS
  sound : IsSound net p.bound
  closed : IsTrue p.closed ↔ IsWithinGap (part_lower_of p.routing) (part_upper_of net p.bound) p.gap

nonzero : (n : ℕ) → 1 ≤ n → n ≢ 0
nonzero n h e = absurd (omega arith)

makes-valid : (net : Network) (p : PartProof) → Makes net p → PartFractionsArePrinted net p → IsValidPart net p
makes-valid net p m printed =
    let paths = All-weaker (IsRoute net) (Joins net) (route-joins net) p.routing.paths m.routes in
    let scale = nonzero p.routing.scale_load m.scale in
    let threshold = nonzero p.bound.threshold m.sound.positive in
    let shows = m.sound.shows in
    (paths, (m.amounts, (m.loads, (scale, (shows.cells, (shows.sources, (shows.potentials, (threshold, (printed, (m.closed, tt))))))))))

-- ---- phases

gates-small : (net : Network) (gates : List Cell) → IsNetwork net → AreGates net gates → All (λ (x : Cell). x.cap ≤ MAX_UNITS) gates
gates-small net gates n are j d l = elim (cases_lt MAX_UNITS (get_or gates j d).cap) [
  | inl big ↦
      let count = are.count in
      let k = get_or net.commodities j no_commodity in
      let at : slice_get net.commodities j ≡ Some k = slice_get-get_or net.commodities j no_commodity (omega arith) in
      let fits = (named net j k n at).amount in
      let none : IsCutOff net.cells k.from k.to = λ walk w. (
      let cap : (get_or gates j d).cap ≡ k.amount = ap (λ (x : Cell). x.cap) (get_or_from_slice_get gates j (gate k k.amount) d (are.joined j k at (walk, w))) in
      absurd (omega arith)
      ) in
      let shut : (get_or gates j d).cap ≡ 0 = ap (λ (x : Cell). x.cap) (get_or_from_slice_get gates j (gate k 0) d (are.cut_off j k at none)) in
      absurd (omega arith)
  | inr small ↦ small
]

of-some : {net : Network} (bounds : List PartDual) → 1 ≤ length bounds → All (IsSound net) bounds → IsSound net (least_by (part_upper_of net) no_part_dual bounds)
of-some [] l h = absurd (omega arith)
of-some {net = net} (b ∷ bounds) l h = least-one (part_upper_of net) no_part_dual (IsSound net) b bounds h

module _ (net : Network) (o : RunOptions) (p : PartProof) (n : IsNetwork net) (r : IsPartPhasedRun net o p) where
  rows : List Row
  rows = turns_after r.phases (length r.phases)

  f : Fraction
  f = part_fill_after net r.gates r.phases (length r.phases)

  routes : All (IsRoute net) rows
  unfolding rows
  routes = subst (λ (rs : List Row). All (IsRoute net) rs) (sym (turns-all r.phases))
      (all-routes net r.gates r.phases (λ i. setting_after o.step (part_fill_after net r.gates r.phases 1) i) n r.are_gates (λ i l. (r.each i l).phase))

  full : IsFullest (net.cells ++ r.gates) (gated_loads net rows) f
  unfolding rows f
  full = fullest (net.cells ++ r.gates) (gated_loads net rows) (loads-long net rows ∙ (let count = r.are_gates.count in omega (arith, length-append net.cells r.gates)))

  amounts-within : (k : ℕ) (commodity : Commodity) → slice_get net.commodities k ≡ Some commodity → carried rows k * f.num ≤ f.den * commodity.amount
  amounts-within k commodity at = by_carried (carried rows k) refl
    where
      by_carried : (c : ℕ) → carried rows k ≡ c → carried rows k * f.num ≤ f.den * commodity.amount
      by_carried zero e = let none : carried rows k * f.num ≡ 0 * f.num = ap (λ (m : ℕ). m * f.num) e in omega arith
      by_carried (suc c) e =
          let route = carried-route net rows k routes (omega arith) in
          let is = route.1 in
          let inside = slice_get_within net.commodities k commodity at in
          let there : slice_get net.commodities k ≡ Some is.commodity = subst (λ (i : ℕ). slice_get net.commodities i ≡ Some is.commodity) route.2 is.at in
          let same : is.commodity ≡ commodity = sym (get_or_from_slice_get net.commodities k is.commodity commodity there) ∙ get_or_from_slice_get net.commodities k commodity commodity at in
          let walk : PositiveWalk net.cells commodity.from commodity.to route.0.walk = subst (λ (x : Commodity). PositiveWalk net.cells x.from x.to route.0.walk) same is.walks in
          let gate_is = back-at net.cells r.gates k (gate commodity commodity.amount) (r.are_gates.joined k commodity at (route.0.walk, walk)) in
          let fits = full.fits (length net.cells + k) (gate commodity commodity.amount) gate_is in
          subst (λ (m : ℕ). m * f.num ≤ f.den * commodity.amount) (gate-at net rows k inside) fits

  loads-within : (c : ℕ) (cell : Cell) → slice_get net.cells c ≡ Some cell → load_of rows c * f.num ≤ f.den * cell.cap
  loads-within c cell at = subst (λ (m : ℕ). m * f.num ≤ f.den * cell.cap) (cell-at net rows c (slice_get_within net.cells c cell at)) (full.fits c cell (front-at net.cells r.gates c cell at))

  den-positive : 1 ≤ f.den
  unfolding rows f
  den-positive =
      let some = r.some in
      let c = first-loads net r.gates o.step (length r.phases) r.phases n some (r.each 0 some).phase some in
      let at = gate-at net rows c.0 c.1 in
      let count = r.are_gates.count in
      let long = length-append net.cells r.gates in
      fill-positive (net.cells ++ r.gates) (gated_loads net rows) (length net.cells + c.0) (loads-long net rows ∙ omega arith) (omega (arith, c.1)) (omega (arith, at, c.2))

  num-small : f.num ≤ MAX_UNITS
  unfolding rows f
  num-small = fill-cap MAX_UNITS (net.cells ++ r.gates) (gated_loads net rows) (omega arith)
      (All-append (λ (x : Cell). x.cap ≤ MAX_UNITS) net.cells r.gates (λ j d l. (n.cells j d l).cap) (gates-small net r.gates n r.are_gates))

  all-sound : All (IsSound net) r.bounds
  all-sound = All-from_get_or (IsSound net) r.bounds no_part_dual (λ i l. (
      let count = r.count in
      let next = r.each i (omega arith) in
      let behind = turns_after r.phases (i + 1) in
      let gates = r.are_gates.count in
      part-sound net r.gates (later_setting o.step (part_fill_after net r.gates r.phases 1)) (gated_loads net behind) (get_or r.bounds i no_part_dual) n r.are_gates (loads-long net behind ∙ omega arith) next.bound
      ))

  kept-sound : IsSound net p.bound
  kept-sound =
      let count = r.count in
      let whole : take (length r.phases) r.bounds ≡ r.bounds = ap (λ (m : ℕ). take m r.bounds) (sym count) ∙ take-length r.bounds in
      subst (IsSound net) (sym r.proof.bound) (subst (λ (bs : List PartDual). IsSound net (least_by (part_upper_of net) no_part_dual bs)) (sym whole) (of-some r.bounds (let some = r.some in omega arith) all-sound))

  -- the kept bound is the first of the least
  pub kept-first : IsFirstLeast (part_upper_of net) r.bounds p.bound
  kept-first =
      let count = r.count in
      let whole : take (length r.phases) r.bounds ≡ r.bounds = ap (λ (m : ℕ). take m r.bounds) (sym count) ∙ take-length r.bounds in
      let divide = All-weaker (IsSound net) (λ (b : PartDual). 1 ≤ (part_upper_of net b).den) (λ b s. s.positive) r.bounds all-sound in
      subst (λ (b : PartDual). IsFirstLeast (part_upper_of net) r.bounds b) (sym (r.proof.bound ∙ ap (least_by (part_upper_of net) no_part_dual) whole))
      (least-first (part_upper_of net) no_part_dual r.bounds (let some = r.some in omega arith) divide)

  lower-is : part_lower_after net r.gates r.phases (length r.phases) ≡ part_lower_of p.routing
  unfolding rows f
  lower-is =
      let total : total_of rows ≡ total_of p.routing.paths = sym (same_total rows p.routing.paths (collected rows p.routing.paths r.proof.paths)) in
      ap (λ (t : ℕ). record { num = t * f.num; den = f.den }) total
      ∙ (ap (λ (c : ℕ). record { num = total_of p.routing.paths * c; den = f.den }) (sym r.proof.scale_cap) ∙ ap (λ (l : ℕ). record { num = total_of p.routing.paths * p.routing.scale_cap; den = l }) (sym r.proof.scale_load))

  phased-makes : Makes net p
  unfolding rows f
  phased-makes =
      let from = collected rows p.routing.paths r.proof.paths in
      let cap = r.proof.scale_cap in
      let load = r.proof.scale_load in
      record {
        routes = tally-routes net rows p.routing.paths routes r.proof.paths;
        amounts = λ k commodity at.
            subst (λ (m : ℕ). m * p.routing.scale_cap ≤ p.routing.scale_load * commodity.amount) (sym (same_carried rows p.routing.paths from k))
            (subst (λ (c : ℕ). carried rows k * c ≤ p.routing.scale_load * commodity.amount) (sym cap) (subst (λ (l : ℕ). carried rows k * f.num ≤ l * commodity.amount) (sym load) (amounts-within k commodity at)));
        loads = λ c cell at.
            subst (λ (m : ℕ). m * p.routing.scale_cap ≤ p.routing.scale_load * cell.cap) (sym (same_loads rows p.routing.paths from c))
            (subst (λ (x : ℕ). load_of rows c * x ≤ p.routing.scale_load * cell.cap) (sym cap) (subst (λ (l : ℕ). load_of rows c * f.num ≤ l * cell.cap) (sym load) (loads-within c cell at)));
        scale = subst (λ (l : ℕ). 1 ≤ l) (sym load) den-positive;
        cap = subst (λ (c : ℕ). c ≤ MAX_UNITS) (sym cap) num-small;
        sound = kept-sound;
        closed = subst (λ (g : ℕ). IsTrue p.closed ↔ IsWithinGap (part_lower_of p.routing) (part_upper_of net p.bound) g) (sym r.proof.gap)
            (subst (λ (b : PartDual). IsTrue p.closed ↔ IsWithinGap (part_lower_of p.routing) (part_upper_of net b) o.gap) (sym r.proof.bound)
            (subst (λ (x : Fraction). IsTrue p.closed ↔ IsWithinGap x (part_upper_of net (part_kept_after net r.bounds (length r.phases))) o.gap) lower-is r.closed));
      }

-- ---- nothing

nothing-makes : (net : Network) (o : RunOptions) (p : PartProof) → IsNetwork net → HasNoWalk net → IsNothingProof net o p → Makes net p
nothing-makes net o p n none is =
    let zero_num = nothing-bounds net p.bound n none is.threshold is.dual in
    let one = is.threshold in
    let load = is.scale_load in
    let product : (part_upper_of net p.bound).num * (part_lower_of p.routing).den * 1000000 ≡ 0 * (part_lower_of p.routing).den * 1000000 = ap (λ (m : ℕ). m * (part_lower_of p.routing).den * 1000000) zero_num in
    record {
      routes = subst (λ (rs : List Row). All (IsRoute net) rs) (sym is.paths) (All-nil (IsRoute net));
      amounts = λ k commodity at. subst (λ (rs : List Row). carried rs k * p.routing.scale_cap ≤ p.routing.scale_load * commodity.amount) (sym is.paths) (omega arith);
      loads = λ c cell at. subst (λ (rs : List Row). load_of rs c * p.routing.scale_cap ≤ p.routing.scale_load * cell.cap) (sym is.paths) (omega arith);
      scale = omega arith;
      cap = let c = is.scale_cap in omega arith;
      sound = record { shows = nothing-shows net p.bound.dual n none is.dual; positive = omega arith; limit = omega arith };
      closed = ((λ _. omega arith), (λ _. is.closed));
    }

run-makes : (net : Network) (o : RunOptions) (p : PartProof) → IsNetwork net → IsThroughputRun net o p → Makes net p
run-makes net o p n is = either is.run
  where
    either : (HasNoWalk net × IsNothingProof net o p) ⊎ (HasSomeWalk net × IsPartPhasedRun net o p) → Makes net p
    either (inl x) = nothing-makes net o p n x.0 x.1
    either (inr x) = phased-makes net o p n x.1

-- a run's proof is valid
pub runs-are-valid : (net : Network) (o : RunOptions) (p : PartProof) → IsNetwork net → IsThroughputRun net o p → IsValidPart net p
runs-are-valid net o p n is = makes-valid net p (run-makes net o p n is) is.printed

-- and within the limits
row-fits : (net : Network) (row : Row) → IsNetwork net → IsRoute net row → IsRowOf net row
row-fits net row n is = record {
  commodity = slice_get_within net.commodities row.commodity is.commodity is.at;
  cells = walk-inside net.cells is.commodity.from is.commodity.to row.walk is.walks;
  short = let s = is.short in let m = n.nodes in omega arith;
}

phases-small : (net : Network) (o : RunOptions) (p : PartProof) → AreRunOptions (length net.commodities) o → IsThroughputRun net o p → p.routing.phases ≤ MAX_PHASES
phases-small net o p options is = either is.run
  where
    either : (HasNoWalk net × IsNothingProof net o p) ⊎ (HasSomeWalk net × IsPartPhasedRun net o p) → p.routing.phases ≤ MAX_PHASES
    either (inl x) = let e = x.1.phases in omega arith
    either (inr x) = let e = x.1.proof.phases_are in let b = x.1.budget in omega (arith, options.phases)

gap-same : (net : Network) (o : RunOptions) (p : PartProof) → IsThroughputRun net o p → p.gap ≡ o.gap
gap-same net o p is = either is.run
  where
    either : (HasNoWalk net × IsNothingProof net o p) ⊎ (HasSomeWalk net × IsPartPhasedRun net o p) → p.gap ≡ o.gap
    either (inl x) = x.1.gap
    either (inr x) = x.1.proof.gap

pub runs-fit : (net : Network) (o : RunOptions) (p : PartProof) → IsNetwork net → AreRunOptions (length net.commodities) o → IsThroughputRun net o p → p.routing.scale_load ≤ MAX_LENGTH
    → p.lower.micro < 1000000 → p.upper.micro < 1000000 → IsPartProofOf net p
runs-fit net o p n options is load low high =
    let m = run-makes net o p n is in
    record {
      routing = record {
        phases = phases-small net o p options is;
        scale_cap = m.cap;
        scale_load = load;
        rows = All-weaker (IsRoute net) (IsRowOf net) (λ row x. row-fits net row n x) p.routing.paths m.routes;
      };
      gap = omega (arith, gap-same net o p is, options.gap);
      lower_micro = low;
      upper_micro = high;
      threshold = m.sound.limit;
      lengths = m.sound.shows.numbers;
      potentials = m.sound.shows.rows;
    }
