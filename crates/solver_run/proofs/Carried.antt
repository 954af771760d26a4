-- The routing of a run: walks that carry every phase, scaled by the fullest cell.
use Rattle.std.proofs.Common.{◌≡◌, ◌↔◌, ℕ, ◌*◌, ◌<◌, ◌≤◌, List, [], Some, length, get_or, map, take, flat_map, sym, ap, subst, ◌∙◌, arith}
use Rattle.std.specs.Prelude.{slice_get, IsTrue}
use Rattle.std.specs.List.{sum_by, range_with_len}
use Rattle.std.proofs.Math.Nat.{mul-le-mul}
use Rattle.std.proofs.lemmas.List.{get_or-map, length-map, take_all}
use Rattle.std.proofs.lemmas.List.FromFn.{length-map-range_with_len, get_or-map-range_with_len}
use Rattle.std.proofs.lemmas.List.Elements.{All-from_get_or}
use Rattle.std.proofs.lemmas.Option.{slice_get-get_or, get_or_from_slice_get, slice_get_within}
use Rattle.mcf_limits.specs.declared.TheConstants.{MAX_PHASES, MAX_TOTAL}
use Rattle.flow_model.specs.declared.net.Cell.{Cell}
use Rattle.flow_model.specs.declared.net.Commodity.{Commodity}
use Rattle.flow_model.specs.Network.{Network, IsNetwork, IsCell}
use Rattle.flow_model.specs.Routing.{Row, Joins, load_of}
use Rattle.flow_model.proofs.Duality.{no_cell, no_commodity}
use Rattle.gap_fraction.specs.Fraction.{Fraction, IsWithinGap}
use Rattle.flow_paths.specs.DualRows.{DualRows}
use Rattle.flow_paths.specs.PathRows.{row_at, no_row}
use Rattle.flow_paths.specs.Evaluation.{fill, loads_of}
use Rattle.flow_paths.specs.Certificate.{PathsAreWalks, PhasesAreCarried, LoadsFit, ScaleDivides, IsValidRouting, IsRoutingOf, IsRowOf, lower_of, upper_of}
use Rattle.flow_paths.proofs.NoneFuller.{IsFullest, fullest}
use Rattle.flow_core.specs.Phase.{Routed, amounts_along}
use Rattle.solver_run.specs.declared.options.SolveOptions.{SolveOptions}
use Rattle.solver_run.specs.Options.{AreOptions}
use Rattle.solver_run.specs.Paths.{HavePaths, IsPathOf}
use Rattle.solver_run.specs.History.{SolvedView, routed_in, phases_of, loads_after, lower_after}
use Rattle.solver_run.specs.Run.{IsPhasedRun, least_dual}
use Rattle.solver_run.specs.Headline.{IsTight}
use Rattle.solver_run.proofs.Paths.{phase-paths}
use Rattle.solver_run.proofs.Rows.{PhasesHavePaths, amount_at, path-inside, rows-paths, rows-carry, rows-load}
use Rattle.solver_run.proofs.Weights.{load-limit, some-load}

phases-long : (s : SolvedView) → length (phases_of s) ≡ length s.history
phases-long s = length-map s.history (routed_in s.proof.routing.paths)

-- the paths of each phase
pub run-paths : (net : Network) (o : SolveOptions) (s : SolvedView) → IsNetwork net → IsPhasedRun net o s → PhasesHavePaths net s.proof.routing.paths s.history
run-paths net o s n r = λ p l.
    let next = r.phases.each p (omega (arith, phases-long s)) in
    subst (HavePaths net) (get_or-map (routed_in s.proof.routing.paths) s.history p [] [] l) (phase-paths net _ _ _ _ n next.phase)

pub row-path : (net : Network) (o : SolveOptions) (s : SolvedView) → IsNetwork net → IsPhasedRun net o s → (i : ℕ) → i < length s.proof.routing.paths
    → IsPathOf net (row_at s.proof.routing.paths i).commodity (row_at s.proof.routing.paths i).walk
row-path net o s n r = rows-paths net s.history s.proof.routing.paths r.rows (run-paths net o s n r)

-- the loads of the rows are those of the phases
pub run-loads : (net : Network) (o : SolveOptions) (s : SolvedView) → IsNetwork net → IsPhasedRun net o s → loads_of net s.proof.routing.paths ≡ loads_after net (phases_of s) (length (phases_of s))
run-loads net o s n r =
    let rows = s.proof.routing.paths in
    ap (λ (f : ℕ → ℕ). map f (range_with_len 0 (length net.cells))) (λ i c. rows-load net s.history rows c r.rows (run-paths net o s n r) i)
    ∙ ap (λ (ps : List (List Routed)). loads_of net (flat_map (amounts_along 0 net.commodities) ps)) (sym (take_all (length (phases_of s)) (phases_of s) (omega arith)))

load-at : (net : Network) (rows : List Row) (c : ℕ) → c < length net.cells → get_or (loads_of net rows) c 0 ≡ load_of rows c
load-at net rows c l = get_or-map-range_with_len (load_of rows) 0 (length net.cells) c c 0 l (omega arith)

abbrev scale_of : SolvedView → Fraction
scale_of s = record { num = s.proof.routing.scale_cap; den = s.proof.routing.scale_load }

-- the scale is that of the fullest cell
run-full : (net : Network) (o : SolveOptions) (s : SolvedView) → IsNetwork net → IsPhasedRun net o s → IsFullest net.cells (loads_of net s.proof.routing.paths) (scale_of s)
run-full net o s n r =
    let rows = s.proof.routing.paths in
    let cap = r.proof.scale_cap in
    let load = r.proof.scale_load in
    let full = fullest net.cells (loads_of net rows) (length-map-range_with_len (load_of rows) 0 (length net.cells)) in
    let is : fill net.cells (loads_of net rows) ≡ scale_of s = ap (fill net.cells) (run-loads net o s n r) ∙ (λ i. record { num = sym cap i; den = sym load i }) in
    subst (IsFullest net.cells (loads_of net rows)) is full

pub run-walks : (net : Network) (o : SolveOptions) (s : SolvedView) → IsNetwork net → IsPhasedRun net o s → PathsAreWalks net s.proof.routing
run-walks net o s n r = All-from_get_or (Joins net) s.proof.routing.paths no_row (λ i l. let p = row-path net o s n r i l in (p.commodity, p.at, p.walks))

pub run-carries : (net : Network) (o : SolveOptions) (s : SolvedView) → IsNetwork net → IsPhasedRun net o s → PhasesAreCarried net s.proof.routing
run-carries net o s n r = λ k commodity at.
    let inside = slice_get_within net.commodities k commodity at in
    let amount : amount_at net k ≡ commodity.amount = ap (λ (x : Commodity). x.amount) (get_or_from_slice_get net.commodities k commodity no_commodity at) in
    let count : length s.history ≡ s.proof.routing.phases = sym (r.proof.phases_are ∙ phases-long s) in
    rows-carry net s.history s.proof.routing.paths k r.rows inside ∙ (ap (λ (m : ℕ). m * amount_at net k) count ∙ ap (λ (m : ℕ). s.proof.routing.phases * m) amount)

pub run-fits : (net : Network) (o : SolveOptions) (s : SolvedView) → IsNetwork net → IsPhasedRun net o s → LoadsFit net s.proof.routing
run-fits net o s n r = λ c cell at.
    let l = slice_get_within net.cells c cell at in
    subst (λ (m : ℕ). m * s.proof.routing.scale_cap ≤ s.proof.routing.scale_load * cell.cap) (load-at net s.proof.routing.paths c l) ((run-full net o s n r).fits c cell at)

pub run-divides : (net : Network) (o : SolveOptions) (s : SolvedView) → IsNetwork net → IsPhasedRun net o s → ScaleDivides s.proof.routing
run-divides net o s n r none =
    let routing = s.proof.routing in
    let some = some-load net s.history routing.paths n r.rows (run-paths net o s n r) r.some in
    let cell : Cell = get_or net.cells some.0 no_cell in
    let fits = run-fits net o s n r some.0 cell (slice_get-get_or net.cells some.0 no_cell some.1) in
    let one : load_of routing.paths some.0 * routing.scale_cap ≡ load_of routing.paths some.0 * 1 = ap (λ (m : ℕ). load_of routing.paths some.0 * m) ((run-full net o s n r).none none) in
    let zeroth : routing.scale_load * cell.cap ≡ 0 * cell.cap = ap (λ (m : ℕ). m * cell.cap) none in
    absurd (omega (arith, some.2))

-- the cell that is filled
filled : (net : Network) (o : SolveOptions) (s : SolvedView) → IsNetwork net → IsPhasedRun net o s
    → (c : ℕ) × (cell : Cell) × (slice_get net.cells c ≡ Some cell) × (1 ≤ load_of s.proof.routing.paths c) × (s.proof.routing.scale_cap ≡ cell.cap) × (s.proof.routing.scale_load ≡ load_of s.proof.routing.paths c)
filled net o s n r =
    let met = (run-full net o s n r).met (run-divides net o s n r) in
    let is = load-at net s.proof.routing.paths met.0 (slice_get_within net.cells met.0 met.1 met.2) in
    (met.0, met.1, met.2, omega (arith, met.3, is), met.4, met.5 ∙ is)

pub run-tight : (net : Network) (o : SolveOptions) (s : SolvedView) → IsNetwork net → IsPhasedRun net o s → IsTight net s.proof.routing
run-tight net o s n r = record {
  some = λ _.
      let f = filled net o s n r in
      (f.0, f.1, f.2, f.3, ap (λ (m : ℕ). load_of s.proof.routing.paths f.0 * m) f.4 ∙ ap (λ (m : ℕ). m * f.1.cap) (sym f.5));
}

pub run-valid : (net : Network) (o : SolveOptions) (s : SolvedView) → IsNetwork net → IsPhasedRun net o s → IsValidRouting net s.proof.routing
run-valid net o s n r = record { walks = run-walks net o s n r; carried = run-carries net o s n r; loads = run-fits net o s n r; scale = run-divides net o s n r }

-- the numbers are within the limits
pub run-limits : (net : Network) (o : SolveOptions) (s : SolvedView) → IsNetwork net → AreOptions net o → IsPhasedRun net o s → IsRoutingOf net s.proof.routing
run-limits net o s n options r =
    let routing = s.proof.routing in
    let f = filled net o s n r in
    let within = slice_get_within net.cells f.0 f.1 f.2 in
    let cell : IsCell net.nodes f.1 = subst (IsCell net.nodes) (get_or_from_slice_get net.cells f.0 f.1 no_cell f.2) (n.cells f.0 no_cell within) in
    let limit = load-limit net s.history routing.paths f.0 r.rows (run-paths net o s n r) in
    let few : length s.history ≤ MAX_PHASES = omega (arith, r.budget, options.phases) in
    let product : length s.history * sum_by (λ (k : Commodity). k.amount) net.commodities ≤ MAX_PHASES * MAX_TOTAL = mul-le-mul few n.total in
    record {
      phases = omega (arith, r.proof.phases_are, phases-long s);
      scale_cap = omega (arith, f.4, cell.cap);
      scale_load = omega (arith, f.5, limit, product);
      rows = All-from_get_or (IsRowOf net) routing.paths no_row (λ i l.
          let p = row-path net o s n r i l in
          record { commodity = path-inside net (row_at routing.paths i).commodity (row_at routing.paths i).walk p; cells = p.cells; short = omega (arith, p.few, n.nodes) });
    }

-- the verdict
pub run-closed : (net : Network) (o : SolveOptions) (s : SolvedView) → IsPhasedRun net o s → IsTrue s.proof.closed ↔ IsWithinGap (lower_of s.proof.routing) (upper_of net s.proof.dual) o.gap
run-closed net o s r =
    let phases = phases_of s in
    let count = r.proof.phases_are in
    let cap = r.proof.scale_cap in
    let load = r.proof.scale_load in
    let lower : lower_after net phases (length s.history) ≡ lower_of s.proof.routing = ap (lower_after net phases) (sym (phases-long s)) ∙ (λ i. record { num = sym count i * sym cap i; den = sym load i }) in
    let all : take (length s.history) r.duals ≡ r.duals = take_all (length s.history) r.duals (omega (arith, r.phases.count, phases-long s)) in
    let dual : least_dual net (take (length s.history) r.duals) ≡ s.proof.dual = ap (least_dual net) all ∙ sym r.proof.dual in
    subst (λ (x : Fraction). IsTrue s.proof.closed ↔ IsWithinGap x (upper_of net s.proof.dual) o.gap) lower
    (subst (λ (d : DualRows). IsTrue s.proof.closed ↔ IsWithinGap (lower_after net phases (length s.history)) (upper_of net d) o.gap) dual r.closed)
