-- What is solved for the greatest total fits a text.
use Rattle.std.proofs.Common.{◌≡◌, inl, inr, ℕ, zero, suc, ◌+◌, ◌*◌, ◌^◌, ◌<◌, ◌≤◌, Bool, true, false, cond, eqb, List, [], ◌∷◌, ◌++◌, Option, Some, None, length, take, get_or, ap, sym, subst, ◌∙◌, arith, length-append}
use Rattle.std.specs.Prelude.{All, map, slice_get}
use Rattle.std.specs.List.{range_with_len, sum_by}
use Rattle.std.proofs.Math.Nat.{mul-le-mul_right}
use Rattle.std.proofs.Math.Seq.{get_or-take}
use Rattle.std.proofs.lemmas.List.{take_all, length-take-le}
use Rattle.std.proofs.lemmas.List.FromFn.{length-map-range_with_len}
use Rattle.std.proofs.lemmas.List.Elements.{All-nil, All-cons, All-head, All-tail, All-map, All-same, All-from_get_or}
use Rattle.std.proofs.lemmas.Option.{slice_get_within}
use Rattle.mcf_limits.specs.declared.TheConstants.{MAX_LENGTH, MAX_PATH_CELLS, MAX_PHASES}
use Rattle.flow_model.specs.declared.net.Cell.{Cell}
use Rattle.flow_model.specs.declared.net.Commodity.{Commodity}
use Rattle.flow_model.specs.Network.{Network, IsNetwork}
use Rattle.flow_model.specs.Routing.{Row, carried}
use Rattle.flow_model.specs.Lengths.{AreLengths, greatest_exponent, lengths_of}
use Rattle.flow_model.specs.Walk.{PositiveWalk}
use Rattle.flow_model.specs.Least.{IsLeast, far_or}
use Rattle.flow_model.specs.Bound.{walk_length}
use Rattle.fixed_exp.proofs.Passes.{lengths-fit}
use Rattle.dijkstra_paths.proofs.Least.{length-first}
use Rattle.flow_paths.specs.DualRows.{Length, Potential, DualRows}
use Rattle.flow_paths.specs.Certificate.{IsRowOf, IsRoutingOf, IsPotentialOf}
use Rattle.flow_paths.specs.Evaluation.{loads_of}
use Rattle.flow_paths.specs.Least.{least_by}
use Rattle.flow_paths.specs.declared.certificate.Routing.{Routing}
use Rattle.flow_paths.proofs.Least.{least-one}
use Rattle.dual_bound.specs.Bounds.{length_rows, IsDualWith, IsDistance, IsCutPotential, IsCutDual, cut_lengths}
use Rattle.solver_run.proofs.Short.{least-short}
use Rattle.route_tally.specs.declared.options.RunOptions.{RunOptions}
use Rattle.route_tally.specs.Asked.{later_setting}
use Rattle.cert_lines.specs.Sheet.{Sheet, sheet_of}
use Rattle.cert_lines.specs.Spelling.{FitsLength, FitsPotential, FitsPath}
use Rattle.cert_writer.specs.Text.{FitsRouting}
use Rattle.cert_judge.proofs.Fitting.{IsSized, sized}
use Rattle.net_solve.proofs.Written.{each, length-fits, potential-fits}
use Rattle.throughput.specs.declared.part_proof.PartDual.{PartDual}
use Rattle.throughput.specs.declared.part_proof.PartProof.{PartProof}
use Rattle.throughput.specs.Partial.{part_upper_of, total_of}
use Rattle.throughput.specs.Conditions.{IsPartProofOf}
use Rattle.gates.specs.Gates.{gated, gated_loads, gated_lengths}
use Rattle.throughput.specs.Run.{IsThroughputRun, IsPartPhasedRun, IsPartBoundOf, part_fill_after, routed, turns_after, no_part_dual}
use Rattle.throughput.proofs.Measuring.{all-small}
use Rattle.kind_texts.specs.PartText.{FitsPart}
use Rattle.throughput_cmd.specs.Parts.{PartsCanBeWritten, IsPartSolved}
use Rattle.throughput_cmd.proofs.Figures.{lower-fits, upper-fits}
use Rattle.throughput_cmd.proofs.Amounts.{phase-within, weights-small}

abbrev IsSmall : ℕ → Type 0
IsSmall n = n ≤ MAX_LENGTH

-- the numbers of a dual are within the limit
record AreSmall (dual : DualRows) : Type 0 where
  lengths : All (λ (r : Length). r.value ≤ MAX_LENGTH) dual.lengths
  potentials : All (λ (r : Potential). All (λ p. p ≤ MAX_LENGTH) r.values) dual.potentials

-- ---- a dual with numbers within the limit

lengths-in-rows : (c : ℕ) (xs : List ℕ) → All IsSmall xs → All (λ (r : Length). IsSmall r.value) (length_rows c xs)
lengths-in-rows c [] h = All-nil (λ (r : Length). IsSmall r.value)
lengths-in-rows c (x ∷ xs) h = All-cons (λ (r : Length). IsSmall r.value) (record { cell = c; value = x }) (length_rows (c + 1) xs) (All-head IsSmall x xs h) (lengths-in-rows (c + 1) xs (All-tail IsSmall x xs h))

dual-small : (net : Network) (lengths : List ℕ) (P : ℕ → ℕ → ℕ → Type 0) (dual : DualRows) → All IsSmall lengths → ((u v p : ℕ) → u < net.nodes → P u v p → IsSmall p) → All (IsPotentialOf net) dual.potentials → IsDualWith net lengths P dual → AreSmall dual
dual-small net lengths P dual small far named d = record {
  lengths = All-same (λ (r : Length). IsSmall r.value) dual.lengths (length_rows 0 lengths) d.lengths_are (lengths-in-rows 0 lengths small);
  potentials = λ i r l.
      let row = get_or dual.potentials i r in
      let is = d.potentials i r l in
      All-from_get_or IsSmall row.values 0 (λ v b. far row.node v (get_or row.values v 0) (named i r l).node (is.each v (omega (arith, is.count, b))));
}

-- ---- distances

-- a walk is no longer than its cells
walk-high : (cells : List Cell) (lengths : List ℕ) (u v : ℕ) (walk : List ℕ) → AreLengths cells lengths → PositiveWalk cells u v walk → walk_length lengths walk ≤ length walk * 2 ^ 52
walk-high cells lengths u v [] long w = omega arith
walk-high cells lengths u v (c ∷ walk) long w = omega (arith, length-first lengths c walk, long.high c w.1.0 w.1.1 w.1.2, walk-high cells lengths w.0 v walk long w.2)

distance-small : (net : Network) (lengths : List ℕ) (u v p : ℕ) → IsNetwork net → AreLengths net.cells lengths → u < net.nodes → IsDistance net.cells lengths u v p → IsSmall p
distance-small net lengths u v p n long l d = omega (arith, d.2, far d.0 d.1)
  where
    far : (o : Option ℕ) → IsLeast net.cells lengths u v o → IsSmall (far_or o)
    far None h = omega arith
    far (Some m) h =
        let walk = h.0.0 in
        let short = least-short net lengths u v walk n long.low l (record { walks = h.0.1; least = λ other w. omega (arith, h.0.2, h.1 other w) }) in
        let few : length walk ≤ MAX_PATH_CELLS = omega (arith, n.nodes) in
        let most : length walk * 2 ^ 52 ≤ MAX_PATH_CELLS * 2 ^ 52 = mul-le-mul_right (2 ^ 52) few in
        omega (arith, h.0.2, walk-high net.cells lengths u v walk long h.0.1)

-- ---- marks of a cut

mark-small : (b : Bool) → IsSmall (cond {A = ℕ} b 1 0)
mark-small true = omega arith
mark-small false = omega arith

potential-mark : (cells : List Cell) (u v p : ℕ) → IsCutPotential cells u v p → IsSmall p
potential-mark cells u v p (inl h) = omega (arith, h.1)
potential-mark cells u v p (inr h) = omega (arith, h.1)

cut-small : (net : Network) (dual : DualRows) → All (IsPotentialOf net) dual.potentials → IsCutDual net dual → AreSmall dual
cut-small net dual named d =
    let lengths : All IsSmall (cut_lengths net.cells) = All-map IsSmall (λ (cell : Cell). cond {A = ℕ} (eqb cell.cap 0) 1 0) net.cells (λ i x l. mark-small (eqb (get_or net.cells i x).cap 0)) in
    dual-small net (cut_lengths net.cells) (IsCutPotential net.cells) dual lengths (λ u v p l is. potential-mark net.cells u v p is) named d

-- ---- lengths of the cells, which stand before those of the gates

front-at : (xs ys : List Cell) (c : ℕ) (cell : Cell) → slice_get xs c ≡ Some cell → slice_get (xs ++ ys) c ≡ Some cell
front-at [] ys c cell e = absurd (let z : None ≡ Some cell = e in cc)
front-at (x ∷ xs) ys zero cell e = e
front-at (x ∷ xs) ys (suc c) cell e = front-at xs ys c cell e

front-lengths : (xs ys : List Cell) (lengths : List ℕ) → AreLengths (xs ++ ys) lengths → AreLengths xs (take (length xs) lengths)
front-lengths xs ys lengths long =
    let all : length lengths ≡ length xs + length ys = long.count ∙ length-append xs ys in
    record {
      count = length-take-le (length xs) lengths (omega arith);
      low = λ c cell at cap. omega (arith, get_or-take (length xs) lengths c 0 (slice_get_within xs c cell at), long.low c cell (front-at xs ys c cell at) cap);
      high = λ c cell at cap. omega (arith, get_or-take (length xs) lengths c 0 (slice_get_within xs c cell at), long.high c cell (front-at xs ys c cell at) cap);
    }

front-small : (n : ℕ) (xs : List ℕ) → n ≤ length xs → All IsSmall xs → All IsSmall (take n xs)
front-small n xs l h = All-from_get_or IsSmall (take n xs) 0 (λ i b. let inside : i < n = omega (arith, length-take-le n xs l) in subst IsSmall (sym (get_or-take n xs i 0 inside)) (h i 0 (omega arith)))

-- ---- the dual of a run

abbrev lengths_after : Network → List Cell → RunOptions → List (List (Option Row)) → ℕ → List ℕ
lengths_after net gates o phases p = gated_lengths net gates (later_setting o.step (part_fill_after net gates phases 1)) (turns_after phases (p + 1))

abbrev IsSomeBound : Network → List Cell → RunOptions → List (List (Option Row)) → PartDual → Type 0
IsSomeBound net gates o phases b = (p : ℕ) × IsPartBoundOf net (lengths_after net gates o phases p) b

kept-one : (net : Network) (P : PartDual → Type 0) (bounds : List PartDual) → 1 ≤ length bounds → All P bounds → P (least_by (part_upper_of net) no_part_dual bounds)
kept-one net P [] l h = absurd (omega arith)
kept-one net P (b ∷ bs) l h = least-one (part_upper_of net) no_part_dual P b bs h

kept-bound : (net : Network) (o : RunOptions) (p : PartProof) → (r : IsPartPhasedRun net o p) → IsSomeBound net r.gates o r.phases p.bound
kept-bound net o p r =
    let P = IsSomeBound net r.gates o r.phases in
    let all : All P r.bounds = All-from_get_or P r.bounds no_part_dual (λ i l. (i, (r.each i (omega (arith, r.count, l))).bound)) in
    let kept = kept-one net P r.bounds (omega (arith, r.count, r.some)) all in
    let whole : take (length r.phases) r.bounds ≡ r.bounds = take_all (length r.phases) r.bounds (omega (arith, r.count)) in
    subst P (sym (r.proof.bound ∙ ap (least_by (part_upper_of net) no_part_dual) whole)) kept

phased-small : (net : Network) (o : RunOptions) (p : PartProof) → IsNetwork net → IsPartProofOf net p → IsPartPhasedRun net o p → AreSmall p.bound.dual
phased-small net o p n fits r =
    let one = kept-bound net o p r in
    let setting = later_setting o.step (part_fill_after net r.gates r.phases 1) in
    let loads = gated_loads net (turns_after r.phases (one.0 + 1)) in
    let cells = net.cells ++ r.gates in
    let front : length (loads_of net (turns_after r.phases (one.0 + 1))) ≡ length net.cells = length-map-range_with_len _ 0 (length net.cells) in
    let back : length (map (carried (turns_after r.phases (one.0 + 1))) (range_with_len 0 (length net.commodities))) ≡ length net.commodities = length-map-range_with_len _ 0 (length net.commodities) in
    let joined = length-append (loads_of net (turns_after r.phases (one.0 + 1))) (map (carried (turns_after r.phases (one.0 + 1))) (range_with_len 0 (length net.commodities))) in
    let count : length loads ≡ length net.cells + length r.gates = omega (arith, r.are_gates.count) in
    let long : length loads ≡ length cells = omega (arith, length-append net.cells r.gates) in
    let lengths = lengths_of (gated net r.gates) setting loads in
    let are : AreLengths cells lengths = lengths-fit setting (greatest_exponent setting cells loads) cells loads long in
    let own = front-lengths net.cells r.gates lengths are in
    let small = front-small (length net.cells) lengths (omega (arith, are.count, length-append net.cells r.gates)) (all-small net r.gates setting loads count) in
    dual-small net (take (length net.cells) lengths) (IsDistance net.cells (take (length net.cells) lengths)) p.bound.dual small
    (λ u v q l is. distance-small net (take (length net.cells) lengths) u v q n own l is) fits.potentials one.1.dual

run-small : (net : Network) (o : RunOptions) (p : PartProof) → IsNetwork net → IsPartProofOf net p → IsThroughputRun net o p → AreSmall p.bound.dual
run-small net o p n fits run = elim run.run [
  | inl c ↦ cut-small net p.bound.dual fits.potentials c.1.dual
  | inr r ↦ phased-small net o p n fits r.1
]

-- ---- the weights of a run

run-weights : (net : Network) (o : RunOptions) (p : PartProof) → IsNetwork net → IsPartProofOf net p → IsThroughputRun net o p → All (λ (row : Row). row.weight ≤ MAX_LENGTH) p.routing.paths
run-weights net o p n fits run = elim run.run [
  | inl c ↦ All-same (λ (row : Row). row.weight ≤ MAX_LENGTH) p.routing.paths [] c.1.paths (All-nil (λ (row : Row). row.weight ≤ MAX_LENGTH))
  | inr r ↦
      let run = r.1 in
      let few : length run.phases ≤ MAX_PHASES = omega (arith, run.proof.phases_are, fits.routing.phases) in
      let within : All (λ (turns : List (Option Row)). total_of (routed turns) ≤ sum_by (λ (k : Commodity). k.amount) net.commodities) run.phases =
      All-from_get_or (λ (turns : List (Option Row)). total_of (routed turns) ≤ sum_by (λ (k : Commodity). k.amount) net.commodities) run.phases [] (λ i l.
      let phase = (run.each i l).phase in
      phase-within net (get_or run.phases i []) phase.count (λ k b. (_, _, phase.each k b))) in
      weights-small net run.phases p.routing.paths n few within run.proof.paths
]

-- ---- what is solved

path-fits : (sheet : Sheet) (net : Network) (row : Row) → IsSized sheet net → IsRowOf net row → row.weight ≤ MAX_LENGTH → FitsPath sheet row
path-fits sheet net row size is small = record {
  commodity = subst (λ n. row.commodity < n) (sym size.commodities) is.commodity;
  weight = small;
  cells = each (λ c. c < length sheet.cells) row.walk (subst (λ n. All (λ c. c < n) row.walk) (sym size.cells) is.cells);
  short = is.short;
}

routing-fits : (sheet : Sheet) (net : Network) (r : Routing) → IsSized sheet net → IsRoutingOf net r → All (λ (row : Row). row.weight ≤ MAX_LENGTH) r.paths → FitsRouting sheet r
routing-fits sheet net r size is small = record {
  phases = is.phases;
  scale_cap = is.scale_cap;
  scale_load = is.scale_load;
  paths = each (FitsPath sheet) r.paths (λ i d l. path-fits sheet net _ size (is.rows i d l) (small i d l));
}

solved-fits : (sheet : Sheet) (net : Network) (o : RunOptions) (p : PartProof) → IsSized sheet net → IsNetwork net → IsPartSolved net o p → FitsPart sheet p
solved-fits sheet net o p size n solved =
    let is = solved.fits in
    let small : AreSmall p.bound.dual = run-small net o p n is solved.run in
    let printed = solved.run.printed in
    record {
      gap = is.gap;
      routing = routing-fits sheet net p.routing size is.routing (run-weights net o p n is solved.run);
      lower = lower-fits net p.routing p.lower n is.routing solved.valid.1.0 printed.lower is.lower_micro;
      upper = upper-fits net p.bound p.upper n small.lengths is.threshold solved.certified.bounds_all.positive printed.upper is.upper_micro;
      threshold = is.threshold;
      lengths = each (FitsLength sheet) p.bound.dual.lengths (λ i d l. length-fits sheet net _ size (is.lengths i d l) (small.lengths i d l));
      potentials = each (FitsPotential sheet) p.bound.dual.potentials (λ i d l. potential-fits sheet net _ size (is.potentials i d l) (small.potentials i d l));
    }

pub written : PartsCanBeWritten
written rows net o p of n solved = solved-fits (sheet_of rows net) net.net o p (sized rows of.options net of.scaled) n solved
