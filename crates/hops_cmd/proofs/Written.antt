-- What is solved within hop limits fits a text.
use Rattle.std.proofs.Common.{◌≡◌, inl, inr, ℕ, ◌+◌, ◌*◌, ◌^◌, ◌<◌, ◌≤◌, Bool, true, false, cond, eqb, List, [], ◌∷◌, Option, Some, None, length, take, get_or, ap, sym, subst, ◌∙◌, arith}
use Rattle.std.specs.Prelude.{All}
use Rattle.std.proofs.Math.Nat.{mul-le-mul_right}
use Rattle.std.proofs.lemmas.List.{take_all}
use Rattle.std.proofs.lemmas.List.FromFn.{length-map-range_with_len}
use Rattle.std.proofs.lemmas.List.Elements.{All-nil, All-cons, All-head, All-tail, All-map, All-same, All-from_get_or}
use Rattle.mcf_limits.specs.declared.TheConstants.{MAX_HOPS, MAX_LENGTH, MAX_PATH_CELLS}
use Rattle.flow_model.specs.declared.net.Cell.{Cell}
use Rattle.flow_model.specs.Network.{Network, IsNetwork}
use Rattle.flow_model.specs.Routing.{Row}
use Rattle.flow_model.specs.Lengths.{AreLengths, greatest_exponent, least_capacity, lengths_of}
use Rattle.flow_model.specs.Walk.{PositiveWalk}
use Rattle.flow_model.specs.Least.{IsLeast, far_or}
use Rattle.flow_model.specs.Bound.{walk_length}
use Rattle.fixed_exp.specs.Far.{EmptyAreFar}
use Rattle.fixed_exp.proofs.Passes.{lengths-fit, empty-far}
use Rattle.dijkstra_paths.proofs.Least.{length-first}
use Rattle.flow_paths.specs.DualRows.{Length}
use Rattle.flow_paths.specs.Certificate.{IsRowOf, IsRoutingOf, IsPotentialOf}
use Rattle.flow_paths.specs.Evaluation.{loads_of}
use Rattle.flow_paths.specs.Least.{least_by}
use Rattle.flow_paths.specs.declared.certificate.Routing.{Routing}
use Rattle.flow_paths.proofs.Least.{least-one}
use Rattle.dual_bound.specs.Bounds.{length_rows, IsDistance, IsCutPotential, cut_lengths}
use Rattle.dual_bound.proofs.Bounding.{lengths-small}
use Rattle.solver_run.proofs.Short.{least-short}
use Rattle.route_tally.specs.declared.options.RunOptions.{RunOptions}
use Rattle.route_tally.specs.Asked.{later_setting}
use Rattle.cert_lines.specs.Sheet.{Sheet, sheet_of}
use Rattle.cert_lines.specs.Spelling.{FitsLength, FitsPotential, FitsPath}
use Rattle.cert_writer.specs.Text.{FitsRouting}
use Rattle.cert_judge.proofs.Fitting.{IsSized, sized}
use Rattle.net_solve.proofs.Figures.{lower-fits}
use Rattle.net_solve.proofs.PathWeights.{weights-small}
use Rattle.net_solve.proofs.Written.{each, length-fits, potential-fits}
use Rattle.hop_paths.specs.Allowed.{IsShortWalk}
use Rattle.hop_check.specs.LayerRows.{Layer}
use Rattle.hop_check.specs.declared.hop_proof.HopProof.{HopProof}
use Rattle.hop_check.specs.Layers.{HopDual, dual_of, hop_upper_of}
use Rattle.hop_check.specs.Conditions.{IsLayerOf, IsHopProofOf}
use Rattle.hop_solve.specs.Run.{IsHopRun, IsHopPhasedRun, IsHopDualWith, IsHopBoundOf, IsHopCutDual, IsLeastLength, IsCutLayer, fill_after, turns_after, no_hop_dual}
use Rattle.kind_texts.specs.HopsText.{FitsHops, FitsLayer}
use Rattle.hops_cmd.specs.Hops.{HopsCanBeWritten, IsHopSolved}
use Rattle.hops_cmd.proofs.Figures.{AreSmall, upper-fits}

abbrev IsSmall : ℕ → Type 0
IsSmall n = n ≤ MAX_LENGTH

-- ---- a dual with numbers within the limit

lengths-in-rows : (c : ℕ) (xs : List ℕ) → All IsSmall xs → All (λ (r : Length). IsSmall r.value) (length_rows c xs)
lengths-in-rows c [] h = All-nil (λ (r : Length). IsSmall r.value)
lengths-in-rows c (x ∷ xs) h = All-cons (λ (r : Length). IsSmall r.value) (record { cell = c; value = x }) (length_rows (c + 1) xs) (All-head IsSmall x xs h) (lengths-in-rows (c + 1) xs (All-tail IsSmall x xs h))

dual-small : (net : Network) (limits : List (Option ℕ)) (lengths : List ℕ) (P : ℕ → ℕ → ℕ → Type 0) (Q : ℕ → ℕ → ℕ → ℕ → Type 0) (d : HopDual) → All IsSmall lengths
    → ((u v p : ℕ) → u < net.nodes → P u v p → IsSmall p) → ((s i v n : ℕ) → i ≤ MAX_HOPS → Q s i v n → IsSmall n)
    → All (IsPotentialOf net) d.dual.potentials → All (IsLayerOf net) d.layers → IsHopDualWith net limits lengths P Q d → AreSmall d
dual-small net limits lengths P Q d small far near named layered w = record {
  lengths = All-same (λ (r : Length). IsSmall r.value) d.dual.lengths (length_rows 0 lengths) w.lengths_are (lengths-in-rows 0 lengths small);
  potentials = λ i r l.
      let row = get_or d.dual.potentials i r in
      let is = w.potentials i r l in
      All-from_get_or IsSmall row.values 0 (λ v b. far row.node v (get_or row.values v 0) (named i r l).node (is.each v (omega (arith, is.count, b))));
  layers = λ i r l.
      let row = get_or d.layers i r in
      let is = w.layers i r l in
      All-from_get_or IsSmall row.values 0 (λ v b. near row.node row.index v (get_or row.values v 0) (layered i r l).index (is.each v (omega (arith, is.count, b))));
}

-- ---- distances

-- a walk is at most 2^52 long for each of its cells
walk-high : (cells : List Cell) (lengths : List ℕ) (u v : ℕ) (walk : List ℕ) → AreLengths cells lengths → PositiveWalk cells u v walk → walk_length lengths walk ≤ length walk * 2 ^ 52
walk-high cells lengths u v [] long w = omega arith
walk-high cells lengths u v (c ∷ walk) long w = omega (arith, length-first lengths c walk, long.high c w.1.0 w.1.1 w.1.2, walk-high cells lengths w.0 v walk long w.2)

distance-small : (net : Network) (lengths : List ℕ) (u v p : ℕ) → IsNetwork net → AreLengths net.cells lengths → u < net.nodes → IsDistance net.cells lengths u v p → IsSmall p
distance-small net lengths u v p n long l d = omega (arith, d.2, far d.0 d.1)
  where
    far : (o : Option ℕ) → IsLeast net.cells lengths u v o → IsSmall (far_or o)
    far None h = omega arith
    far (Some m) h =
        let walk = h.0.0 in
        let short = least-short net lengths u v walk n long.low l (record { walks = h.0.1; least = λ other w. omega (arith, h.0.2, h.1 other w) }) in
        let few : length walk ≤ MAX_PATH_CELLS = omega (arith, n.nodes) in
        let most : length walk * 2 ^ 52 ≤ MAX_PATH_CELLS * 2 ^ 52 = mul-le-mul_right (2 ^ 52) few in
        omega (arith, h.0.2, walk-high net.cells lengths u v walk long h.0.1)

layer-small : (cells : List Cell) (lengths : List ℕ) (s i v n : ℕ) → AreLengths cells lengths → i ≤ MAX_HOPS → IsLeastLength (IsShortWalk cells s v i) lengths n → IsSmall n
layer-small cells lengths s i v n long l (None, h, is) = omega (arith, is)
layer-small cells lengths s i v n long l (Some m, h, is) =
    let walk = h.0.0 in
    let few : length walk ≤ MAX_HOPS = omega (arith, h.0.1.1) in
    let most : length walk * 2 ^ 52 ≤ MAX_HOPS * 2 ^ 52 = mul-le-mul_right (2 ^ 52) few in
    omega (arith, is, h.0.2, walk-high cells lengths s v walk long h.0.1.0)

bound-small : (net : Network) (limits : List (Option ℕ)) (lengths : List ℕ) (d : HopDual) → IsNetwork net → AreLengths net.cells lengths → EmptyAreFar net.cells lengths
    → All (IsPotentialOf net) d.dual.potentials → All (IsLayerOf net) d.layers → IsHopBoundOf net limits lengths d → AreSmall d
bound-small net limits lengths d n long far named layered w =
    dual-small net limits lengths (IsDistance net.cells lengths) (λ s i v m. IsLeastLength (IsShortWalk net.cells s v i) lengths m) d (lengths-small net.cells lengths long far)
    (λ u v p l is. distance-small net lengths u v p n long l is) (λ s i v m l is. layer-small net.cells lengths s i v m long l is) named layered w

-- ---- marks of a cut

mark-small : (b : Bool) → IsSmall (cond {A = ℕ} b 1 0)
mark-small true = omega arith
mark-small false = omega arith

potential-mark : (cells : List Cell) (u v p : ℕ) → IsCutPotential cells u v p → IsSmall p
potential-mark cells u v p (inl h) = omega (arith, h.1)
potential-mark cells u v p (inr h) = omega (arith, h.1)

layer-mark : (cells : List Cell) (s i v n : ℕ) → IsCutLayer cells s i v n → IsSmall n
layer-mark cells s i v n (inl h) = omega (arith, h.1)
layer-mark cells s i v n (inr h) = omega (arith, h.1)

cut-small : (net : Network) (limits : List (Option ℕ)) (d : HopDual) → All (IsPotentialOf net) d.dual.potentials → All (IsLayerOf net) d.layers → IsHopCutDual net limits d → AreSmall d
cut-small net limits d named layered w =
    let lengths : All IsSmall (cut_lengths net.cells) = All-map IsSmall (λ (cell : Cell). cond {A = ℕ} (eqb cell.cap 0) 1 0) net.cells (λ i x l. mark-small (eqb (get_or net.cells i x).cap 0)) in
    dual-small net limits (cut_lengths net.cells) (IsCutPotential net.cells) (IsCutLayer net.cells) d lengths (λ u v p l is. potential-mark net.cells u v p is)
    (λ s i v m l is. layer-mark net.cells s i v m is) named layered w

-- ---- the dual of a run

-- the lengths that the bound after the phase of that number is taken under
abbrev lengths_after : Network → RunOptions → List (List Row) → ℕ → List ℕ
lengths_after net o phases p = lengths_of net (later_setting o.step (fill_after net phases 1)) (loads_of net (turns_after phases (p + 1)))

abbrev IsSomeBound : Network → List (Option ℕ) → RunOptions → List (List Row) → HopDual → Type 0
IsSomeBound net limits o phases d = (p : ℕ) × IsHopBoundOf net limits (lengths_after net o phases p) d

kept-one : (net : Network) (limits : List (Option ℕ)) (P : HopDual → Type 0) (bounds : List HopDual) → 1 ≤ length bounds → All P bounds → P (least_by (hop_upper_of net limits) no_hop_dual bounds)
kept-one net limits P [] l h = absurd (omega arith)
kept-one net limits P (d ∷ ds) l h = least-one (hop_upper_of net limits) no_hop_dual P d ds h

kept-bound : (net : Network) (limits : List (Option ℕ)) (o : RunOptions) (h : HopProof) → (r : IsHopPhasedRun net limits o h) → IsSomeBound net limits o r.phases (dual_of h)
kept-bound net limits o h r =
    let P = IsSomeBound net limits o r.phases in
    let all : All P r.bounds = All-from_get_or P r.bounds no_hop_dual (λ p l. (p, (r.each p (omega (arith, r.count, l))).bound)) in
    let kept = kept-one net limits P r.bounds (omega (arith, r.count, r.some)) all in
    let whole : take (length r.phases) r.bounds ≡ r.bounds = take_all (length r.phases) r.bounds (omega (arith, r.count)) in
    subst P (sym (r.proof.dual ∙ ap (least_by (hop_upper_of net limits) no_hop_dual) whole)) kept

run-small : (net : Network) (limits : List (Option ℕ)) (o : RunOptions) (h : HopProof) → IsNetwork net → IsHopProofOf net h → IsHopRun net limits o h → AreSmall (dual_of h)
run-small net limits o h n fits run = elim run.run [
  | inl c ↦ cut-small net limits (dual_of h) fits.proof.potentials fits.layers c.1.dual
  | inr r ↦
      let one = kept-bound net limits o h r.1 in
      let setting = later_setting o.step (fill_after net r.1.phases 1) in
      let loads = loads_of net (turns_after r.1.phases (one.0 + 1)) in
      let count : length loads ≡ length net.cells = length-map-range_with_len _ 0 (length net.cells) in
      let lengths = lengths_of net setting loads in
      let long = lengths-fit setting (greatest_exponent setting net.cells loads) net.cells loads count in
      let far = empty-far setting (greatest_exponent setting net.cells loads) (least_capacity net.cells) net.cells loads count in
      bound-small net limits lengths (dual_of h) n long far fits.proof.potentials fits.layers one.1
]

-- ---- what is solved

path-fits : (sheet : Sheet) (net : Network) (row : Row) → IsSized sheet net → IsRowOf net row → row.weight ≤ MAX_LENGTH → FitsPath sheet row
path-fits sheet net row size is small = record {
  commodity = subst (λ n. row.commodity < n) (sym size.commodities) is.commodity;
  weight = small;
  cells = each (λ c. c < length sheet.cells) row.walk (subst (λ n. All (λ c. c < n) row.walk) (sym size.cells) is.cells);
  short = is.short;
}

routing-fits : (sheet : Sheet) (net : Network) (r : Routing) → IsSized sheet net → IsRoutingOf net r → All (λ (row : Row). row.weight ≤ MAX_LENGTH) r.paths → FitsRouting sheet r
routing-fits sheet net r size is small = record {
  phases = is.phases;
  scale_cap = is.scale_cap;
  scale_load = is.scale_load;
  paths = each (FitsPath sheet) r.paths (λ i d l. path-fits sheet net _ size (is.rows i d l) (small i d l));
}

layer-fits : (sheet : Sheet) (net : Network) (r : Layer) → IsSized sheet net → IsLayerOf net r → All IsSmall r.values → FitsLayer sheet r
layer-fits sheet net r size is small = record {
  node = subst (λ n. r.node < n) (sym size.nodes) is.node;
  index = is.index;
  count = is.values ∙ sym size.nodes;
  values = each IsSmall r.values small;
}

solved-fits : (sheet : Sheet) (net : Network) (limits : List (Option ℕ)) (o : RunOptions) (h : HopProof) → IsSized sheet net → IsNetwork net → IsHopSolved net limits o h → FitsHops sheet h
solved-fits sheet net limits o h size n solved =
    let p = h.proof in
    let is = solved.fits.proof in
    let small : AreSmall (dual_of h) = run-small net limits o h n solved.fits solved.run in
    let carried = solved.valid.1.0 in
    let printed = solved.run.printed in
    record {
      proof = record {
        gap = is.gap;
        routing = routing-fits sheet net p.routing size is.routing (weights-small net p.routing n is.routing carried);
        lower = lower-fits net p.routing p.lower is.routing printed.lower is.lower_micro;
        upper = upper-fits net limits (dual_of h) p.upper n small solved.certified.bounds_all.positive printed.upper is.upper_micro;
        lengths = each (FitsLength sheet) p.dual.lengths (λ i d l. length-fits sheet net _ size (is.lengths i d l) (small.lengths i d l));
        potentials = each (FitsPotential sheet) p.dual.potentials (λ i d l. potential-fits sheet net _ size (is.potentials i d l) (small.potentials i d l));
      };
      layers = each (FitsLayer sheet) h.layers (λ i d l. layer-fits sheet net _ size (solved.fits.layers i d l) (small.layers i d l));
    }

pub written : HopsCanBeWritten
written rows net limits o h of n solved = solved-fits (sheet_of rows net) net.net limits o h (sized rows of.options net of.scaled) n solved
