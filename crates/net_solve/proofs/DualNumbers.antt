-- The lengths and potentials of what is solved are at most 2 ^ 62.
use Rattle.std.proofs.Common.{◌≡◌, inl, inr, ℕ, suc, ◌+◌, ◌*◌, ◌^◌, ◌<◌, ◌≤◌, Bool, true, false, cond, eqb, List, [], ◌∷◌, Option, Some, None, length, get_or, refl, sym, subst, ◌∙◌, arith}
use Rattle.std.specs.Prelude.{All}
use Rattle.std.proofs.Math.Nat.{mul-le-mul_right}
use Rattle.std.proofs.lemmas.List.{length-map}
use Rattle.std.proofs.lemmas.List.FromFn.{length-map-range_with_len}
use Rattle.std.proofs.lemmas.List.Elements.{All-nil, All-cons, All-head, All-tail, All-map, All-same, All-from_get_or}
use Rattle.dijkstra_paths.proofs.Least.{length-first}
use Rattle.mcf_limits.specs.declared.TheConstants.{MAX_LENGTH, MAX_PATH_CELLS}
use Rattle.flow_model.specs.declared.net.Cell.{Cell}
use Rattle.flow_model.specs.Network.{Network, IsNetwork}
use Rattle.flow_model.specs.Lengths.{AreLengths, greatest_exponent, least_capacity, lengths_of}
use Rattle.flow_model.specs.Walk.{PositiveWalk}
use Rattle.flow_model.specs.Least.{IsLeast, far_or}
use Rattle.flow_model.specs.Bound.{walk_length}
use Rattle.fixed_exp.specs.Far.{EmptyAreFar}
use Rattle.fixed_exp.proofs.Passes.{lengths-fit, empty-far}
use Rattle.flow_paths.specs.DualRows.{Length, DualRows}
use Rattle.flow_paths.specs.Certificate.{IsPotentialOf, upper_of}
use Rattle.flow_paths.specs.Evaluation.{fraction_le}
use Rattle.dual_bound.specs.Bounds.{length_rows, IsDualWith, IsDistance, IsBoundOf, IsCutPotential, IsCutDual, cut_lengths}
use Rattle.dual_bound.proofs.Bounding.{lengths-small}
use Rattle.solver_run.specs.declared.options.SolveOptions.{SolveOptions}
use Rattle.solver_run.specs.History.{SolvedView, phases_of, loads_after, later_setting}
use Rattle.solver_run.specs.Run.{IsSolverRun, IsPhasedRun, no_dual, least_dual}
use Rattle.solver_run.proofs.Short.{least-short}
use Rattle.net_solve.proofs.Figures.{AreSmall}

abbrev IsSmall : ℕ → Type 0
IsSmall n = n ≤ MAX_LENGTH

-- ---- a dual with lengths and potentials within the limit

lengths-in-rows : (c : ℕ) (xs : List ℕ) → All IsSmall xs → All (λ (r : Length). IsSmall r.value) (length_rows c xs)
lengths-in-rows c [] h = All-nil (λ (r : Length). IsSmall r.value)
lengths-in-rows c (x ∷ xs) h = All-cons (λ (r : Length). IsSmall r.value) (record { cell = c; value = x }) (length_rows (c + 1) xs) (All-head IsSmall x xs h) (lengths-in-rows (c + 1) xs (All-tail IsSmall x xs h))

dual-small : (net : Network) (lengths : List ℕ) (P : ℕ → ℕ → ℕ → Type 0) (dual : DualRows) → All IsSmall lengths → ((u v p : ℕ) → u < net.nodes → P u v p → IsSmall p) → All (IsPotentialOf net) dual.potentials → IsDualWith net lengths P dual → AreSmall dual
dual-small net lengths P dual small each named d = record {
  lengths = All-same (λ (r : Length). IsSmall r.value) dual.lengths (length_rows 0 lengths) d.lengths_are (lengths-in-rows 0 lengths small);
  potentials = λ i r l.
      let row = get_or dual.potentials i r in
      let is = d.potentials i r l in
      All-from_get_or IsSmall row.values 0 (λ v b. each row.node v (get_or row.values v 0) (named i r l).node (is.each v (omega (arith, is.count, b))));
}

-- ---- distances

-- a walk is no longer than its cells
walk-high : (cells : List Cell) (lengths : List ℕ) (u v : ℕ) (walk : List ℕ) → AreLengths cells lengths → PositiveWalk cells u v walk → walk_length lengths walk ≤ length walk * 2 ^ 52
walk-high cells lengths u v [] long w = omega arith
walk-high cells lengths u v (c ∷ walk) long w = omega (arith, length-first lengths c walk, long.high c w.1.0 w.1.1 w.1.2, walk-high cells lengths w.0 v walk long w.2)

distance-small : (net : Network) (lengths : List ℕ) (u v p : ℕ) → IsNetwork net → AreLengths net.cells lengths → u < net.nodes → IsDistance net.cells lengths u v p → IsSmall p
distance-small net lengths u v p n long l d = omega (arith, d.2, far d.0 d.1)
  where
    far : (o : Option ℕ) → IsLeast net.cells lengths u v o → IsSmall (far_or o)
    far None h = omega arith
    far (Some m) h =
        let walk = h.0.0 in
        let short = least-short net lengths u v walk n long.low l (record { walks = h.0.1; least = λ other w. omega (arith, h.0.2, h.1 other w) }) in
        let few : length walk ≤ MAX_PATH_CELLS = omega (arith, n.nodes) in
        let most : length walk * 2 ^ 52 ≤ MAX_PATH_CELLS * 2 ^ 52 = mul-le-mul_right (2 ^ 52) few in
        omega (arith, h.0.2, walk-high net.cells lengths u v walk long h.0.1)

bound-small : (net : Network) (lengths : List ℕ) (dual : DualRows) → IsNetwork net → AreLengths net.cells lengths → EmptyAreFar net.cells lengths → All (IsPotentialOf net) dual.potentials → IsBoundOf net lengths dual → AreSmall dual
bound-small net lengths dual n long far named d =
    dual-small net lengths (IsDistance net.cells lengths) dual (lengths-small net.cells lengths long far) (λ u v p l is. distance-small net lengths u v p n long l is) named d

-- ---- marks of a cut

mark-small : (b : Bool) → IsSmall (cond {A = ℕ} b 1 0)
mark-small true = omega arith
mark-small false = omega arith

marks-small : (cells : List Cell) (u v p : ℕ) → IsCutPotential cells u v p → IsSmall p
marks-small cells u v p (inl h) = omega (arith, h.1)
marks-small cells u v p (inr h) = omega (arith, h.1)

cut-small : (net : Network) (dual : DualRows) → All (IsPotentialOf net) dual.potentials → IsCutDual net dual → AreSmall dual
cut-small net dual named d =
    let lengths : All IsSmall (cut_lengths net.cells) = All-map IsSmall (λ (cell : Cell). cond {A = ℕ} (eqb cell.cap 0) 1 0) net.cells (λ i x l. mark-small (eqb (get_or net.cells i x).cap 0)) in
    dual-small net (cut_lengths net.cells) (IsCutPotential net.cells) dual lengths (λ u v p l is. marks-small net.cells u v p is) named d

-- ---- the dual of a run

-- the kept dual is one of them
kept-in : (net : Network) (duals : List DualRows) → 1 ≤ length duals → (p : ℕ) × (p < length duals) × (least_dual net duals ≡ get_or duals p no_dual)
kept-in net [] l = absurd (omega arith)
kept-in net (d ∷ []) l = (0, omega arith, refl)
kept-in net (d ∷ e ∷ ds) l = go (fraction_le (upper_of net d) (upper_of net (least_dual net (e ∷ ds)))) (kept-in net (e ∷ ds) (omega arith))
  where
    go : (b : Bool) → (p : ℕ) × (p < length (e ∷ ds)) × (least_dual net (e ∷ ds) ≡ get_or (e ∷ ds) p no_dual)
        → (p : ℕ) × (p < length (d ∷ e ∷ ds)) × (cond b d (least_dual net (e ∷ ds)) ≡ get_or (d ∷ e ∷ ds) p no_dual)
    go true r = (0, omega arith, refl)
    go false r = (suc r.0, omega (arith, r.1), r.2)

phased-small : (net : Network) (o : SolveOptions) (s : SolvedView) → IsNetwork net → All (IsPotentialOf net) s.proof.dual.potentials → IsPhasedRun net o s → AreSmall s.proof.dual
phased-small net o s n named r =
    let phases = phases_of s in
    let long : length phases ≡ length s.history = length-map s.history _ in
    let kept = kept-in net r.duals (omega (arith, r.phases.count, r.some)) in
    let p = kept.0 in
    let dual = get_or r.duals p no_dual in
    let is : s.proof.dual ≡ dual = r.proof.dual ∙ kept.2 in
    let next = r.phases.each p (omega (arith, kept.1, r.phases.count)) in
    let setting = later_setting net o phases in
    let loads = loads_after net phases (p + 1) in
    let count : length loads ≡ length net.cells = length-map-range_with_len _ 0 (length net.cells) in
    let lengths = lengths_of net setting loads in
    let long_is = lengths-fit setting (greatest_exponent setting net.cells loads) net.cells loads count in
    let far = empty-far setting (greatest_exponent setting net.cells loads) (least_capacity net.cells) net.cells loads count in
    let potentials = subst (λ (d : DualRows). All (IsPotentialOf net) d.potentials) is named in
    subst AreSmall (sym is) (bound-small net lengths dual n long_is far potentials next.bound)

pub run-small : (net : Network) (o : SolveOptions) (s : SolvedView) → IsNetwork net → All (IsPotentialOf net) s.proof.dual.potentials → IsSolverRun net o s → AreSmall s.proof.dual
run-small net o s n named (inl c) = cut-small net s.proof.dual named c.2.dual
run-small net o s n named (inr r) = phased-small net o s n named r.1
