-- A dual with least lengths, or with the marks of a cut, shows its bound.
use Rattle.std.proofs.Common.{◌≡◌, ℕ, ◌+◌, ◌*◌, ◌^◌, ◌<◌, ◌≤◌, List, [], ◌∷◌, Bool, true, Option, Some, None, cond, eqb, length, get_or, map, refl, sym, ap, subst, ◌∙◌, arith}
use Rattle.std.specs.Prelude.{All, count_by, find}
use Rattle.std.specs.List.{range_with_len}
use Rattle.std.proofs.Math.Nat.{mul-le-mul_right}
use Rattle.std.proofs.lemmas.Bool.{eq-eqb}
use Rattle.std.proofs.lemmas.List.{get_or-map, length-map}
use Rattle.std.proofs.lemmas.List.FromFn.{length-range_with_len, get_or-range_with_len}
use Rattle.std.proofs.lemmas.List.Folds.{list_any_at}
use Rattle.std.proofs.lemmas.List.Elements.{All-from_get_or, All-filter, All-cons, All-nil}
use Rattle.mcf_limits.specs.declared.TheConstants.{MAX_LENGTH, MAX_PATH_CELLS}
use Rattle.flow_model.specs.declared.net.Cell.{Cell}
use Rattle.flow_model.specs.declared.net.Commodity.{Commodity}
use Rattle.flow_model.specs.Network.{Network, IsNetwork, IsCommodity}
use Rattle.flow_model.specs.Groups.{is_source, group_sources}
use Rattle.flow_model.specs.Lengths.{AreLengths}
use Rattle.flow_model.specs.Walk.{PositiveWalk}
use Rattle.flow_model.specs.Least.{HasCut, IsCutOff, IsLeast, far_or}
use Rattle.flow_model.specs.Bound.{IsPotential, walk_length, weighted_distance}
use Rattle.flow_model.proofs.Duality.{no_commodity}
use Rattle.fixed_exp.specs.Far.{EmptyAreFar}
use Rattle.flow_paths.specs.DualRows.{Length, Potential, DualRows}
use Rattle.flow_paths.specs.Certificate.{distances_in, lengths_in}
use Rattle.dual_bound.specs.Bounds.{length_rows, IsRowWith, IsDualWith, IsDistance, IsBoundOf, IsCutPotential, IsCutDual, ShowsBound, cut_lengths}
use Rattle.dual_bound.proofs.DualRows.{source-count, cells-have, lengths-found, row-found}
use Rattle.dual_bound.proofs.Distances.{distances-are, marks-are, distance-positive, cut-positive, distance-by, weighted-positive}
use Rattle.dijkstra_paths.proofs.Least.{length-first}
use Rattle.solver_run.proofs.Short.{least-short}

-- the rows are of nodes
rows-nodes : (net : Network) (rows : List Potential) → map (λ (r : Potential). r.node) rows ≡ group_sources net → All (λ (r : Potential). r.node < net.nodes) rows
rows-nodes net rows e = λ k d l.
    let node : Potential → ℕ = λ r. r.node in
    let all : All (λ v. v < net.nodes) (map node rows) = subst (All (λ v. v < net.nodes)) (sym e) (All-filter (is_source net.commodities) (λ v. v < net.nodes) (range_with_len 0 net.nodes)
    (All-from_get_or (λ v. v < net.nodes) (range_with_len 0 net.nodes) 0 (λ i b. let inside : i < net.nodes = omega (arith, length-range_with_len 0 net.nodes) in omega (arith, get_or-range_with_len 0 net.nodes i 0 inside)))) in
    subst (λ v. v < net.nodes) (get_or-map node rows k d d.node l) (all k d.node (omega (arith, length-map rows node)))

numbers-below : (a n : ℕ) (xs : List ℕ) → a + length xs ≤ n → All (λ (r : Length). r.cell < n) (length_rows a xs)
numbers-below a n [] l = All-nil (λ (r : Length). r.cell < n)
numbers-below a n (x ∷ xs) l = All-cons (λ (r : Length). r.cell < n) (record { cell = a; value = x }) (length_rows (a + 1) xs) (omega arith) (numbers-below (a + 1) n xs (omega arith))

-- what lengths and potentials make
shows : (net : Network) (lengths : List ℕ) (P : ℕ → ℕ → ℕ → Type 0) (dual : DualRows) → length lengths ≡ length net.cells → IsDualWith net lengths P dual → All (λ (r : Potential). IsPotential net.cells lengths r.values) dual.potentials
    → 1 ≤ weighted_distance net.commodities (distances_in net dual) → ShowsBound net lengths dual
shows net lengths P dual size d potentials positive =
    let are : lengths_in net dual ≡ lengths = lengths-found net lengths dual size d.lengths_are in
    record {
      lengths_are = are;
      cells = cells-have net lengths dual size d.lengths_are;
      sources = record { each = λ v l. source-count net dual.potentials v d.sources l };
      potentials = record { each = subst (λ (xs : List ℕ). All (λ (r : Potential). IsPotential net.cells xs r.values) dual.potentials) (sym are) potentials };
      distance = record { divides = λ e. absurd (omega arith) };
      numbers = subst (All (λ (r : Length). r.cell < length net.cells)) (sym d.lengths_are) (numbers-below 0 (length net.cells) lengths (omega arith));
      rows = λ k r l. record { node = rows-nodes net dual.potentials d.sources k r l; values = (d.potentials k r l).count };
    }

-- the row of a commodity's source
source-row : (net : Network) (lengths : List ℕ) (P : ℕ → ℕ → ℕ → Type 0) (dual : DualRows) (i : ℕ) (x : Commodity) → IsNetwork net → IsDualWith net lengths P dual → i < length net.commodities
    → (r : Potential) × (find (λ (r : Potential). eqb r.node (get_or net.commodities i x).from) dual.potentials ≡ Some r) × (r.node ≡ (get_or net.commodities i x).from) × IsRowWith net.nodes P r
source-row net lengths P dual i x n d l =
    let k = get_or net.commodities i x in
    let source : is_source net.commodities k.from ≡ true = list_any_at (λ (c : Commodity). eqb c.from k.from) net.commodities i x l (eq-eqb k.from k.from refl) in
    let one : count_by (λ (r : Potential). eqb r.node k.from) dual.potentials ≡ 1 = source-count net dual.potentials k.from d.sources (n.commodities i x l).from ∙ ap (λ (b : Bool). cond {A = ℕ} b 1 0) source in
    row-found (IsRowWith net.nodes P) dual.potentials k.from d.potentials one

-- a walk is no longer than its cells
walk-high : (cells : List Cell) (lengths : List ℕ) (u v : ℕ) (walk : List ℕ) → AreLengths cells lengths → PositiveWalk cells u v walk → walk_length lengths walk ≤ length walk * 2 ^ 52
walk-high cells lengths u v [] long w = omega arith
walk-high cells lengths u v (c ∷ walk) long w = omega (arith, length-first lengths c walk, long.high c w.1.0 w.1.1 w.1.2, walk-high cells lengths w.0 v walk long w.2)

-- a distance is within the limit
distance-small : (net : Network) (lengths : List ℕ) (u v p : ℕ) → IsNetwork net → AreLengths net.cells lengths → u < net.nodes → IsDistance net.cells lengths u v p → p ≤ MAX_LENGTH
distance-small net lengths u v p n long l d = omega (arith, d.2, far d.0 d.1)
  where
    far : (o : Option ℕ) → IsLeast net.cells lengths u v o → far_or o ≤ MAX_LENGTH
    far None h = omega arith
    far (Some m) h =
        let walk = h.0.0 in
        let short = least-short net lengths u v walk n long.low l (record { walks = h.0.1; least = λ other w. omega (arith, h.0.2, h.1 other w) }) in
        let few : length walk ≤ MAX_PATH_CELLS = omega (arith, n.nodes) in
        let most : length walk * 2 ^ 52 ≤ MAX_PATH_CELLS * 2 ^ 52 = mul-le-mul_right (2 ^ 52) few in
        omega (arith, h.0.2, walk-high net.cells lengths u v walk long h.0.1)

-- the dual of least lengths
pub bound-shows : (net : Network) (lengths : List ℕ) (dual : DualRows) → IsNetwork net → AreLengths net.cells lengths → EmptyAreFar net.cells lengths → IsBoundOf net lengths dual → ShowsBound net lengths dual
bound-shows net lengths dual n long far d =
    let potentials : All (λ (r : Potential). IsPotential net.cells lengths r.values) dual.potentials = λ k r l.
    let row = d.potentials k r l in
    let values = (get_or dual.potentials k r).values in
    let from = (get_or dual.potentials k r).node in
    let node = rows-nodes net dual.potentials d.sources k r l in
    distances-are net lengths values from n far row.each (λ v b. distance-small net lengths from v (get_or values v 0) n long node (row.each v b)) in
    let k = get_or net.commodities 0 no_commodity in
    let fits : IsCommodity net.nodes k = n.commodities 0 no_commodity n.some in
    let row = source-row net lengths (IsDistance net.cells lengths) dual 0 no_commodity n d n.some in
    let apart = distance-positive net lengths k row.0 long fits row.2 row.3 in
    shows net lengths (IsDistance net.cells lengths) dual long.count d potentials
    (weighted-positive net.commodities dual.potentials 0 no_commodity n.some fits.positive (omega (arith, apart, distance-by dual.potentials k row.0 row.1)))

-- the dual of a cut
pub cut-shows : (net : Network) (dual : DualRows) → IsNetwork net → HasCut net → IsCutDual net dual → ShowsBound net (cut_lengths net.cells) dual
cut-shows net dual n cut d =
    let lengths = cut_lengths net.cells in
    let potentials : All (λ (r : Potential). IsPotential net.cells lengths r.values) dual.potentials = λ k r l. marks-are net (get_or dual.potentials k r).values (get_or dual.potentials k r).node n (d.potentials k r l).each in
    let i = cut.0 in
    let x = cut.1 in
    let k = get_or net.commodities i x in
    let fits : IsCommodity net.nodes k = n.commodities i x cut.2 in
    let off : IsCutOff net.cells k.from k.to = subst (λ (y : Commodity). IsCutOff net.cells y.from y.to) (sym cut.3) cut.4 in
    let row = source-row net lengths (IsCutPotential net.cells) dual i x n d cut.2 in
    let apart = cut-positive net k row.0 fits off row.2 row.3 in
    shows net lengths (IsCutPotential net.cells) dual (length-map net.cells (λ (cell : Cell). cond {A = ℕ} (eqb cell.cap 0) 1 0)) d potentials
    (weighted-positive net.commodities dual.potentials i x cut.2 fits.positive (omega (arith, apart, distance-by dual.potentials k row.0 row.1)))
