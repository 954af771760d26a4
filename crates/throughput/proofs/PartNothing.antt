-- Where no commodity has a walk: the bound is 0.
use Rattle.std.proofs.Common.{◌≡◌, ℕ, ◌-◌, ◌*◌, ◌≤◌, List, [], ◌∷◌, get_or, map, Some, refl, sym, ap, ◌∙◌, subst, arith}
use Rattle.std.specs.Prelude.{All, slice_get}
use Rattle.std.proofs.lemmas.List.Elements.{All-head, All-tail}
use Rattle.std.proofs.lemmas.Option.{slice_get-get_or, get_or_from_slice_get}
use Rattle.flow_model.specs.declared.net.Commodity.{Commodity}
use Rattle.flow_model.specs.Network.{Network, IsNetwork}
use Rattle.flow_model.specs.Bound.{volume, weighted_distance}
use Rattle.flow_model.specs.Least.{IsCutOff}
use Rattle.flow_model.proofs.Duality.{no_commodity}
use Rattle.dijkstra_paths.specs.Reach.{IsFirstCut}
use Rattle.flow_paths.specs.DualRows.{Potential, DualRows}
use Rattle.flow_paths.specs.Certificate.{distance_of, distances_in, lengths_in}
use Rattle.dual_bound.specs.Bounds.{IsCutDual, IsCutPotential, IsRowWith, ShowsBound}
use Rattle.dual_bound.proofs.DualRows.{row-found}
use Rattle.dual_bound.proofs.Distances.{cut-positive, cut-volume, distance-by}
use Rattle.dual_bound.proofs.Bounding.{has-cut}
use Rattle.solver_run.proofs.Duals.{cut-shows}
use Rattle.throughput.specs.declared.part_proof.PartDual.{PartDual}
use Rattle.throughput.specs.Partial.{excess, part_upper_of}
use Rattle.throughput.specs.Run.{HasNoWalk}
use Rattle.throughput.proofs.Measuring.{named, source-one}

-- the first commodity has none
pub first-cut : (net : Network) → IsNetwork net → HasNoWalk net → IsFirstCut net 0
first-cut net n none = record {
  inside = n.some;
  cut = λ commodity at. subst (λ (x : Commodity). IsCutOff net.cells x.from x.to) (get_or_from_slice_get net.commodities 0 commodity no_commodity at) (none 0 no_commodity n.some);
  before = λ j commodity l at. absurd (omega arith);
}

pub nothing-shows : (net : Network) (dual : DualRows) → IsNetwork net → HasNoWalk net → IsCutDual net dual → ShowsBound net (lengths_in net dual) dual
nothing-shows net dual n none d =
    let shows = cut-shows net dual n (has-cut net 0 (first-cut net n none)) d in
    subst (λ (xs : List ℕ). ShowsBound net xs dual) (sym shows.lengths_are) shows

-- a threshold of 1 has nothing above a positive distance
none-above : (cs : List Commodity) (rows : List Potential) → All (λ k. 1 ≤ distance_of rows k) cs → weighted_distance cs (excess 1 (map (distance_of rows) cs)) ≡ 0
none-above [] rows h = refl
none-above (k ∷ cs) rows h =
    let far : 1 ≤ distance_of rows k = All-head (λ x. 1 ≤ distance_of rows x) k cs h in
    let over : 1 - distance_of rows k ≡ 0 = omega arith in
    let product : k.amount * (1 - distance_of rows k) ≡ k.amount * 0 = ap (λ (n : ℕ). k.amount * n) over in
    let rest = none-above cs rows (All-tail (λ x. 1 ≤ distance_of rows x) k cs h) in
    omega (arith, product, rest)

-- the bound of the cut with the threshold 1 is 0
pub nothing-bounds : (net : Network) (b : PartDual) → IsNetwork net → HasNoWalk net → b.threshold ≡ 1 → IsCutDual net b.dual → (part_upper_of net b).num ≡ 0
nothing-bounds net b n none one d =
    let rows = b.dual.potentials in
    let shows = cut-shows net b.dual n (has-cut net 0 (first-cut net n none)) d in
    let empty : volume net.cells (lengths_in net b.dual) ≡ 0 = ap (volume net.cells) shows.lengths_are ∙ cut-volume net.cells in
    let far : All (λ k. 1 ≤ distance_of rows k) net.commodities = λ i x l. (
    let k = get_or net.commodities i x in
    let at : slice_get net.commodities i ≡ Some k = slice_get-get_or net.commodities i x l in
    let row = row-found (IsRowWith net.nodes (IsCutPotential net.cells)) rows k.from d.potentials (source-one net b.dual i k n shows.sources at) in
    let apart = cut-positive net k row.0 (named net i k n at) (none i x l) row.2 row.3 in
    omega (arith, apart, distance-by rows k row.0 row.1)
    ) in
    let none_over : weighted_distance net.commodities (excess b.threshold (distances_in net b.dual)) ≡ 0 =
    ap (λ (t : ℕ). weighted_distance net.commodities (excess t (distances_in net b.dual))) one ∙ none-above net.commodities rows far in
    omega arith
