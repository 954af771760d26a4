-- The bound of a certificate with hop limits, its parts and the whole number that is printed of it.
use Rattle.std.proofs.Common.{◌≡◌, ℕ, zero, suc, ◌+◌, ◌-◌, ◌*◌, ◌/◌, ◌<◌, ◌≤◌, Bool, true, false, cond, eqb, List, [], ◌∷◌, Option, Some, None, length, get_or, ap, arith}
use Rattle.std.specs.Prelude.{◌&&◌, All, find}
use Rattle.std.specs.List.{sum_by, range_with_len, enumerate_from}
use Rattle.std.specs.Option.{option_map_or}
use Rattle.std.proofs.Math.Nat.{div-le_of_le-mul, mul-le-mul_left, mul-le-mul_right}
use Rattle.std.proofs.lemmas.List.Sums.{sum_by-cons, sum_by-le}
use Rattle.std.proofs.lemmas.List.Elements.{All-nil, All-head, All-tail, All-map, All-weaker}
use Rattle.mcf_limits.specs.declared.TheConstants.{MAX_CELLS, MAX_LENGTH, MAX_TOTAL, MAX_UNITS}
use Rattle.flow_model.specs.declared.net.Cell.{Cell}
use Rattle.flow_model.specs.declared.net.Commodity.{Commodity}
use Rattle.flow_model.specs.Network.{Network, IsNetwork, IsCell}
use Rattle.flow_model.specs.Bound.{weighted_sum}
use Rattle.gap_fraction.specs.declared.fraction.TheConstants.{MAX_PART}
use Rattle.gap_fraction.specs.Fraction.{Fraction}
use Rattle.gap_fraction.specs.Decimals.{millionths_up}
use Rattle.flow_paths.specs.DualRows.{Length, Potential}
use Rattle.flow_paths.specs.declared.certificate.Printed.{Printed}
use Rattle.flow_paths.specs.Certificate.{length_of, lengths_in, IsPrinted}
use Rattle.cert_lines.specs.Spelling.{FitsValue}
use Rattle.net_solve.proofs.Figures.{found-small, lengths-small, value-small, weighted-small, capacities-small, up-small}
use Rattle.hop_paths.specs.Allowed.{limit_at}
use Rattle.hop_check.specs.LayerRows.{Layer}
use Rattle.hop_check.specs.Layers.{HopDual, hop_distance, hop_distances, hop_upper_of, layer_in}

abbrev IsSmall : ℕ → Type 0
IsSmall n = n ≤ MAX_LENGTH

-- the numbers of a dual are within the limit
pub record AreSmall (d : HopDual) : Type 0 where
  pub lengths : All (λ (r : Length). r.value ≤ MAX_LENGTH) d.dual.lengths
  pub potentials : All (λ (r : Potential). All (λ p. p ≤ MAX_LENGTH) r.values) d.dual.potentials
  pub layers : All (λ (r : Layer). All (λ p. p ≤ MAX_LENGTH) r.values) d.layers

-- ---- what is looked up in rows

found-values : (p : Layer → Bool) (rows : List Layer) → All (λ (r : Layer). All IsSmall r.values) rows → All IsSmall (option_map_or (λ (r : Layer). r.values) (find p rows) [])
found-values p [] h = All-nil IsSmall
found-values p (x ∷ rows) h = go (p x) (found-values p rows (All-tail (λ (r : Layer). All IsSmall r.values) x rows h))
  where
    go : (b : Bool) → All IsSmall (option_map_or (λ (r : Layer). r.values) (find p rows) []) → All IsSmall (option_map_or (λ (r : Layer). r.values) (cond b (Some x) (find p rows)) [])
    go true rest = All-head (λ (r : Layer). All IsSmall r.values) x rows h
    go false rest = rest

distance-small : (d : HopDual) (limit : Option ℕ) (k : Commodity) → AreSmall d → hop_distance d limit k ≤ MAX_LENGTH
distance-small d None k small =
    found-small (λ (r : Potential). eqb r.node k.from) (λ (r : Potential). get_or r.values k.to 0 - get_or r.values k.from 0) MAX_LENGTH d.dual.potentials
    (All-weaker (λ (r : Potential). All IsSmall r.values) (λ (r : Potential). get_or r.values k.to 0 - get_or r.values k.from 0 ≤ MAX_LENGTH) (λ r h. omega (arith, value-small r.values k.to h)) d.dual.potentials small.potentials)
distance-small d (Some n) k small =
    let above = value-small (layer_in d.layers k.from n) k.to (found-values (λ (r : Layer). eqb r.node k.from && eqb r.index n) d.layers small.layers) in
    omega (arith, above)

distances-small : (net : Network) (limits : List (Option ℕ)) (d : HopDual) → AreSmall d → All IsSmall (hop_distances net limits d)
distances-small net limits d small = All-map IsSmall (λ (k : ℕ × Commodity). hop_distance d (limit_at limits k.0) k.1) (enumerate_from 0 net.commodities) (λ i x l. distance-small d (limit_at limits (get_or (enumerate_from 0 net.commodities) i x).0) (get_or (enumerate_from 0 net.commodities) i x).1 small)

-- ---- sums

-- the volume is at most 2 ^ 119, the weighted distance at most 2 ^ 108
upper-parts : (net : Network) (limits : List (Option ℕ)) (d : HopDual) → IsNetwork net → AreSmall d → ((hop_upper_of net limits d).num ≤ MAX_PART) × ((hop_upper_of net limits d).den ≤ MAX_PART)
upper-parts net limits d n small =
    let num = weighted-small (λ (cell : Cell). cell.cap) MAX_LENGTH net.cells (lengths_in net d.dual) (lengths-small net d.dual small.lengths) in
    let den = weighted-small (λ (k : Commodity). k.amount) MAX_LENGTH net.commodities (hop_distances net limits d) (distances-small net limits d small) in
    let caps : sum_by (λ (cell : Cell). cell.cap) net.cells * MAX_LENGTH ≤ MAX_CELLS * MAX_UNITS * MAX_LENGTH = mul-le-mul_right MAX_LENGTH (capacities-small net n) in
    let amounts : sum_by (λ (k : Commodity). k.amount) net.commodities * MAX_LENGTH ≤ MAX_TOTAL * MAX_LENGTH = mul-le-mul_right MAX_LENGTH n.total in
    (omega arith, omega arith)

-- what is printed, whole and millionths, is no more than the numerator
pub upper-fits : (net : Network) (limits : List (Option ℕ)) (d : HopDual) (p : Printed) → IsNetwork net → AreSmall d → 1 ≤ (hop_upper_of net limits d).den
    → IsPrinted p (hop_upper_of net limits d) (millionths_up (hop_upper_of net limits d)) → p.micro < 1000000 → FitsValue MAX_PART p
upper-fits net limits d p n small positive printed micro =
    let parts = upper-parts net limits d n small in
    let whole = up-small p.whole p.micro (hop_upper_of net limits d) printed.decimals positive in
    record {
      num = omega (arith, printed.num, parts.0);
      den = omega (arith, printed.den, parts.1);
      whole = omega arith;
      micro = micro;
    }
