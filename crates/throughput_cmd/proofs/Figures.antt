-- The fractions of a certificate of a total, their parts and the whole numbers that are printed of them.
use Rattle.std.proofs.Common.{◌≡◌, ℕ, zero, suc, ◌+◌, ◌-◌, ◌*◌, ◌/◌, ◌<◌, ◌≤◌, Bool, true, false, cond, eqb, List, [], ◌∷◌, Some, length, get_or, ap, arith}
use Rattle.std.specs.Prelude.{All, find}
use Rattle.std.specs.List.{sum_by, range_with_len}
use Rattle.std.specs.Option.{option_map_or}
use Rattle.std.proofs.Math.Nat.{div-le_self, div-le_of_le-mul, mul-le-mul_left, mul-le-mul_right}
use Rattle.std.proofs.lemmas.List.Sums.{sum_by-cons, sum_by-le}
use Rattle.std.proofs.lemmas.List.Elements.{All-head, All-tail, All-map, All-weaker}
use Rattle.mcf_limits.specs.declared.TheConstants.{MAX_CELLS, MAX_LENGTH, MAX_TOTAL, MAX_UNITS}
use Rattle.flow_model.specs.declared.net.Cell.{Cell}
use Rattle.flow_model.specs.declared.net.Commodity.{Commodity}
use Rattle.flow_model.specs.Network.{Network, IsNetwork, IsCell}
use Rattle.flow_model.specs.Bound.{weighted_sum}
use Rattle.gap_fraction.specs.declared.fraction.TheConstants.{MAX_PART}
use Rattle.gap_fraction.specs.Fraction.{Fraction}
use Rattle.gap_fraction.specs.Decimals.{millionths_down, millionths_up}
use Rattle.flow_paths.specs.DualRows.{Length, DualRows}
use Rattle.flow_paths.specs.declared.certificate.Printed.{Printed}
use Rattle.flow_paths.specs.declared.certificate.Routing.{Routing}
use Rattle.flow_paths.specs.Certificate.{length_of, lengths_in, distances_in, IsPrinted, IsRoutingOf}
use Rattle.cert_lines.specs.Spelling.{FitsValue}
use Rattle.net_solve.proofs.Figures.{found-small, lengths-small, weighted-small, capacities-small, down-small, up-small}
use Rattle.throughput.specs.declared.part_proof.PartDual.{PartDual}
use Rattle.throughput.specs.Partial.{excess, part_lower_of, part_upper_of}
use Rattle.throughput.specs.Conditions.{AmountsFit}
use Rattle.throughput.proofs.Totals.{scaled_total}

abbrev IsSmall : ℕ → Type 0
IsSmall n = n ≤ MAX_LENGTH

-- ---- what is looked up in rows

excess-small : (threshold : ℕ) (distances : List ℕ) → threshold ≤ MAX_LENGTH → All IsSmall (excess threshold distances)
excess-small threshold distances l = All-map IsSmall (λ distance. threshold - distance) distances (λ i d inside. omega arith)

-- ---- sums

-- the volume is at most 2 ^ 119, amounts times excess at most 2 ^ 108
upper-num : (net : Network) (b : PartDual) → IsNetwork net → All (λ (r : Length). r.value ≤ MAX_LENGTH) b.dual.lengths → b.threshold ≤ MAX_LENGTH → (part_upper_of net b).num ≤ MAX_PART
upper-num net b n small limit =
    let num = weighted-small (λ (cell : Cell). cell.cap) MAX_LENGTH net.cells (lengths_in net b.dual) (lengths-small net b.dual small) in
    let more = weighted-small (λ (k : Commodity). k.amount) MAX_LENGTH net.commodities (excess b.threshold (distances_in net b.dual)) (excess-small b.threshold (distances_in net b.dual) limit) in
    let caps : sum_by (λ (cell : Cell). cell.cap) net.cells * MAX_LENGTH ≤ MAX_CELLS * MAX_UNITS * MAX_LENGTH = mul-le-mul_right MAX_LENGTH (capacities-small net n) in
    let amounts : sum_by (λ (k : Commodity). k.amount) net.commodities * MAX_LENGTH ≤ MAX_TOTAL * MAX_LENGTH = mul-le-mul_right MAX_LENGTH n.total in
    omega arith

-- the lower fraction and what is printed of it fit their places
pub lower-fits : (net : Network) (r : Routing) (p : Printed) → IsNetwork net → IsRoutingOf net r → AmountsFit net r → IsPrinted p (part_lower_of r) (millionths_down (part_lower_of r)) → p.micro < 1000000 → FitsValue MAX_PART p
lower-fits net r p n limits amounts printed micro =
    let most = scaled_total net r n limits amounts in
    let small = down-small p.whole p.micro (part_lower_of r) printed.decimals in
    record {
      num = omega (arith, printed.num);
      den = omega (arith, printed.den, limits.scale_load);
      whole = omega arith;
      micro = micro;
    }

pub upper-fits : (net : Network) (b : PartDual) (p : Printed) → IsNetwork net → All (λ (r : Length). r.value ≤ MAX_LENGTH) b.dual.lengths → b.threshold ≤ MAX_LENGTH → 1 ≤ b.threshold
    → IsPrinted p (part_upper_of net b) (millionths_up (part_upper_of net b)) → p.micro < 1000000 → FitsValue MAX_PART p
upper-fits net b p n small limit positive printed micro =
    let most = upper-num net b n small limit in
    let whole = up-small p.whole p.micro (part_upper_of net b) printed.decimals positive in
    record {
      num = omega (arith, printed.num);
      den = omega (arith, printed.den);
      whole = omega arith;
      micro = micro;
    }
