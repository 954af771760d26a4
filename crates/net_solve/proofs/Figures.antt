-- The fractions of a certificate, their parts and the whole numbers that are printed of them.
use Rattle.std.proofs.Common.{◌≡◌, ℕ, zero, suc, ◌+◌, ◌-◌, ◌*◌, ◌/◌, ◌<◌, ◌≤◌, Bool, true, false, cond, eqb, List, [], ◌∷◌, Some, length, get_or, ap, arith}
use Rattle.std.specs.Prelude.{All, find}
use Rattle.std.specs.List.{sum_by, range_with_len}
use Rattle.std.specs.Option.{option_map_or}
use Rattle.std.proofs.Math.Nat.{div-le_self, div-le_of_le-mul, mul-le-mul, mul-le-mul_left, mul-le-mul_right}
use Rattle.std.proofs.lemmas.List.Sums.{sum_by-cons, sum_by-le}
use Rattle.std.proofs.lemmas.List.Elements.{All-head, All-tail, All-map, All-weaker}
use Rattle.mcf_limits.specs.declared.TheConstants.{MAX_CELLS, MAX_LENGTH, MAX_PHASES, MAX_TOTAL, MAX_UNITS}
use Rattle.flow_model.specs.declared.net.Cell.{Cell}
use Rattle.flow_model.specs.declared.net.Commodity.{Commodity}
use Rattle.flow_model.specs.Network.{Network, IsNetwork, IsCell}
use Rattle.flow_model.specs.Bound.{weighted_sum}
use Rattle.gap_fraction.specs.declared.fraction.TheConstants.{MAX_PART}
use Rattle.gap_fraction.specs.Fraction.{Fraction}
use Rattle.gap_fraction.specs.Decimals.{millionths_down, millionths_up}
use Rattle.flow_paths.specs.DualRows.{Length, Potential, DualRows}
use Rattle.flow_paths.specs.declared.certificate.Printed.{Printed}
use Rattle.flow_paths.specs.declared.certificate.Routing.{Routing}
use Rattle.flow_paths.specs.Certificate.{length_of, lengths_in, distance_of, distances_in, lower_of, upper_of, IsPrinted, IsRoutingOf}
use Rattle.cert_lines.specs.Spelling.{FitsValue}

-- the numbers of a dual are within the limit
pub record AreSmall (dual : DualRows) : Type 0 where
  pub lengths : All (λ (r : Length). r.value ≤ MAX_LENGTH) dual.lengths
  pub potentials : All (λ (r : Potential). All (λ p. p ≤ MAX_LENGTH) r.values) dual.potentials

-- ---- what is looked up in rows

pub found-small : {X : Type 0} (p : X → Bool) (g : X → ℕ) (m : ℕ) (rows : List X) → All (λ x. g x ≤ m) rows → option_map_or g (find p rows) 0 ≤ m
found-small p g m [] h = omega arith
found-small p g m (x ∷ rows) h = go (p x) (found-small p g m rows (All-tail (λ y. g y ≤ m) x rows h))
  where
    go : (b : Bool) → option_map_or g (find p rows) 0 ≤ m → option_map_or g (cond b (Some x) (find p rows)) 0 ≤ m
    go true rest = All-head (λ y. g y ≤ m) x rows h
    go false rest = rest

pub lengths-small : (net : Network) (dual : DualRows) → All (λ (r : Length). r.value ≤ MAX_LENGTH) dual.lengths → All (λ n. n ≤ MAX_LENGTH) (lengths_in net dual)
lengths-small net dual small = All-map (λ n. n ≤ MAX_LENGTH) (length_of dual.lengths) (range_with_len 0 (length net.cells)) (λ i d l. found-small (λ (r : Length). eqb r.cell (get_or (range_with_len 0 (length net.cells)) i d)) (λ (r : Length). r.value) MAX_LENGTH dual.lengths small)

pub value-small : (values : List ℕ) (i : ℕ) → All (λ p. p ≤ MAX_LENGTH) values → get_or values i 0 ≤ MAX_LENGTH
value-small [] i h = omega arith
value-small (x ∷ values) zero h = All-head (λ p. p ≤ MAX_LENGTH) x values h
value-small (x ∷ values) (suc i) h = value-small values i (All-tail (λ p. p ≤ MAX_LENGTH) x values h)

distances-small : (net : Network) (dual : DualRows) → AreSmall dual → All (λ n. n ≤ MAX_LENGTH) (distances_in net dual)
distances-small net dual small = All-map (λ n. n ≤ MAX_LENGTH) (distance_of dual.potentials) net.commodities (λ i d l.
    let k = get_or net.commodities i d in
    found-small (λ (r : Potential). eqb r.node k.from) (λ (r : Potential). get_or r.values k.to 0 - get_or r.values k.from 0) MAX_LENGTH dual.potentials
    (All-weaker (λ (r : Potential). All (λ p. p ≤ MAX_LENGTH) r.values) (λ (r : Potential). get_or r.values k.to 0 - get_or r.values k.from 0 ≤ MAX_LENGTH) (λ r h. omega (arith, value-small r.values k.to h)) dual.potentials small.potentials))

-- ---- sums

pub weighted-small : {X : Type 0} (f : X → ℕ) (m : ℕ) (xs : List X) (ys : List ℕ) → All (λ y. y ≤ m) ys → weighted_sum f xs ys ≤ sum_by f xs * m
weighted-small f m [] ys h = omega arith
weighted-small f m (x ∷ xs) [] h = omega arith
weighted-small f m (x ∷ xs) (y ∷ ys) h =
    let first : f x * y ≤ f x * m = mul-le-mul_left (f x) (All-head (λ z. z ≤ m) y ys h) in
    let rest = weighted-small f m xs ys (All-tail (λ z. z ≤ m) y ys h) in
    let whole : sum_by f (x ∷ xs) * m ≡ (f x + sum_by f xs) * m = ap (λ n. n * m) (sum_by-cons f x xs) in
    omega arith

pub capacities-small : (net : Network) → IsNetwork net → sum_by (λ (cell : Cell). cell.cap) net.cells ≤ MAX_CELLS * MAX_UNITS
capacities-small net n =
    let sum = sum_by-le (λ (cell : Cell). cell.cap) MAX_UNITS net.cells (All-weaker (IsCell net.nodes) (λ (cell : Cell). cell.cap ≤ MAX_UNITS) (λ cell h. h.cap) net.cells n.cells) in
    let most : length net.cells * MAX_UNITS ≤ MAX_CELLS * MAX_UNITS = mul-le-mul_right MAX_UNITS n.cell_count in
    omega arith

-- the volume is at most 2 ^ 119, the weighted distance at most 2 ^ 108
upper-parts : (net : Network) (dual : DualRows) → IsNetwork net → AreSmall dual → ((upper_of net dual).num ≤ MAX_PART) × ((upper_of net dual).den ≤ MAX_PART)
upper-parts net dual n small =
    let num = weighted-small (λ (cell : Cell). cell.cap) MAX_LENGTH net.cells (lengths_in net dual) (lengths-small net dual small.lengths) in
    let den = weighted-small (λ (k : Commodity). k.amount) MAX_LENGTH net.commodities (distances_in net dual) (distances-small net dual small) in
    let caps : sum_by (λ (cell : Cell). cell.cap) net.cells * MAX_LENGTH ≤ MAX_CELLS * MAX_UNITS * MAX_LENGTH = mul-le-mul_right MAX_LENGTH (capacities-small net n) in
    let amounts : sum_by (λ (k : Commodity). k.amount) net.commodities * MAX_LENGTH ≤ MAX_TOTAL * MAX_LENGTH = mul-le-mul_right MAX_LENGTH n.total in
    (omega arith, omega arith)

-- ---- whole numbers

-- what is printed, whole and millionths, is no more than the numerator
pub down-small : (w m : ℕ) (f : Fraction) → w * 1000000 + m ≡ millionths_down f → w ≤ f.num
down-small w m f e = omega (arith, div-le_self (f.num * 1000000) f.den)

pub up-small : (w m : ℕ) (f : Fraction) → w * 1000000 + m ≡ millionths_up f → 1 ≤ f.den → w ≤ f.num
up-small w m f e positive = omega (arith, up f.num f.den positive)
  where
    up : (n d : ℕ) → 1 ≤ d → (n * 1000000 + (d - 1)) / d ≤ n * 1000000 + 1
    up n zero l = absurd (omega arith)
    up n (suc d) l =
        let one : 1 ≤ suc d = l in
        let part : n * 1000000 * 1 ≤ n * 1000000 * suc d = mul-le-mul_left (n * 1000000) one in
        div-le_of_le-mul (suc d) (omega arith)

pub lower-fits : (net : Network) (r : Routing) (p : Printed) → IsRoutingOf net r → IsPrinted p (lower_of r) (millionths_down (lower_of r)) → p.micro < 1000000 → FitsValue MAX_LENGTH p
lower-fits net r p limits printed micro =
    let most : r.phases * r.scale_cap ≤ MAX_PHASES * MAX_UNITS = mul-le-mul limits.phases limits.scale_cap in
    let small = down-small p.whole p.micro (lower_of r) printed.decimals in
    record {
      num = omega (arith, printed.num);
      den = omega (arith, printed.den, limits.scale_load);
      whole = omega arith;
      micro = micro;
    }

pub upper-fits : (net : Network) (dual : DualRows) (p : Printed) → IsNetwork net → AreSmall dual → 1 ≤ (upper_of net dual).den → IsPrinted p (upper_of net dual) (millionths_up (upper_of net dual)) → p.micro < 1000000 → FitsValue MAX_PART p
upper-fits net dual p n small positive printed micro =
    let parts = upper-parts net dual n small in
    let whole = up-small p.whole p.micro (upper_of net dual) printed.decimals positive in
    record {
      num = omega (arith, printed.num, parts.0);
      den = omega (arith, printed.den, parts.1);
      whole = omega arith;
      micro = micro;
    }
