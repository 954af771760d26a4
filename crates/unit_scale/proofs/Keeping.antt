-- The loop over demands that keeps the commodities.
use Rattle.std.proofs.Common.{◌≡◌, ℕ, ◌+◌, ◌-◌, ◌/◌, ◌^◌, ◌≤◌, ◌<◌, List, [], ◌∷◌, ◌++◌, length, drop, get_or, Some, None, true, false, Bool, arith, refl, ap, sym, ◌∙◌, ◌||◌, if◌then◌else◌, nat_lt, count_by, append_assoc, append-nil}
use Rattle.std.specs.List.{filter_map}
use Rattle.std.proofs.lemmas.List.Sums.{sum_by-cons}
use Rattle.std.proofs.lemmas.List.{drop_more, drop_all}
use Rattle.mcf_limits.specs.declared.TheConstants.{MAX_TOTAL, MAX_UNITS}
use Rattle.flow_model.specs.declared.net.Commodity.{Commodity}
use Rattle.sndlib_grammar.specs.Rows.{NetDemand, no_demand}
use Rattle.sndlib_grammar.specs.declared.refusal.NetKind.TheVariants.{TooLarge}
use Rattle.unit_scale.specs.Scaling.{first_large, is_large_demand, counted_units, commodity_of, kept_from}
use Rattle.unit_scale.specs.Sizes.{is_left_out, is_over, amount, in_units}
use Rattle.unit_scale.specs.Seen.{SeenDemand, seen_amount, seen_demand, size_units, size_is_large}
use Rattle.unit_scale.specs.Stages.{Faulted, AreDemandSizes, KeptSofar, with_demand, IsKept, kept_view}
use Rattle.unit_scale.specs.declared.commodities.Kept.{Kept}
use Rattle.unit_scale.specs.declared.demands.DemandSize.{DemandSize}
use Rattle.unit_scale.specs.declared.refusal.ScaleEnd.{ScaleEnd}
use Rattle.unit_scale.specs.declared.refusal.ScaleEnd.TheVariants.{Refused}
use Rattle.unit_scale.proofs.CellSteps.{seen_at, same_length}

pub record InKept (s : ℕ) (demands : List NetDemand) (zs : List DemandSize) (i end unit total : ℕ) (k : KeptSofar) : Type 0 where
  pub all : end ≡ length demands
  pub unit_is : unit ≡ 10 ^ (6 - s)
  pub sizes : AreDemandSizes demands zs
  pub count : length zs ≡ length demands
  pub passed : first_large s total (drop i demands) ≡ first_large s 0 demands
  pub commodities : k.commodities ++ filter_map (commodity_of s) (drop i demands) ≡ filter_map (commodity_of s) demands
  pub rows : k.rows ++ kept_from i (drop i demands) ≡ kept_from 0 demands
  pub left : k.left + count_by is_left_out (drop i demands) ≡ count_by is_left_out demands
  pub few : k.left ≤ i
  pub within : total ≤ MAX_TOTAL

abbrev pub no_amount : DemandSize
no_amount = record { millionths = 0; over = false; left = false }

pub kept_begins : (s : ℕ) (demands : List NetDemand) (zs : List DemandSize) (end unit : ℕ) → end ≡ length demands → unit ≡ 10 ^ (6 - s) → AreDemandSizes demands zs → InKept s demands zs 0 end unit 0 (record { commodities = []; rows = []; left = 0 })
kept_begins s demands zs end unit all is sizes = record {
  all = all;
  unit_is = is;
  sizes = sizes;
  count = same_length seen_amount seen_demand zs demands sizes.seen;
  passed = refl;
  commodities = refl;
  rows = refl;
  left = omega arith;
  few = omega arith;
  within = omega arith;
}

exact_units : (a b l m : Bool) (n k unit : ℕ) → a ≡ b → l ≡ m → (if a then 0 else n) ≡ (if b then 0 else k) → a ≡ false → (if l then 0 else n / unit) ≡ (if m then 0 else k / unit)
exact_units true b l m n k unit e f x z = cc
exact_units false true l m n k unit e f x z = cc
exact_units false false l m n k unit e f x z = ap (λ (c : Bool). if c then 0 else n / unit) f ∙ ap (λ (y : ℕ). if m then 0 else y / unit) x

-- what is seen of a size tells its units
pub units_same : (s unit : ℕ) (z : DemandSize) (d : NetDemand) → seen_amount z ≡ seen_demand d → unit ≡ 10 ^ (6 - s) → z.over ≡ false → size_units z unit ≡ counted_units s d
units_same s unit z d e u fine =
    exact_units z.over (is_over d.unit || is_over d.value) z.left (is_left_out d) z.millionths (amount d) unit (ap (λ (x : SeenDemand). x.size.over) e) (ap (λ (x : SeenDemand). x.left) e) (ap (λ (x : SeenDemand). x.size.exact) e) fine
    ∙ ap (λ (k : ℕ). if is_left_out d then 0 else amount d / k) u

large_same : (s unit total : ℕ) (z : DemandSize) (d : NetDemand) (b : Bool) → z.over ≡ b → seen_amount z ≡ seen_demand d → unit ≡ 10 ^ (6 - s) → size_is_large z unit total ≡ is_large_demand s total d
large_same s unit total z d true over e u =
    let same : z.over ≡ (is_over d.unit || is_over d.value) = ap (λ (x : SeenDemand). x.size.over) e in
    ap (λ (b : Bool). b || (nat_lt MAX_UNITS (size_units z unit) || nat_lt MAX_TOTAL (total + size_units z unit))) over ∙ sym (ap (λ (b : Bool). b || (nat_lt MAX_UNITS (counted_units s d) || nat_lt MAX_TOTAL (total + counted_units s d))) (sym same ∙ over))
large_same s unit total z d false over e u =
    let same : z.over ≡ (is_over d.unit || is_over d.value) = ap (λ (x : SeenDemand). x.size.over) e in
    ap (λ (b : Bool). b || (nat_lt MAX_UNITS (size_units z unit) || nat_lt MAX_TOTAL (total + size_units z unit))) same
    ∙ ap (λ (n : ℕ). (is_over d.unit || is_over d.value) || (nat_lt MAX_UNITS n || nat_lt MAX_TOTAL (total + n))) (units_same s unit z d e u over)

or_first : (a b : Bool) → (a || b) ≡ false → a ≡ false
or_first true b h = cc
or_first false b h = refl

front : (demands : List NetDemand) (i : ℕ) (d : NetDemand) → i < length demands → d ≡ get_or demands i no_demand → drop i demands ≡ d ∷ drop (i + 1) demands
front demands i d lt is = drop_more demands i no_demand lt ∙ ap (λ (x : NetDemand). x ∷ drop (i + 1) demands) (sym is)

pub kept_seen : (demands : List NetDemand) (zs : List DemandSize) (i : ℕ) (z : DemandSize) (d : NetDemand) → AreDemandSizes demands zs → i < length demands → z ≡ get_or zs i no_amount → d ≡ get_or demands i no_demand → seen_amount z ≡ seen_demand d
kept_seen demands zs i z d sizes lt ez ed = ap seen_amount ez ∙ seen_at seen_amount seen_demand zs demands i no_amount no_demand sizes.seen lt ∙ ap seen_demand (sym ed)

pub kept_found : (s : ℕ) (demands : List NetDemand) (zs : List DemandSize) (i end unit total : ℕ) (k : KeptSofar) (z : DemandSize) (d : NetDemand) (r : ScaleEnd) → InKept s demands zs i end unit total k → i < end → z ≡ get_or zs i no_amount → d ≡ get_or demands i no_demand → size_is_large z unit total ≡ true → r ≡ Refused (record { line = d.line; kind = TooLarge }) → Faulted TooLarge (first_large s 0 demands) r
kept_found s demands zs i end unit total k z d r v h ez ed large is =
    let lt : i < length demands = omega (arith, v.all, h) in
    let seen = kept_seen demands zs i z d v.sizes lt ez ed in
    let big : is_large_demand s total d ≡ true = sym (large_same s unit total z d z.over refl seen v.unit_is) ∙ large in
    let e : first_large s 0 demands ≡ Some d.line = sym v.passed ∙ ap (first_large s total) (front demands i d lt ed) ∙ ap (λ (b : Bool). if b then Some d.line else first_large s (total + counted_units s d) (drop (i + 1) demands)) big in
    rw (is, e) refl

count_cons : (p : NetDemand → Bool) (d : NetDemand) (ds : List NetDemand) (b : Bool) → p d ≡ b → count_by p (d ∷ ds) ≡ (if b then 1 else 0) + count_by p ds
count_cons p d ds b e = sum_by-cons (λ (x : NetDemand). if p x then 1 else 0) d ds ∙ ap (λ (c : Bool). (if c then 1 else 0) + count_by p ds) e

-- one demand more
step_of : (s i total n : ℕ) (d : NetDemand) (ds demands : List NetDemand) (k : KeptSofar) (b : Bool) → is_left_out d ≡ b → n ≡ counted_units s d
    → k.commodities ++ filter_map (commodity_of s) (d ∷ ds) ≡ filter_map (commodity_of s) demands → k.rows ++ kept_from i (d ∷ ds) ≡ kept_from 0 demands → k.left + count_by is_left_out (d ∷ ds) ≡ count_by is_left_out demands
    → ((with_demand b (record { from = d.source; to = d.target; amount = n }) i k).commodities ++ filter_map (commodity_of s) ds ≡ filter_map (commodity_of s) demands) × ((with_demand b (record { from = d.source; to = d.target; amount = n }) i k).rows ++ kept_from (i + 1) ds ≡ kept_from 0 demands) × ((with_demand b (record { from = d.source; to = d.target; amount = n }) i k).left + count_by is_left_out ds ≡ count_by is_left_out demands)
step_of s i total n d ds demands k true e units c r l =
    let c1 = rw e at c in
    let r1 = rw e at r in
    let l1 = count_cons is_left_out d ds true e in
    (c1, r1, (let sum : k.left + 1 + count_by is_left_out ds ≡ count_by is_left_out demands = omega (arith, l, l1) in sum))
step_of s i total n d ds demands k false e units c r l =
    let c1 = rw e at c in
    let r1 = rw e at r in
    let u : n ≡ in_units s (amount d) = units ∙ ap (λ (b : Bool). if b then 0 else in_units s (amount d)) e in
    let l1 = count_cons is_left_out d ds false e in (
      append_assoc k.commodities (record { from = d.source; to = d.target; amount = n } ∷ []) (filter_map (commodity_of s) ds) ∙ ap (λ (m : ℕ). k.commodities ++ record { from = d.source; to = d.target; amount = m } ∷ filter_map (commodity_of s) ds) u ∙ c1,
      append_assoc k.rows (i ∷ []) (kept_from (i + 1) ds) ∙ r1,
      (let sum : k.left + count_by is_left_out ds ≡ count_by is_left_out demands = omega (arith, l, l1) in sum),
    )

few_more : (b : Bool) (k : KeptSofar) (c : Commodity) (i : ℕ) → k.left ≤ i → (with_demand b c i k).left ≤ i + 1
few_more true k c i h = omega arith
few_more false k c i h = omega arith

pub kept_step : (s : ℕ) (demands : List NetDemand) (zs : List DemandSize) (i end unit total n : ℕ) (k : KeptSofar) (z : DemandSize) (d : NetDemand) → InKept s demands zs i end unit total k → i < end → z ≡ get_or zs i no_amount → d ≡ get_or demands i no_demand → size_is_large z unit total ≡ false → n ≡ size_units z unit → total + n ≤ MAX_TOTAL
    → InKept s demands zs (i + 1) end unit (total + n) (with_demand z.left (record { from = d.source; to = d.target; amount = n }) i k)
kept_step s demands zs i end unit total n k z d v h ez ed large is within =
    let lt : i < length demands = omega (arith, v.all, h) in
    let seen = kept_seen demands zs i z d v.sizes lt ez ed in
    let small : is_large_demand s total d ≡ false = sym (large_same s unit total z d z.over refl seen v.unit_is) ∙ large in
    let units : n ≡ counted_units s d = is ∙ units_same s unit z d seen v.unit_is (or_first z.over _ large) in
    let at = front demands i d lt ed in
    let left : is_left_out d ≡ z.left = sym (ap (λ (x : SeenDemand). x.left) seen) in
    let three = step_of s i total n d (drop (i + 1) demands) demands k z.left left units
    (ap (λ (ds : List NetDemand). k.commodities ++ filter_map (commodity_of s) ds) (sym at) ∙ v.commodities)
    (ap (λ (ds : List NetDemand). k.rows ++ kept_from i ds) (sym at) ∙ v.rows)
    (ap (λ (ds : List NetDemand). k.left + count_by is_left_out ds) (sym at) ∙ v.left) in
    let e : first_large s total (drop i demands) ≡ first_large s (total + n) (drop (i + 1) demands) =
    ap (first_large s total) at ∙ ap (λ (b : Bool). if b then Some d.line else first_large s (total + counted_units s d) (drop (i + 1) demands)) small ∙ ap (λ (m : ℕ). first_large s (total + m) (drop (i + 1) demands)) (sym units) in
    record {
      all = v.all;
      unit_is = v.unit_is;
      sizes = v.sizes;
      count = v.count;
      passed = sym e ∙ v.passed;
      commodities = three.0;
      rows = three.1;
      left = three.2;
      few = few_more z.left k (record { from = d.source; to = d.target; amount = n }) i v.few;
      within = within;
    }

pub kept_ends : (s : ℕ) (demands : List NetDemand) (zs : List DemandSize) (i end unit total : ℕ) (k : Kept) → InKept s demands zs i end unit total (kept_view k) → end ≤ i → (first_large s 0 demands ≡ None) × IsKept s demands k
kept_ends s demands zs i end unit total k v h =
    let le : length demands ≤ i = omega (arith, v.all, h) in
    let none : drop i demands ≡ [] = drop_all i demands le in (
      sym v.passed ∙ ap (first_large s total) none,
      record {
        commodities = sym (append-nil k.commodities.items) ∙ ap (λ (ds : List NetDemand). k.commodities.items ++ filter_map (commodity_of s) ds) (sym none) ∙ v.commodities;
        rows = sym (append-nil k.rows.items) ∙ ap (λ (ds : List NetDemand). k.rows.items ++ kept_from i ds) (sym none) ∙ v.rows;
        left = (let zero = ap (count_by is_left_out) none in omega (arith, v.left, zero));
      },
    )
