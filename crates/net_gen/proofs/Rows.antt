-- Rows of whole numbers within the limits.
use Rattle.std.proofs.Common.{◌≡◌, ◌≢◌, ℕ, ◌*◌, ◌%◌, ◌≤◌, ◌^◌, true, false, List, [], ◌∷◌, map, nat_lt, refl, ap, ◌∙◌, arith}
use Rattle.std.specs.Prelude.{◌==◌, ◌||◌, codes, Some}
use Rattle.std.specs.Fmt.{decimal}
use Rattle.std.specs.List.{list_any}
use Rattle.std.specs.Option.{is_some}
use Rattle.sndlib_grammar.specs.Number.{number_of}
use Rattle.std.proofs.lemmas.Bool.Decides.{nat_tests}
use Rattle.flow_model.specs.declared.net.Commodity.{Commodity}
use Rattle.unit_scale.specs.declared.modes.ModuleMode.{ModuleMode}
use Rattle.unit_scale.specs.declared.modes.ModuleMode.TheVariants.{Ignore, Largest, Sum}
use Rattle.sndlib_grammar.specs.Rows.{NetLink, NetDemand}
use Rattle.unit_scale.specs.Units.{most}
use Rattle.unit_scale.specs.Sizes.{value, is_fine, is_over, every_other, looked_at, added, capacity, product, amount, counted, in_units, serves, is_fine_link, is_fine_demand, is_left_out}
use Rattle.unit_scale.specs.Scaling.{is_large_link, counted_units, commodity_of, has_hops}
use Rattle.net_gen.proofs.Words.{value_is, not_fine, not_over, nat_lt-false}

-- a link that is not refused, with a whole number of units as its capacity
pub record IsWholeLink (mode : ModuleMode) (l : NetLink) : Type 0 where
  pub fine : is_fine_link mode l ≡ false
  pub large : is_large_link mode 0 l ≡ false
  pub whole : serves 0 (capacity mode l) ≡ true

-- a demand that is kept, with a small whole number of units as its amount, and no limit on its paths
pub record IsWholeDemand (d : NetDemand) : Type 0 where
  pub fine : is_fine_demand d ≡ false
  pub over : (is_over d.unit || is_over d.value) ≡ false
  pub few : counted_units 0 d ≤ 10
  pub kept : is_left_out d ≡ false
  pub whole : serves 0 (counted d) ≡ true
  pub free : has_hops d ≡ false

-- ---- links

looked : (mode : ModuleMode) (l : NetLink) → l.modules ≡ [] → looked_at mode l ≡ l.installed ∷ []
looked Ignore l e = refl
looked Largest l e = ap (λ (ms : List (List ℕ)). l.installed ∷ every_other ms) e
looked Sum l e = ap (λ (ms : List (List ℕ)). l.installed ∷ every_other ms) e

none_added : (mode : ModuleMode) → added mode [] ≡ 0
none_added Ignore = refl
none_added Largest = refl
none_added Sum = refl

pub capacity_is : (mode : ModuleMode) (l : NetLink) (cap : ℕ) → l.installed ≡ decimal cap → l.modules ≡ [] → cap ≤ 10 ^ 9 → capacity mode l ≡ cap * 1000000
capacity_is mode l cap is none small =
    let more : added mode (map value (every_other l.modules)) ≡ 0 = ap (λ (ms : List (List ℕ)). added mode (map value (every_other ms))) none ∙ none_added mode in
    omega (arith, ap value is, value_is cap (omega arith), more)

whole_number : (n : ℕ) → serves 0 (n * 1000000) ≡ true
whole_number n = let zero : n * 1000000 % 1000000 ≡ 0 = omega arith in ap (λ (r : ℕ). r == 0) zero

pub units_are : (n : ℕ) → in_units 0 (n * 1000000) ≡ n
units_are n = omega arith

pub link_whole : (mode : ModuleMode) (l : NetLink) (cap : ℕ) → l.installed ≡ decimal cap → l.modules ≡ [] → cap ≤ 10 ^ 9 → IsWholeLink mode l
link_whole mode l cap is none small =
    let seen : looked_at mode l ≡ decimal cap ∷ [] = looked mode l none ∙ ap (λ (w : List ℕ). w ∷ []) is in
    let size = capacity_is mode l cap is none small in
    let fits : nat_lt most (in_units 0 (capacity mode l)) ≡ false = nat_lt-false most (in_units 0 (capacity mode l)) (omega (arith, ap (in_units 0) size, units_are cap)) in
    record {
      fine = ap (list_any is_fine) seen ∙ rw (not_fine cap (omega arith)) refl;
      large = rw (fits) (rw (seen) (rw (not_over cap small) refl));
      whole = ap (serves 0) size ∙ whole_number cap;
    }

-- ---- demands

one_is : value (codes "1") ≡ 1000000
one_is = refl

one_fine : is_fine (codes "1") ≡ false
one_fine = refl

one_over : is_over (codes "1") ≡ false
one_over = refl

product_is : (d : NetDemand) (v : ℕ) → d.unit ≡ codes "1" → d.value ≡ decimal v → v ≤ 10 → product d ≡ v * 1000000 * 1000000
product_is d v one is few = ap (λ (u : ℕ). u * value d.value) (ap value one ∙ one_is) ∙ ap (λ (w : ℕ). 1000000 * w) (ap value is ∙ value_is v (omega arith)) ∙ omega arith

pub amount_is : (d : NetDemand) (v : ℕ) → d.unit ≡ codes "1" → d.value ≡ decimal v → v ≤ 10 → amount d ≡ v * 1000000
amount_is d v one is few = omega (arith, product_is d v one is few)

not_same : (n m : ℕ) → n ≢ m → (n == m) ≡ false
not_same n m h = grind (arith, nat_tests)

not_left : (d : NetDemand) (v : ℕ) → amount d ≡ v * 1000000 → 1 ≤ v → d.source ≢ d.target → is_left_out d ≡ false
not_left d v size some apart = rw (not_same (amount d) 0 (omega (arith, size)), not_same d.source d.target apart) refl

pub demand_whole : (d : NetDemand) (v : ℕ) → d.unit ≡ codes "1" → d.value ≡ decimal v → d.longest ≡ codes "UNLIMITED" → d.source ≢ d.target → 1 ≤ v → v ≤ 10 → IsWholeDemand d
demand_whole d v one is free apart some few =
    let size = amount_is d v one is few in
    let kept = not_left d v size some apart in
    let rest : product d % 10 ^ 6 ≡ 0 = omega (arith, product_is d v one is few) in
    let none : (product d % 10 ^ 6 == 0) ≡ true = ap (λ (r : ℕ). r == 0) rest in
    record {
      fine = rw (none) (rw (one, one_fine, is, not_fine v (omega arith)) refl);
      over = rw (one, one_over, is, not_over v (omega arith)) refl;
      few = rw (kept) (omega (arith, ap (in_units 0) size, units_are v));
      kept = kept;
      whole = rw (kept) (ap (serves 0) size ∙ whole_number v);
      free = ap (λ (w : List ℕ). is_some (number_of w)) free;
    }

pub commodity_is : (d : NetDemand) (v : ℕ) → d.unit ≡ codes "1" → d.value ≡ decimal v → d.source ≢ d.target → 1 ≤ v → v ≤ 10 → commodity_of 0 d ≡ Some (record { from = d.source; to = d.target; amount = v })
commodity_is d v one is apart some few =
    let size = amount_is d v one is few in
    let units : in_units 0 (amount d) ≡ v = ap (in_units 0) size ∙ units_are v in
    rw (not_left d v size some apart) (ap (λ (n : ℕ). Some (let k : Commodity = record { from = d.source; to = d.target; amount = n } in k)) units)
