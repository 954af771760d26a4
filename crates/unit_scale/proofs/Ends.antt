-- A short number is over the limit exactly where the number is.
use Rattle.std.proofs.Common.{◌≡◌, ℕ, ◌<◌, inl, inr, Option, Some, None, Err, arith, refl, ap, sym, ◌∙◌}
use Rattle.std.specs.Option.{option_map}
use Rattle.std.proofs.lemmas.Bool.{cases_lt}
use Rattle.std.proofs.lemmas.Bool.Decides.{nat_tests}
use Rattle.unit_scale.specs.declared.decimal.Decimal.TheVariants.{Huge}
use Rattle.unit_scale.specs.declared.decimal.UnitFault.TheVariants.{TooLarge}
use Rattle.unit_scale.specs.Short.{short}
use Rattle.unit_scale.specs.Units.{decimal_from, units_from}
use Rattle.unit_scale.proofs.ShortLaws.{short_low, short_high}

high_decimal : (n : ℕ) → 17592186044416000000 < n → decimal_from (Some n) ≡ Huge
high_decimal n h = grind (arith, nat_tests)

high_units : (n : ℕ) → 17592186044416000000 < n → units_from (Some n) ≡ Err TooLarge
high_units n h = grind (arith, nat_tests)

over : (n : ℕ) → 17592186044416000000 < n → 17592186044416000000 < short n
over n h = rw (short_high n h) (omega arith)

pub decimal-short : (m : Option ℕ) → decimal_from (option_map short m) ≡ decimal_from m
decimal-short None = refl
decimal-short (Some n) = elim (cases_lt 17592186044416000000 n) [
  | inl high ↦ high_decimal (short n) (over n high) ∙ sym (high_decimal n high)
  | inr low ↦ ap (λ x. decimal_from (Some x)) (short_low n low)
]

pub units-short : (m : Option ℕ) → units_from (option_map short m) ≡ units_from m
units-short None = refl
units-short (Some n) = elim (cases_lt 17592186044416000000 n) [
  | inl high ↦ high_units (short n) (over n high) ∙ sym (high_units n high)
  | inr low ↦ ap (λ x. units_from (Some x)) (short_low n low)
]
