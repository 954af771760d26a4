-- Words and their values, by computing.
use Rattle.std.specs.Prelude.{◌≡◌, ℕ, codes, Some, None, Option, Ok, Err, refl, List, []}
use Rattle.sndlib_grammar.specs.Number.{number_of}
use Rattle.unit_scale.specs.Units.{decimal_of, units_read}
use Rattle.unit_scale.specs.declared.decimal.Decimal.{Decimal}
use Rattle.unit_scale.specs.declared.decimal.Decimal.TheVariants.{Millionths, Fine, Huge}
use Rattle.unit_scale.specs.declared.decimal.UnitFault.TheVariants.{TooFine, TooLarge}

abbrev read : List ℕ → Option Decimal
read word = decimal_of (number_of word)

a1 : read (codes "1000.00") ≡ Some (Millionths 1000000000)
a1 = refl

a2 : read (codes ".5") ≡ Some (Millionths 500000)
a2 = refl

a3 : read (codes "5.") ≡ Some (Millionths 5000000)
a3 = refl

a4 : read (codes "1.0E3") ≡ Some (Millionths 1000000000)
a4 = refl

a5 : read (codes "2e-3") ≡ Some (Millionths 2000)
a5 = refl

a6 : read (codes "1e+02") ≡ Some (Millionths 100000000)
a6 = refl

b1 : read (codes ".") ≡ None
b1 = refl

b2 : read (codes "-1") ≡ None
b2 = refl

b3 : read (codes "1E") ≡ None
b3 = refl

b4 : read (codes "1E100") ≡ None
b4 = refl

b5 : read (codes "1,5") ≡ None
b5 = refl

b6 : read (codes "0x1") ≡ None
b6 = refl

b7 : read (codes ".E5") ≡ None
b7 = refl

b8 : read [] ≡ None
b8 = refl

b9 : read (codes "1.2.3") ≡ None
b9 = refl

c1 : read (codes "0.1234567") ≡ Some Fine
c1 = refl

c2 : read (codes "0.1234560") ≡ Some (Millionths 123456)
c2 = refl

c3 : read (codes "17592186044416") ≡ Some (Millionths 17592186044416000000)
c3 = refl

c4 : read (codes "17592186044416.000001") ≡ Some Huge
c4 = refl

c5 : read (codes "1e99") ≡ Some Huge
c5 = refl

c6 : read (codes "0e99") ≡ Some (Millionths 0)
c6 = refl

d1 : units_read 2 (number_of (codes "0.25")) ≡ Ok 25
d1 = refl

d2 : units_read 1 (number_of (codes "0.25")) ≡ Err TooFine
d2 = refl

d3 : units_read 6 (number_of (codes "17592187")) ≡ Err TooLarge
d3 = refl
