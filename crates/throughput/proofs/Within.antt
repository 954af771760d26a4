-- A gap between two fractions, as an order of two others.
use Rattle.std.proofs.Common.{ℕ, ◌+◌, ◌*◌, ◌≡◌, arith}
use Rattle.std.specs.Prelude.{◌↔◌}
use Rattle.gap_fraction.specs.Fraction.{Fraction, FractionLe, IsWithinGap}

-- the upper one over one and the gap, and the lower one
pub within_by_order : (lower upper above below : Fraction) (gap : ℕ) → above ≡ record { num = upper.num; den = upper.den * (1000000 + gap) } → below ≡ record { num = lower.num; den = lower.den * 1000000 }
    → FractionLe above below ↔ IsWithinGap lower upper gap
within_by_order lower upper above below gap ea eb = rw (ea, eb) (λ h. omega arith, λ h. omega arith)
