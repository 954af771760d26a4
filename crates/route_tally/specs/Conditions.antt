-- The ten conditions of a certificate, in their order, whatever each of them asks.
use Rattle.std.specs.Prelude.{◌≡◌, Bool, List, [], ◌∷◌}
use Rattle.std.specs.List.{AllByRecursion}
use Rattle.gap_fraction.specs.Fraction.{Fraction}
use Rattle.cert_check.specs.declared.verdict.Fault.{Fault}
use Rattle.cert_check.specs.declared.verdict.Fault.TheVariants.{C1, C2, C3, C4, C5, C6, C7, C8, C9, C10}
use Rattle.cert_check.specs.declared.verdict.Verdict.{Verdict}
use Rattle.cert_check.specs.declared.verdict.Verdict.TheVariants.{Valid, Invalid}

-- the conditions before this one
abbrev pub earlier : Fault → List Fault
earlier C1 = []
earlier C2 = C1 ∷ []
earlier C3 = C1 ∷ C2 ∷ []
earlier C4 = C1 ∷ C2 ∷ C3 ∷ []
earlier C5 = C1 ∷ C2 ∷ C3 ∷ C4 ∷ []
earlier C6 = C1 ∷ C2 ∷ C3 ∷ C4 ∷ C5 ∷ []
earlier C7 = C1 ∷ C2 ∷ C3 ∷ C4 ∷ C5 ∷ C6 ∷ []
earlier C8 = C1 ∷ C2 ∷ C3 ∷ C4 ∷ C5 ∷ C6 ∷ C7 ∷ []
earlier C9 = C1 ∷ C2 ∷ C3 ∷ C4 ∷ C5 ∷ C6 ∷ C7 ∷ C8 ∷ []
earlier C10 = C1 ∷ C2 ∷ C3 ∷ C4 ∷ C5 ∷ C6 ∷ C7 ∷ C8 ∷ C9 ∷ []

-- all ten hold
abbrev pub EachHolds : (Fault → Type 0) → Type 0
EachHolds Holds = AllByRecursion Holds (C1 ∷ C2 ∷ C3 ∷ C4 ∷ C5 ∷ C6 ∷ C7 ∷ C8 ∷ C9 ∷ C10 ∷ [])

-- it fails, and each one before it holds
abbrev pub IsFirstFailing : (Fault → Type 0) → Fault → Type 0
IsFirstFailing Holds fault = AllByRecursion Holds (earlier fault) × ¬ (Holds fault)

-- valid, with these two fractions and this verdict, exactly where all ten hold; else the first that fails
abbrev pub IsVerdictBy : (Fault → Type 0) → Fraction → Fraction → Bool → Verdict → Type 0
IsVerdictBy Holds lower upper closed (Valid l u c) = EachHolds Holds × (l ≡ lower) × (u ≡ upper) × (c ≡ closed)
IsVerdictBy Holds lower upper closed (Invalid fault) = IsFirstFailing Holds fault
