-- The least price of the first commodities.
use Rattle.std.specs.Prelude.{ℕ, ◌<◌, ◌≤◌, min, List, Option, Some, None, MatchOption}
use Rattle.flow_model.specs.Network.{Network}
use Rattle.gates.specs.Gates.{IsPrice, IsLeastPrice}

-- the smaller of two prices, if there is one
abbrev pub lesser_of : Option ℕ → Option ℕ → Option ℕ
lesser_of None b = b
lesser_of (Some a) None = Some a
lesser_of (Some a) (Some b) = Some (min a b)

-- the price of the commodity of that number; none where it has no walk
abbrev pub IsPriceOf : Network → List ℕ → ℕ → Option ℕ → Type 0
IsPriceOf net lengths k price = MatchOption price
    ((other : ℕ) → IsPrice net lengths k other → ⊥)
    (λ p. IsPrice net lengths k p × ((other : ℕ) → IsPrice net lengths k other → p ≤ other))

-- the least price of the first n commodities; none where none of them has a walk
abbrev pub IsLeastBelow : Network → List ℕ → ℕ → Option ℕ → Type 0
IsLeastBelow net lengths n least = MatchOption least
    ((k other : ℕ) → k < n → IsPrice net lengths k other → ⊥)
    (λ p. ((k : ℕ) × (k < n) × IsPrice net lengths k p) × ((k other : ℕ) → k < n → IsPrice net lengths k other → p ≤ other))

-- the least price of all; none where no commodity has a walk
abbrev pub IsLeastIfAny : Network → List ℕ → Option ℕ → Type 0
IsLeastIfAny net lengths least = MatchOption least
    ((k other : ℕ) → IsPrice net lengths k other → ⊥)
    (IsLeastPrice net lengths)
