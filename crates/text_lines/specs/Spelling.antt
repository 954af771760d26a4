-- Words of numbers, and words behind one another.
use Rattle.std.specs.Prelude.{ℕ, ◌+◌, ◌/◌, ◌%◌, List, [], ◌∷◌, ◌++◌}
use Rattle.std.specs.List.{flat_map}
use Rattle.std.specs.Fmt.{decimal}

-- a numerator, a stroke and a denominator
abbrev pub fraction_word : ℕ → ℕ → List ℕ
fraction_word num den = decimal num ++ 47 ∷ decimal den

-- the six digits of a number below a million
abbrev pub six_digits : ℕ → List ℕ
six_digits n = (48 + n / 100000 % 10) ∷ (48 + n / 10000 % 10) ∷ (48 + n / 1000 % 10) ∷ (48 + n / 100 % 10) ∷ (48 + n / 10 % 10) ∷ (48 + n % 10) ∷ []

-- a whole number, a point and six digits
abbrev pub decimal_word : ℕ → ℕ → List ℕ
decimal_word whole micro = decimal whole ++ 46 ∷ six_digits micro

-- a number of millionths, as a whole number, a point and six digits
abbrev pub millionths_word : ℕ → List ℕ
millionths_word n = decimal_word (n / 1000000) (n % 1000000)

-- words, a space before each of them
abbrev pub behind : List (List ℕ) → List ℕ
behind words = flat_map (λ w. 32 ∷ w) words
