-- Which words are numbers: digits with at most one point, at least one digit in all, and then an exponent or not.
use Rattle.std.specs.Prelude.{ℕ, ◌+◌, Bool, List, [], ◌∷◌, length, drop, Option, Some, None, is_some, ◌==◌, ◌||◌, ◌&&◌, if◌then◌else◌}
use Rattle.std.specs.Char.{is_ascii_digit}
use Rattle.std.specs.List.{take_while, prefix_len, list_all}
use Rattle.std.specs.Str.Parse.{AllDigits, digits_value}

-- the digits before the point and those behind it, and the exponent: `up` where it is not negative, else `down`.
-- Its value is that of all its digits, times 10 ^ up, over 10 ^ (length fraction + down).
pub record Number : Type 0 where
  pub whole : List ℕ
  pub fraction : List ℕ
  pub up : ℕ
  pub down : ℕ

-- the digits at the front of a word, and what follows them
abbrev pub front_digits : List ℕ → List ℕ
front_digits word = take_while is_ascii_digit word

abbrev pub behind_digits : List ℕ → List ℕ
behind_digits word = drop (prefix_len is_ascii_digit word) word

-- one digit or two
abbrev pub is_exponent : List ℕ → Bool
is_exponent ds = (length ds == 1 || length ds == 2) && list_all is_ascii_digit ds

-- the number without an exponent
abbrev pub plain : List ℕ → List ℕ → Number
plain whole fraction = record { whole = whole; fraction = fraction; up = 0; down = 0 }

abbrev pub raised : Number → List ℕ → Option Number
raised n ds = if is_exponent ds then Some (record n { up = digits_value 10 ds }) else None

abbrev pub lowered : Number → List ℕ → Option Number
lowered n ds = if is_exponent ds then Some (record n { down = digits_value 10 ds }) else None

-- behind the `E` or `e`: a `+`, a `-` or neither, and one digit or two
abbrev pub with_exponent : Number → List ℕ → Option Number
with_exponent n [] = None
with_exponent n (c ∷ ds) = if c == 45 then lowered n ds else (if c == 43 then raised n ds else raised n (c ∷ ds))

-- behind the digits: nothing, or an `E` or `e` and an exponent
abbrev pub ending : Number → List ℕ → Option Number
ending n [] = Some n
ending n (c ∷ rest) = if c == 69 || c == 101 then with_exponent n rest else None

-- there is a digit before the point or behind it
abbrev pub with_digits : Number → List ℕ → Option Number
with_digits n rest = if length n.whole + length n.fraction == 0 then None else ending n rest

-- behind the first digits: a point and digits, or neither
abbrev pub behind_whole : List ℕ → List ℕ → Option Number
behind_whole whole [] = with_digits (plain whole []) []
behind_whole whole (c ∷ rest) = if c == 46 then with_digits (plain whole (front_digits rest)) (behind_digits rest) else with_digits (plain whole []) (c ∷ rest)

-- the number that the word is, if it is one
abbrev pub number_of : List ℕ → Option Number
number_of word = behind_whole (front_digits word) (behind_digits word)

-- the word is a number
abbrev pub is_number : List ℕ → Bool
is_number word = is_some (number_of word)

-- the digits of a number are digits
abbrev pub AreDigits : Number → Type 0
AreDigits n = AllDigits 10 n.whole × AllDigits 10 n.fraction
