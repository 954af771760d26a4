-- The values of options and of positional words that are numbers.
use Rattle.std.specs.Prelude.{ℕ, Bool, List, [], ◌∷◌, length, Option, Some, None, nat_le, ◌&&◌, option_and_then, if◌then◌else◌}
use Rattle.std.specs.Char.{is_ascii_digit}
use Rattle.std.specs.List.{list_all, filter_map}
use Rattle.std.specs.Str.{bytes_eq}
use Rattle.std.specs.Str.Parse.{digits_value}
use Rattle.mcf_limits.specs.declared.TheConstants.{MAX_GAP}
use Rattle.sndlib_grammar.specs.Number.{number_of}
use Rattle.unit_scale.specs.declared.decimal.Decimal.{Decimal}
use Rattle.unit_scale.specs.declared.decimal.Decimal.TheVariants.{Millionths, Fine, Huge}
use Rattle.unit_scale.specs.Units.{decimal_of}
use Rattle.mcf_words.specs.Items.{Setting}

-- 1 to 20 digits
abbrev pub is_whole : List ℕ → Bool
is_whole word = nat_le 1 (length word) && nat_le (length word) 20 && list_all is_ascii_digit word

-- the whole number that the word is, where it is one between these two
abbrev pub number_in : ℕ → ℕ → List ℕ → Option ℕ
number_in least most word = if is_whole word && nat_le least (digits_value 10 word) && nat_le (digits_value 10 word) most then Some (digits_value 10 word) else None

abbrev pub within_gap : Option Decimal → Option ℕ
within_gap None = None
within_gap (Some (Millionths n)) = if nat_le n MAX_GAP then Some n else None
within_gap (Some Fine) = None
within_gap (Some Huge) = None

-- the gap in millionths, where the word is a whole number of them within the limit
abbrev pub gap_of : List ℕ → Option ℕ
gap_of word = within_gap (decimal_of (number_of word))

-- the values that the options of that name have
abbrev pub values_of : List ℕ → List Setting → List (List ℕ)
values_of name settings = filter_map (λ s. if bytes_eq s.name name then Some s.value else None) settings

-- the only one, if there is one; nothing where there are two
abbrev pub single : {X : Type 0} → List X → Option (Option X)
single [] = Some None
single (x ∷ []) = Some (Some x)
single (x ∷ y ∷ more) = None

-- what is read of a value, or the default where there is none
abbrev pub read_or : {X : Type 0} → (List ℕ → Option X) → X → Option (List ℕ) → Option X
read_or read default None = Some default
read_or read default (Some value) = read value

-- the value of an option that stands at most once: what is read of it, or the default
abbrev pub choice : {X : Type 0} → (List ℕ → Option X) → X → List (List ℕ) → Option X
choice read default values = option_and_then (read_or read default) (single values)
