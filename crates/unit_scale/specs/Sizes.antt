-- The numbers of rows, in millionths: units of 10 ^ -MAX_DECIMALS.
use Rattle.std.specs.Prelude.{◌≡◌, ℕ, ◌+◌, ◌-◌, ◌*◌, ◌/◌, ◌%◌, ◌^◌, ◌<◌, ◌≤◌, Bool, false, true, List, [], ◌∷◌, ◌++◌, map, max, sum, Option, Some, None, ◌==◌, ◌||◌, not, if◌then◌else◌, nat_lt}
use Rattle.std.specs.Option.{unwrap_or, is_none}
use Rattle.std.specs.List.{list_all, list_any, range_with_len}
use Rattle.mcf_limits.specs.declared.TheConstants.{MAX_DECIMALS}
use Rattle.sndlib_grammar.specs.Number.{Number, number_of}
use Rattle.sndlib_grammar.specs.Rows.{NetLink, NetDemand, NetRows}
use Rattle.unit_scale.specs.Units.{units_of, most}
use Rattle.unit_scale.specs.declared.modes.ModuleMode.{ModuleMode}
use Rattle.unit_scale.specs.declared.modes.ModuleMode.TheVariants.{Ignore, Largest, Sum}

abbrev pub millionths_of : Option Number → Option ℕ
millionths_of None = None
millionths_of (Some n) = units_of MAX_DECIMALS n

-- the number that the word is, in millionths, if it is a whole number of them
abbrev pub millionths : List ℕ → Option ℕ
millionths word = millionths_of (number_of word)

abbrev pub value : List ℕ → ℕ
value word = unwrap_or (millionths word) 0

abbrev pub is_fine : List ℕ → Bool
is_fine word = is_none (millionths word)

-- over the limit as a value
abbrev pub is_over : List ℕ → Bool
is_over word = nat_lt (most * 10 ^ MAX_DECIMALS) (value word)

-- the capacities among capacities and costs in turn
abbrev pub every_other : List (List ℕ) → List (List ℕ)
every_other [] = []
every_other (capacity ∷ []) = capacity ∷ []
every_other (capacity ∷ cost ∷ more) = capacity ∷ every_other more

-- the numbers of a link that are looked at
abbrev pub looked_at : ModuleMode → NetLink → List (List ℕ)
looked_at Ignore l = l.installed ∷ []
looked_at Largest l = l.installed ∷ every_other l.modules
looked_at Sum l = l.installed ∷ every_other l.modules

abbrev pub greatest : List ℕ → ℕ
greatest [] = 0
greatest (x ∷ xs) = max x (greatest xs)

-- what modules add to a capacity
abbrev pub added : ModuleMode → List ℕ → ℕ
added Ignore sizes = 0
added Largest sizes = greatest sizes
added Sum sizes = sum sizes

-- the capacity of a link, in millionths
abbrev pub capacity : ModuleMode → NetLink → ℕ
capacity mode l = value l.installed + added mode (map value (every_other l.modules))

-- the amount of a demand, in millionths of a millionth, and in millionths
abbrev pub product : NetDemand → ℕ
product d = value d.unit * value d.value

abbrev pub amount : NetDemand → ℕ
amount d = product d / 10 ^ MAX_DECIMALS

-- a number of the entry, or its amount, is no whole number of millionths; a capacity is a sum of its numbers
abbrev pub is_fine_link : ModuleMode → NetLink → Bool
is_fine_link mode l = list_any is_fine (looked_at mode l)

abbrev pub is_fine_demand : NetDemand → Bool
is_fine_demand d = is_fine d.unit || is_fine d.value || not (product d % 10 ^ MAX_DECIMALS == 0)

-- a demand of nothing, or from a node to itself
abbrev pub is_left_out : NetDemand → Bool
is_left_out d = amount d == 0 || d.source == d.target

-- the amount that counts
abbrev pub counted : NetDemand → ℕ
counted d = if is_left_out d then 0 else amount d

-- a number of millionths is a whole number of units of 10 ^ -s
abbrev pub serves : ℕ → ℕ → Bool
serves s n = n % 10 ^ (MAX_DECIMALS - s) == 0

abbrev pub in_units : ℕ → ℕ → ℕ
in_units s n = n / 10 ^ (MAX_DECIMALS - s)

-- the capacities and the amounts of commodities
abbrev pub sizes : ModuleMode → NetRows → List ℕ
sizes mode rows = map (capacity mode) rows.links ++ map counted rows.demands

-- the first of these numbers that serves for all, or else `MAX_DECIMALS`, which always does
abbrev pub first_serving : List ℕ → List ℕ → ℕ
first_serving [] all = MAX_DECIMALS
first_serving (s ∷ more) all = if list_all (serves s) all then s else first_serving more all

-- the least number of decimals, up to `MAX_DECIMALS`, that serves for all
abbrev pub decimals_of : List ℕ → ℕ
decimals_of all = first_serving (range_with_len 0 MAX_DECIMALS) all

-- the least number of decimals that serves for all, as a property
pub record AreDecimals (all : List ℕ) (s : ℕ) : Type 0 where
  pub within : s ≤ MAX_DECIMALS
  pub serve : list_all (serves s) all ≡ true
  pub least : (t : ℕ) → t < s → list_all (serves t) all ≡ false
