-- What is kept of the size of a row: enough for the decimals, and all where no number is over the limit.
use Rattle.std.specs.Prelude.{ℕ, ◌+◌, ◌/◌, nat_lt, ◌%◌, ◌^◌, Bool, List, map, ◌||◌, if◌then◌else◌}
use Rattle.std.specs.Borrow.{Bor}
use Rattle.std.specs.List.{list_any}
use Rattle.mcf_limits.specs.declared.TheConstants.{MAX_DECIMALS, MAX_TOTAL, MAX_UNITS}
use Rattle.sndlib_grammar.specs.Rows.{NetLink, NetDemand}
use Rattle.unit_scale.specs.Sizes.{capacity, amount, looked_at, is_over, is_left_out}
use Rattle.unit_scale.specs.declared.modes.ModuleMode.{ModuleMode}
use Rattle.unit_scale.specs.declared.links.LinkSize.{LinkSize}
use Rattle.unit_scale.specs.declared.demands.DemandSize.{DemandSize}

-- words without where they lie in memory
abbrev pub bytes_of : List (Bor (List ℕ)) → List (List ℕ)
bytes_of words = map (λ w. w.now) words

pub record Seen : Type 0 where
  pub over : Bool
  pub last : ℕ
  pub exact : ℕ

abbrev pub seen : Bool → ℕ → Seen
seen over n = record { over = over; last = n % 10 ^ MAX_DECIMALS; exact = if over then 0 else n }

abbrev pub link_over : ModuleMode → NetLink → Bool
link_over mode l = list_any is_over (looked_at mode l)

abbrev pub seen_link : ModuleMode → NetLink → Seen
seen_link mode l = seen (link_over mode l) (capacity mode l)

abbrev pub seen_size : LinkSize → Seen
seen_size z = seen z.over z.millionths

-- the units of a demand that count, and whether they or their total are over a limit
abbrev pub size_units : DemandSize → ℕ → ℕ
size_units z unit = if z.left then 0 else z.millionths / unit

abbrev pub size_is_large : DemandSize → ℕ → ℕ → Bool
size_is_large z unit total = z.over || (nat_lt MAX_UNITS (size_units z unit) || nat_lt MAX_TOTAL (total + size_units z unit))

pub record SeenDemand : Type 0 where
  pub left : Bool
  pub size : Seen

abbrev pub seen_demand : NetDemand → SeenDemand
seen_demand d = record { left = is_left_out d; size = seen (is_over d.unit || is_over d.value) (amount d) }

abbrev pub seen_amount : DemandSize → SeenDemand
seen_amount z = record { left = z.left; size = seen z.over z.millionths }
