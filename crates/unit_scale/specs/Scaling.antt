-- The network that rows stand for, or why there is none.
use Rattle.std.specs.Prelude.{◌≡◌, ℕ, ◌+◌, Bool, false, true, List, [], ◌∷◌, length, map, count_by, Option, Some, None, Result, Ok, Err, ◌||◌, if◌then◌else◌, nat_lt}
use Rattle.std.specs.Option.{is_some, option_map}
use Rattle.std.specs.List.{list_all, list_any, filter_map, flat_map}
use Rattle.flow_model.specs.declared.net.Cell.{Cell}
use Rattle.flow_model.specs.declared.net.Commodity.{Commodity}
use Rattle.flow_model.specs.Network.{Network}
use Rattle.mcf_limits.specs.declared.TheConstants.{MAX_TOTAL}
use Rattle.sndlib_grammar.specs.Number.{number_of}
use Rattle.sndlib_grammar.specs.Rows.{NetLink, NetDemand, NetRows}
use Rattle.sndlib_grammar.specs.declared.refusal.NetRefusal.{NetRefusal}
use Rattle.sndlib_grammar.specs.declared.refusal.NetKind.{NetKind}
use Rattle.sndlib_grammar.specs.declared.refusal.NetKind.TheVariants.{TooFine, TooLarge, NoDemand}
use Rattle.unit_scale.specs.Units.{most}
use Rattle.unit_scale.specs.Sizes.{AreDecimals, decimals_of, sizes, in_units, capacity, amount, looked_at, is_over, is_fine_link, is_fine_demand, is_left_out}
use Rattle.unit_scale.specs.declared.options.NetOptions.{NetOptions}
use Rattle.unit_scale.specs.declared.modes.ModuleMode.{ModuleMode}
use Rattle.unit_scale.specs.declared.modes.LinkMode.{LinkMode}
use Rattle.unit_scale.specs.declared.modes.Sign.{Sign}
use Rattle.unit_scale.specs.declared.modes.Sign.TheVariants.{Along, Against, Both}
use Rattle.unit_scale.specs.Modes.{signs}

-- ---- the network, with this number of decimals

-- the cell of this capacity that goes that way over a link with these ends
abbrev pub cell_going : ℕ → ℕ → ℕ → Sign → Cell
cell_going source target cap Along = record { tail = source; head = target; both = false; cap = cap }
cell_going source target cap Against = record { tail = target; head = source; both = false; cap = cap }
cell_going source target cap Both = record { tail = source; head = target; both = true; cap = cap }

-- the cells of a link with these ends, each with the whole capacity
abbrev pub link_cells : LinkMode → ℕ → ℕ → ℕ → List Cell
link_cells mode source target cap = map (cell_going source target cap) (signs mode)

-- the capacity of a link, with this many decimals
abbrev pub capacity_in : NetOptions → ℕ → NetLink → ℕ
capacity_in o s l = in_units s (capacity o.modules l)

-- the cells of a link, with this many decimals
abbrev pub cells_of_link : NetOptions → ℕ → NetLink → List Cell
cells_of_link o s l = link_cells o.links l.source l.target (capacity_in o s l)

abbrev pub commodity_of : ℕ → NetDemand → Option Commodity
commodity_of s d = if is_left_out d then None else Some (record { from = d.source; to = d.target; amount = in_units s (amount d) })

-- the network of the rows, with this many decimals
abbrev pub net_of : NetOptions → ℕ → NetRows → Network
net_of o s rows = record {
  nodes = length rows.nodes;
  cells = flat_map (cells_of_link o s) rows.links;
  commodities = filter_map (commodity_of s) rows.demands;
}

-- the numbers of the demands that are not left out, the first of which has the number n
abbrev pub kept_from : ℕ → List NetDemand → List ℕ
kept_from n [] = []
kept_from n (d ∷ ds) = if is_left_out d then kept_from (n + 1) ds else n ∷ kept_from (n + 1) ds

-- the longest path is a number
abbrev pub has_hops : NetDemand → Bool
has_hops d = is_some (number_of d.longest)

-- ---- refusals

-- the line of the first row that passes
abbrev pub first_line : {X : Type 0} → (X → Bool) → (X → ℕ) → List X → Option ℕ
first_line p line [] = None
first_line p line (x ∷ xs) = if p x then Some (line x) else first_line p line xs

-- a number is over the limit as a value, or the capacity in units
abbrev pub is_large_link : ModuleMode → ℕ → NetLink → Bool
is_large_link mode s l = list_any is_over (looked_at mode l) || nat_lt most (in_units s (capacity mode l))

-- the amount that counts, in units
abbrev pub counted_units : ℕ → NetDemand → ℕ
counted_units s d = if is_left_out d then 0 else in_units s (amount d)

-- a number is over the limit as a value, or the amount that counts in units, or the total up to and with it
abbrev pub is_large_demand : ℕ → ℕ → NetDemand → Bool
is_large_demand s total d = (is_over d.unit || is_over d.value) || (nat_lt most (counted_units s d) || nat_lt (MAX_TOTAL) (total + counted_units s d))

-- the line of the first demand that is too large, where the demands before amount to the total
abbrev pub first_large : ℕ → ℕ → List NetDemand → Option ℕ
first_large s total [] = None
first_large s total (d ∷ ds) = if is_large_demand s total d then Some d.line else first_large s (total + counted_units s d) ds

abbrev pub or_else : {X : Type 0} → Option X → Option X → Option X
or_else None y = y
or_else (Some x) y = Some x

abbrev pub refused : NetKind → Option ℕ → Option NetRefusal
refused kind line = option_map (λ n. record { line = n; kind = kind }) line

abbrev pub too_fine : ModuleMode → NetRows → Option ℕ
too_fine mode rows = or_else (first_line (is_fine_link mode) (λ l. l.line) rows.links) (first_line is_fine_demand (λ d. d.line) rows.demands)

abbrev pub too_large : ModuleMode → ℕ → NetRows → Option ℕ
too_large mode s rows = or_else (first_line (is_large_link mode s) (λ l. l.line) rows.links) (first_large s 0 rows.demands)

-- no demand is kept: the line of the end
abbrev pub no_demand : NetRows → Option ℕ
no_demand rows = if list_all is_left_out rows.demands then Some rows.end_line else None

-- the first refusal, with this number of decimals
abbrev pub refusal : ModuleMode → ℕ → NetRows → Option NetRefusal
refusal mode s rows = or_else (refused TooFine (too_fine mode rows)) (or_else (refused TooLarge (too_large mode s rows)) (refused NoDemand (no_demand rows)))

-- ---- the whole

pub record ScaledNet : Type 0 where
  pub options : NetOptions
  pub net : Network
  pub decimals : ℕ
  pub kept : List ℕ
  pub left : ℕ
  pub hops : ℕ

-- the network of the rows with this number of decimals
abbrev pub scaled_with : NetOptions → ℕ → NetRows → ScaledNet
scaled_with o s rows = record {
  options = o;
  net = net_of o s rows;
  decimals = s;
  kept = kept_from 0 rows.demands;
  left = count_by is_left_out rows.demands;
  hops = count_by has_hops rows.demands;
}

abbrev pub unless_refused : ScaledNet → Option NetRefusal → Result ScaledNet NetRefusal
unless_refused scaled None = Ok scaled
unless_refused scaled (Some r) = Err r

-- the network that rows stand for under the options, with the least number of decimals; or their first refusal
abbrev pub scaled_of : NetRows → NetOptions → Result ScaledNet NetRefusal
scaled_of rows o =
    let s = decimals_of (sizes o.modules rows) in
    unless_refused (scaled_with o s rows) (refusal o.modules s rows)

-- ---- the same by its parts

-- the rows are accepted, and this is their network with the least number of decimals
pub record IsScaled (rows : NetRows) (o : NetOptions) (scaled : ScaledNet) : Type 0 where
  pub options : scaled.options ≡ o
  pub decimals : AreDecimals (sizes o.modules rows) scaled.decimals
  pub accepted : refusal o.modules scaled.decimals rows ≡ None
  pub net : scaled.net ≡ net_of o scaled.decimals rows
  pub kept : scaled.kept ≡ kept_from 0 rows.demands
  pub left : scaled.left ≡ count_by is_left_out rows.demands
  pub hops : scaled.hops ≡ count_by has_hops rows.demands
