-- What a stage of scaling answers.
use Rattle.std.specs.Prelude.{◌≡◌, ℕ, ◌+◌, Bool, true, false, List, [], ◌∷◌, ◌++◌, map, count_by, Option, Some, None, Result, Ok, Err}
use Rattle.std.specs.List.{filter_map}
use Rattle.flow_model.specs.declared.net.Commodity.{Commodity}
use Rattle.sndlib_grammar.specs.Rows.{NetLink, NetDemand}
use Rattle.sndlib_grammar.specs.declared.refusal.NetKind.{NetKind}
use Rattle.unit_scale.specs.Sizes.{is_left_out}
use Rattle.unit_scale.specs.Seen.{seen_size, seen_link, seen_amount, seen_demand}
use Rattle.unit_scale.specs.Scaling.{refused, commodity_of, kept_from}
use Rattle.unit_scale.specs.declared.modes.ModuleMode.{ModuleMode}
use Rattle.unit_scale.specs.declared.links.LinkSize.{LinkSize}
use Rattle.unit_scale.specs.declared.demands.DemandSize.{DemandSize}
use Rattle.unit_scale.specs.declared.commodities.Kept.{Kept}
use Rattle.unit_scale.specs.declared.refusal.ScaleEnd.{ScaleEnd}
use Rattle.unit_scale.specs.declared.refusal.ScaleEnd.TheVariants.{Refused, Memory}

-- the end tells the first row that has the fault; if memory ran out, nothing is said
abbrev pub Faulted : NetKind → Option ℕ → ScaleEnd → Type 0
Faulted kind line Memory = Unit {0}
Faulted kind line (Refused r) = refused kind line ≡ Some r

-- the stage has this value where no row has the fault
abbrev pub Stage : {X : Type 0} → NetKind → Option ℕ → (X → Type 0) → Result X ScaleEnd → Type 0
Stage kind line P (Ok x) = (line ≡ None) × P x
Stage kind line P (Err end) = Faulted kind line end

-- sizes of these links
pub record AreLinkSizes (mode : ModuleMode) (links : List NetLink) (zs : List LinkSize) : Type 0 where
  pub seen : map seen_size zs ≡ map (seen_link mode) links

pub record AreDemandSizes (demands : List NetDemand) (zs : List DemandSize) : Type 0 where
  pub seen : map seen_amount zs ≡ map seen_demand demands

-- the commodities so far, the number of the demand of each, and how many demands were left out
pub record KeptSofar : Type 0 where
  pub commodities : List Commodity
  pub rows : List ℕ
  pub left : ℕ

abbrev pub kept_view : Kept → KeptSofar
kept_view k = record { commodities = k.commodities.items; rows = k.rows.items; left = k.left }

-- with one demand more, which is left out or is this commodity
abbrev pub with_demand : Bool → Commodity → ℕ → KeptSofar → KeptSofar
with_demand true k i sofar = record sofar { left = sofar.left + 1 }
with_demand false k i sofar = record sofar { commodities = sofar.commodities ++ k ∷ []; rows = sofar.rows ++ i ∷ [] }

pub record IsKept (s : ℕ) (demands : List NetDemand) (k : Kept) : Type 0 where
  pub commodities : k.commodities.items ≡ filter_map (commodity_of s) demands
  pub rows : k.rows.items ≡ kept_from 0 demands
  pub left : k.left ≡ count_by is_left_out demands
