-- The limit of hops of each commodity, from the longest path of its demand.
use Rattle.std.specs.Prelude.{ℕ, ◌+◌, ◌*◌, ◌/◌, ◌^◌, ◌&&◌, not, Bool, false, List, length, map, Option, Some, None, nat_lt, if◌then◌else◌}
use Rattle.std.specs.Option.{option_map_or, option_and_then}
use Rattle.mcf_limits.specs.declared.TheConstants.{MAX_HOPS}
use Rattle.sndlib_grammar.specs.Number.{Number, number_of}
use Rattle.sndlib_grammar.specs.Rows.{NetDemand, NetRows, demand_at}
use Rattle.sndlib_grammar.specs.declared.refusal.NetRefusal.{NetRefusal}
use Rattle.sndlib_grammar.specs.declared.refusal.NetKind.TheVariants.{HopTooFar}
use Rattle.unit_scale.specs.Units.{digits, places}
use Rattle.unit_scale.specs.Sizes.{is_left_out}
use Rattle.unit_scale.specs.Scaling.{ScaledNet, first_line, refused}

-- the number, rounded down
abbrev pub whole_of : Number → ℕ
whole_of n = digits n * 10 ^ n.up / 10 ^ places n

-- the limit of a demand in a network of a number of nodes: its longest path rounded down, and none where every walk without repeated
-- nodes keeps it
abbrev pub limit_of : ℕ → NetDemand → Option ℕ
limit_of nodes d = option_and_then (λ n. if nat_lt (whole_of n + 1) nodes then Some (whole_of n) else None) (number_of d.longest)

-- the limit of each commodity
abbrev pub limits_of : NetRows → ScaledNet → List (Option ℕ)
limits_of rows net = map (λ d. limit_of (length rows.nodes) (demand_at rows d)) net.kept

-- the limit is over the greatest
abbrev pub is_far : ℕ → NetDemand → Bool
is_far nodes d = option_map_or (nat_lt MAX_HOPS) (limit_of nodes d) false

-- the demand is kept, and its limit is over the greatest
abbrev pub is_too_far : ℕ → NetDemand → Bool
is_too_far nodes d = not (is_left_out d) && is_far nodes d

-- the refusal at the first demand whose limit is over the greatest
abbrev pub hop_refusal : NetRows → Option NetRefusal
hop_refusal rows = refused HopTooFar (first_line (is_too_far (length rows.nodes)) (λ d. d.line) rows.demands)
