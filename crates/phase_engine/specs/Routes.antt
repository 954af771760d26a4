-- Routes: a path for a commodity.
use Rattle.std.specs.Prelude.{ℕ, ◌+◌, ◌-◌, ◌≤◌, List, length, take, drop, All}
use Rattle.phase_engine.specs.declared.route_buffer.Span.{Span}

-- a commodity, and the cells of its path
pub record Route : Type 0 where
  pub commodity : ℕ
  pub path : List ℕ

-- the routes in a buffer, how many more routes and cells it has room for, and how many of these cells are ready to be written
pub record RouteRoom : Type 0 where
  pub routes : List Route
  pub paths : ℕ
  pub cells : ℕ
  pub ready : ℕ

-- the commodity, and the cells of its path, of which the first stands `back` places before the end
abbrev pub route_of : List ℕ → Span → Route
route_of cells s = record { commodity = s.commodity; path = take s.len (drop (length cells - s.back) cells) }

-- each path lies within the cells, behind those that are free
pub record AreSpans (cells : List ℕ) (free : ℕ) (spans : List Span) : Type 0 where
  pub within : free ≤ length cells
  pub places : All (λ (s : Span). (s.len ≤ s.back) × (free + s.back ≤ length cells)) spans
