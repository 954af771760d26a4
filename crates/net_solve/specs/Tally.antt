-- What a solve has carried in all.
use Rattle.std.specs.Prelude.{ℕ, List, length}
use Rattle.std.specs.List.{sum_by}
use Rattle.flow_model.specs.Network.{Network}
use Rattle.flow_model.specs.Routing.{Row}
use Rattle.solver_run.specs.History.{SolvedView}

-- the amounts of all commodities
abbrev pub total_of : Network → ℕ
total_of net = sum_by (λ k. k.amount) net.commodities

-- the entries of the history
abbrev pub routes_of : SolvedView → ℕ
routes_of s = sum_by length s.history

-- the weights of all path rows
abbrev pub carried_of : List Row → ℕ
carried_of rows = sum_by (λ r. r.weight) rows
