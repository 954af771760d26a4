use Rattle.std.proofs.Common.{◌≡◌, take, drop}
use Rattle.std.specs.Prelude.{map}
use Rattle.sndlib_grammar.specs.Faults.{first_of, unknown_of_demand}
use Rattle.sndlib_rows.specs.Names.{names_of}
use Rattle.sndlib_read.specs.Ends.{row_of}
use Rattle.sndlib_read.specs.Views.{demand_view}
use Rattle.sndlib_read.proofs.ends.demand_rows.Given as goal

abbrev pub invariant-loop-demand : goal.invariant-loop-demand
invariant-loop-demand l =
    (first_of (unknown_of_demand (names_of l.names)) (map demand_view (drop l.demand-index l.demands)) ≡ first_of (unknown_of_demand (names_of l.names)) (map demand_view l.demands))
    × (l.rows.items ≡ map (row_of (names_of l.names)) (take l.demand-index l.demands))
