use Rattle.std.proofs.Common.{◌≡◌, drop, take, map}
use Rattle.sndlib_grammar.specs.Faults.{first_of, unknown_of_demand}
use Rattle.sndlib_grammar.specs.Rows.{names_of_nodes, net_demand}
use Rattle.sndlib_rows.specs.RowViews.{demand_row_view}
use Rattle.matrix_batch.specs.ReadViews.{demand_view}
use Rattle.matrix_batch.proofs.numbers.demand_rows.Given as goal

abbrev pub invariant-loop-words : goal.invariant-loop-words
invariant-loop-words l =
    (first_of (unknown_of_demand (names_of_nodes l.raw)) (map demand_view (drop l.words-index l.demands)) ≡ first_of (unknown_of_demand (names_of_nodes l.raw)) (map demand_view l.demands))
    × (map demand_row_view l.rows.items ≡ map (net_demand (names_of_nodes l.raw)) (map demand_view (take l.words-index l.demands)))
