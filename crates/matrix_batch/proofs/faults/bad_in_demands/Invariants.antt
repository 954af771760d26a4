use Rattle.std.proofs.Common.{◌≡◌, drop, map}
use Rattle.sndlib_grammar.specs.Faults.{first_of, bad_of_demand}
use Rattle.matrix_batch.specs.ReadViews.{demand_view}
use Rattle.matrix_batch.proofs.faults.bad_in_demands.Given as goal

abbrev pub invariant-loop-demand : goal.invariant-loop-demand
invariant-loop-demand l = first_of bad_of_demand (map demand_view (drop l.demand-index l.demands)) ≡ first_of bad_of_demand (map demand_view l.demands)
