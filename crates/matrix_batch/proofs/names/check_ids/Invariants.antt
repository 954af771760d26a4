use Rattle.std.proofs.Common.{◌≡◌, [], map, drop}
use Rattle.sndlib_grammar.specs.Faults.{first_repeated}
use Rattle.sndlib_rows.specs.Names.{names_of}
use Rattle.matrix_batch.specs.Stored.{demand_ids}
use Rattle.matrix_batch.specs.ReadViews.{demand_view}
use Rattle.matrix_batch.proofs.names.check_ids.Given as goal

abbrev pub invariant-loop-demand : goal.invariant-loop-demand
invariant-loop-demand l = first_repeated (names_of l.ids) (demand_ids (map demand_view (drop l.demand-index l.demands))) ≡ first_repeated [] (demand_ids (map demand_view l.demands))
