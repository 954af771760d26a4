-- How many entries a run has.
use Rattle.std.proofs.Common.{◌≡◌, ◌*◌, List, [], ◌∷◌, All, length, inl, inr, suc, arith}
use Rattle.std.specs.List.{sum_by}
use Rattle.std.proofs.lemmas.List.Sums.{sum_by-cons}
use Rattle.flow_model.specs.Network.{Network}
use Rattle.flow_model.specs.Routing.{Row}
use Rattle.solver_run.specs.declared.options.Entry.{Entry}
use Rattle.solver_run.specs.declared.options.SolveOptions.{SolveOptions}
use Rattle.solver_run.specs.History.{SolvedView, NamesRows}
use Rattle.solver_run.specs.Run.{IsSolverRun}
use Rattle.net_solve.specs.Tally.{routes_of}

entries-count : (net : Network) (rows : List Row) (history : List (List Entry)) → All (NamesRows net rows) history → sum_by length history ≡ length net.commodities * length history
entries-count net rows [] all = omega arith
entries-count net rows (e ∷ es) all =
    omega (arith, sum_by-cons length e es, (all 0 e (omega arith)).count, entries-count net rows es (λ i d l. all (suc i) d (omega (arith, l))))

pub run-routes : (net : Network) (o : SolveOptions) (s : SolvedView) → IsSolverRun net o s → routes_of s ≡ length net.commodities * length s.history
run-routes net o s (inl cut) = rw (cut.1) (omega arith)
run-routes net o s (inr phased) = entries-count net s.proof.routing.paths s.history phased.1.rows.entries
