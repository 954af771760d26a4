-- A run of fewer workers is a run of more.
use Rattle.std.proofs.Common.{◌≡◌, ◌⊎◌, inl, inr, ℕ, ◌≤◌, ◌<◌, [], List, length, subst, sym, arith}
use Rattle.flow_model.specs.Network.{Network}
use Rattle.flow_model.specs.Least.{HasCut, HasNoCut}
use Rattle.flow_core.specs.Phase.{Routed}
use Rattle.solver_run.specs.declared.options.SolveOptions.{SolveOptions}
use Rattle.solver_run.specs.History.{SolvedView, AreRoutedBy}
use Rattle.solver_run.specs.Run.{ArePhases, IsCutProof, IsPhasedRun, IsSolverRun}
use Rattle.flow_solver.specs.Fewer.{IsWithFewer}

-- options with so many workers
abbrev with_workers : SolveOptions → ℕ → SolveOptions
with_workers o n = record { gap = o.gap; phases = o.phases; workers = n; step = o.step }

is-with : (o fewer : SolveOptions) → IsWithFewer o fewer → fewer ≡ with_workers o fewer.workers
is-with o fewer h = λ i. record { gap = h.gap i; phases = h.phases i; workers = fewer.workers; step = h.step i }

routed-by-more : (n m : ℕ) (phases : List (List Routed)) → n ≤ m → AreRoutedBy n phases → AreRoutedBy m phases
routed-by-more n m phases le h k entries at j r l = omega (arith, h k entries at j r l, le)

phased-by-more : (net : Network) (o : SolveOptions) (n : ℕ) (s : SolvedView) → n ≤ o.workers → IsPhasedRun net (with_workers o n) s → IsPhasedRun net o s
phased-by-more net o n s le h = record {
  some = h.some;
  budget = h.budget;
  duals = h.duals;
  phases = record {
    count = h.phases.count;
    each = λ p l. record { phase = (h.phases.each p l).phase; bound = (h.phases.each p l).bound };
    goes_on = h.phases.goes_on;
  };
  workers = routed-by-more n o.workers _ le h.workers;
  closed = h.closed;
  spent = h.spent;
  proof = record {
    gap = h.proof.gap;
    phases_are = h.proof.phases_are;
    scale_cap = h.proof.scale_cap;
    scale_load = h.proof.scale_load;
    dual = h.proof.dual;
  };
  rows = h.rows;
}

run-by-more : (net : Network) (o : SolveOptions) (n : ℕ) (s : SolvedView) → n ≤ o.workers → IsSolverRun net (with_workers o n) s → IsSolverRun net o s
run-by-more net o n s le (inl (cut, none, proof)) = inl (
  cut,
  none,
  record {
    closed = proof.closed;
    gap = proof.gap;
    phases = proof.phases;
    scale_cap = proof.scale_cap;
    scale_load = proof.scale_load;
    paths = proof.paths;
    dual = proof.dual;
  },
)
run-by-more net o n s le (inr (no_cut, run)) = inr (no_cut, phased-by-more net o n s le run)

-- what fewer workers run is a run of those that were asked for
pub run-of-fewer : (net : Network) (o fewer : SolveOptions) (s : SolvedView) → IsWithFewer o fewer → IsSolverRun net fewer s → IsSolverRun net o s
run-of-fewer net o fewer s is run = run-by-more net o fewer.workers s is.workers (subst (λ (p : SolveOptions). IsSolverRun net p s) (is-with o fewer is) run)
