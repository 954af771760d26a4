-- All commodities of a batch, and options that serve each matrix.
use Rattle.std.proofs.Common.{◌≡◌, ℕ, ◌+◌, ◌*◌, ◌≤◌, List, [], ◌∷◌, length, refl, arith}
use Rattle.std.specs.List.{AllByRecursion}
use Rattle.std.proofs.Math.Nat.{mul-le-mul_right}
use Rattle.std.proofs.lemmas.List.Sums.{sum_by-cons}
use Rattle.mcf_limits.specs.declared.TheConstants.{MAX_GAP, MAX_PHASES, MAX_STEP, MAX_WORK}
use Rattle.solver_run.specs.declared.options.SolveOptions.{SolveOptions}
use Rattle.solver_run.specs.Options.{AreOptions}
use Rattle.matrix_batch.specs.Matrices.{Matrix}
use Rattle.matrix_batch.specs.Batch.{batch_commodities}
use Rattle.batch_cmd.specs.declared.asked.BatchAsked.{BatchAsked}
use Rattle.batch_cmd.specs.Asked.{AreSolvable, IsBatchAsked}

-- options that serve all commodities together serve each matrix
pub each_solvable : (o : SolveOptions) (n : ℕ) (batch : List Matrix) → o.gap ≤ MAX_GAP → 1 ≤ o.phases → o.phases ≤ MAX_PHASES → o.workers ≡ 1 → 1 ≤ o.step → o.step ≤ MAX_STEP
    → n * o.phases ≤ MAX_WORK → batch_commodities batch ≤ n → AllByRecursion (λ (m : Matrix). AreOptions m.net.net o) batch
each_solvable o n [] gap some phases alone some_step step work within = tt
each_solvable o n (m ∷ ms) gap some phases alone some_step step work within =
    let own = length m.net.net.commodities in
    let sum : batch_commodities (m ∷ ms) ≡ own + batch_commodities ms = sum_by-cons (λ (k : Matrix). length k.net.net.commodities) m ms in
    let less : own ≤ n = omega (arith, sum, within) in (
      record {
        gap = gap;
        some_phase = some;
        phases = phases;
        some_worker = omega arith;
        workers = omega arith;
        some_step = some_step;
        step = step;
        work = omega (arith, work, mul-le-mul_right o.phases less);
      },
      each_solvable o n ms gap some phases alone some_step step work (omega (arith, sum, within)),
    )

-- the options that are asked serve each matrix
pub solvable : (a : BatchAsked) (batch : List Matrix) (n phases : ℕ) → IsBatchAsked a → n ≡ batch_commodities batch → (1 ≤ phases) × (phases ≤ MAX_PHASES) → n * phases ≤ MAX_WORK
    → AreSolvable batch (record { gap = a.gap; phases = phases; workers = 1; step = a.step })
solvable a batch n phases asked count bounds work = record {
  alone = refl;
  each = each_solvable (record { gap = a.gap; phases = phases; workers = 1; step = a.step }) n batch asked.gap bounds.0 bounds.1 refl asked.some_step asked.step work (omega (arith, count));
}
