use Rattle.std.proofs.Common.{rules, arith, ◌*◌, ◌≤◌}
use Rattle.mcf_limits.specs.declared.TheConstants.{MAX_PHASES, MAX_WORK}
use Rattle.matrix_batch.specs.Views.{batch_view}
use Rattle.batch_cmd.proofs.Counting.{solvable}
use Rattle.batch_cmd.proofs.asked.options_of.Goals as goal
use Rattle.batch_cmd.proofs.asked.options_of.Goals.{in-Some, in-None}

pub returns-clause-solvable : goal.returns-clause-solvable
returns-clause-solvable c =
    let n = c.count_all-commodities.result in
    let bounds : (1 ≤ c.match-asked.phases) × (c.match-asked.phases ≤ MAX_PHASES) = elim c.match-asked.branch [ in-Some w ↦ search rules | in-None w ↦ search rules ] in
    let work : n * c.match-asked.phases ≤ MAX_WORK = omega (arith, c.if-work-gt-MAX_WORK.false) in
    solvable c.args.asked.now (batch_view c.args.batch.now) n c.match-asked.phases c.requires.asked c.count_all-commodities.ensures.value bounds work
