use Rattle.std.proofs.Common.{subst, ◌∙◌, ap}
use Rattle.matrix_batch.specs.Views.{batch_view}
use Rattle.solver_run.specs.declared.options.SolveOptions.{SolveOptions}
use Rattle.batch_cmd.specs.declared.asked.BatchAsked.{BatchAsked}
use Rattle.batch_cmd.specs.Asked.{batch_options}
use Rattle.batch_cmd.specs.Solves.{AreSolved}
use Rattle.batch_cmd.proofs.batching.solves_of.Goals as goal

pub returns-in-Ok-solve_batch : goal.returns-in-Ok-solve_batch
returns-in-Ok-solve_batch g c =
    let batch = batch_view c.args.batch.now in
    let same = c.in-Ok.ensures.options ∙ ap (λ (a : BatchAsked). batch_options batch a) c.batch_asked_by.ensures in
    record {
      own = c.requires.own;
      work = λ n much. (rw c.batch_asked_by.ensures at c.in-Ok.ensures.within) (n, much);
      solved = subst (λ (o : SolveOptions). AreSolved o batch c.in-Ok-solve_batch.many.items) same c.in-Ok-solve_batch.ensures;
    }
