use Rattle.std.proofs.Common.{rules}
use Rattle.net_solve.specs.Solving.{IsDone}
use Rattle.solve_cmd.specs.Solve.{asked_of}
use Rattle.solve_cmd.proofs.solve.solve_and_tell.Goals as goal

pub tell_solved-requires-clause-of : goal.tell_solved-requires-clause-of
tell_solved-requires-clause-of g c =
    let done : IsDone c.args.raw.now c.args.request.now.net (asked_of c.args.request.now) c.in-Ok-Done.net c.in-Ok-Done.solved = search rules in
    record { well = c.requires.rows; options = c.args.request.now.net; scaled = done.network }
