use Rattle.solve_cmd.proofs.Trying.{told_text}
use Rattle.solve_cmd.proofs.drawn.try_text.Goals as goal

pub returns-in-Ok : goal.returns-in-Ok
returns-in-Ok g c = told_text c.args.request.now c.args.text.now c.in-Ok.raw _ _ _ c.requires.text c.in-Ok.ensures.rows c.try_rows.ensures
