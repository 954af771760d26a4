use Rattle.text_lines.proofs.Putting.{puts_then, puts_stop}
use Rattle.solve_cmd.proofs.entries.put_last_words.Goals as goal

pub returns-in-Err : goal.returns-in-Err
returns-in-Err g c = puts_stop _ _ _ _ _ c.in-Err.fault _ _ c.in-Err.ensures

pub returns : goal.returns
returns g c = puts_then _ _ _ _ _ _ tt c.put.result _ _ c.in-Ok.ensures c.put.ensures
