use Rattle.std.proofs.Common.{[], ◌∷◌}
use Rattle.text_lines.proofs.Putting.{puts_then, puts_stop}
use Rattle.text_lines.proofs.buffer.Buffer.put_word.Goals as goal

pub returns-in-Err : goal.returns-in-Err
returns-in-Err g c = puts_stop _ _ _ _ _ c.in-Err.fault (32 ∷ []) c.args.word.now c.in-Err.ensures

pub returns : goal.returns
returns g c = puts_then _ _ _ _ _ _ tt c.put-2.result (32 ∷ []) c.args.word.now c.in-Ok.ensures c.put-2.ensures
