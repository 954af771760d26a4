use Rattle.std.proofs.Common.{[]}
use Rattle.text_lines.proofs.Putting.{puts_then, puts_stop}
use Rattle.text_lines.proofs.buffer.Buffer.put.Goals as goal

pub returns-in-Err : goal.returns-in-Err
returns-in-Err g c = puts_stop _ _ _ _ _ c.in-Err.fault [] c.args.piece.now c.in-Err.ensures.puts

pub returns : goal.returns
returns g c = puts_then _ _ _ _ _ _ tt c.put_first.result [] c.args.piece.now c.in-Ok.ensures.puts c.put_first.ensures
