use Rattle.text_lines.proofs.Putting.{written_front, written_out}
use Rattle.solve_cmd.proofs.canonical.print_net.Goals as goal

pub returns-in-Err : goal.returns-in-Err
returns-in-Err g c = written_front _ _ _ _ c.in-Err.fault (rw c.new-buffer.ensures at c.in-Err.ensures)

pub returns : goal.returns
returns g c = written_out _ _ _ _ _ _ c.flush.result (rw c.new-buffer.ensures at c.in-Ok.ensures) c.flush.ensures.puts c.flush.ensures.empty
