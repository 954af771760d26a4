use Rattle.text_lines.proofs.Putting.{written_front, written_out}
use Rattle.kind_texts.proofs.hops_writer.put_whole.Goals as goal

pub returns-in-Err : goal.returns-in-Err
returns-in-Err g c = written_front _ _ _ _ c.in-Err.fault (rw c.requires.none at c.in-Err.ensures)

pub returns : goal.returns
returns g c = written_out _ _ _ _ _ _ c.flush.result (rw c.requires.none at c.in-Ok.ensures) c.flush.ensures.puts c.flush.ensures.empty
