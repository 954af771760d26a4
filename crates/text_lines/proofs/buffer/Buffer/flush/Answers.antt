use Rattle.text_lines.proofs.Putting.{broken_off}
use Rattle.text_lines.proofs.buffer.Buffer.flush.Goals as goal

pub returns-in-Err-clause-puts : goal.returns-in-Err-clause-puts
returns-in-Err-clause-puts g c = broken_off _ _ _ _ c.in-Err.fault c.self.view_is c.in-Err.ensures
