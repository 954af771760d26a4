use Rattle.std.proofs.Common.{refl}
use Rattle.base_cmd.specs.Answer.{text_answer}
use Rattle.base_cmd.proofs.Ending.{ends_as}
use Rattle.solve_cmd.proofs.drawn.write_drawn.Goals as goal

pub returns : goal.returns
returns g c = ends_as _ _ _ c.write_all_of.result 0 c.nothing.result (text_answer c.args.text.now) refl c.nothing.ensures c.end_of.ensures (rw c.as_bytes.ensures.value at c.write_all_of.ensures)
