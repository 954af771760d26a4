use Rattle.text_lines.proofs.Putting.{puts_past}
use Rattle.text_lines.proofs.buffer.Buffer.put_first.Goals as goal

pub returns-then-not-has_room : goal.returns-then-not-has_room
returns-then-not-has_room g c = puts_past _ _ c.args.self.now c.args.piece.now c.write_all_of.result c.requires c.write_all_of.ensures
