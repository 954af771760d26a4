use Rattle.std.proofs.Common.{◌∷◌, []}
use Rattle.text_lines.specs.Spelling.{behind}
use Rattle.text_lines.proofs.Putting.{puts_then, puts_stop}
use Rattle.cert_lines.specs.Sheet.{cell_word}
use Rattle.cert_writer.proofs.LinePuts.{word_alone}
use Rattle.cert_writer.proofs.writing.put_cell_front.Goals as goal

pub returns-in-Err : goal.returns-in-Err
returns-in-Err g c = puts_stop _ _ _ _ _ c.in-Err.fault c.args.first.now (behind (cell_word c.args.names.now c.args.cell ∷ [])) c.in-Err.ensures

pub returns : goal.returns
returns g c =
    let word = cell_word c.args.names.now c.args.cell in
    puts_then _ _ _ _ _ _ tt c.put_cell.result c.args.first.now (behind (word ∷ [])) c.in-Ok.ensures (word_alone _ _ _ _ c.put_cell.result word c.put_cell.ensures)
