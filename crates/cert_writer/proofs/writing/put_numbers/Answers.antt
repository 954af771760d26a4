use Rattle.std.specs.Fmt.{decimal}
use Rattle.text_lines.proofs.Joining.{one_word_on, word_stops}
use Rattle.cert_writer.proofs.writing.put_numbers.Goals as goal

pub returns-in-Err : goal.returns-in-Err
returns-in-Err g c = word_stops decimal _ _ _ _ _ _ c.in-Err.fault c.args.numbers.now c.loop-number.number-index 0 c.loop-number-test.true c.loop-number.invariant (rw (c.bytes.ensures, c.number.ensures) at c.in-Err.ensures)

pub loop-number-preserved : goal.loop-number-preserved
loop-number-preserved g c = one_word_on decimal _ _ _ _ _ _ c.args.numbers.now c.loop-number.number-index 0 c.loop-number-test.true c.loop-number.invariant (rw (c.bytes.ensures, c.number.ensures) at c.in-Ok.ensures)
