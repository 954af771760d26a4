use Rattle.text_lines.proofs.Joining.{line_first_stops, line_words_stop, line_put}
use Rattle.text_lines.proofs.buffer.Buffer.put_line.Goals as goal

pub returns-in-Err : goal.returns-in-Err
returns-in-Err g c = line_first_stops _ _ _ _ c.in-Err.fault c.args.first.now _ c.in-Err.ensures

pub returns-in-Err-put_words : goal.returns-in-Err-put_words
returns-in-Err-put_words g c = line_words_stop _ _ _ _ _ _ c.in-Err-put_words.fault c.args.first.now _ c.in-Ok.ensures c.in-Err-put_words.ensures

pub returns : goal.returns
returns g c = line_put _ _ _ _ _ _ _ _ c.put-2.result c.args.first.now _ c.in-Ok.ensures c.in-Ok-put_words.ensures c.put-2.ensures
