use Rattle.text_lines.proofs.Joining.{one_word_on, word_stops}
use Rattle.text_lines.proofs.buffer.Buffer.put_words.Goals as goal

pub returns-in-Err : goal.returns-in-Err
returns-in-Err g c = word_stops (λ w. w.now) _ _ _ _ _ _ c.in-Err.fault c.args.words.now c.loop-word.word-index _ c.loop-word-test.true c.loop-word.invariant c.in-Err.ensures

pub loop-word-preserved : goal.loop-word-preserved
loop-word-preserved g c = one_word_on (λ w. w.now) _ _ _ _ _ _ c.args.words.now c.loop-word.word-index _ c.loop-word-test.true c.loop-word.invariant c.in-Ok.ensures
