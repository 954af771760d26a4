use Rattle.std.proofs.Common.{Ok, Err}
use Rattle.matrix_batch.specs.ReadViews.{sofar_view}
use Rattle.matrix_batch.proofs.Answering.{kept_of, judged_answers, end_answers, sound_rows, words_in}
use Rattle.matrix_batch.proofs.judge.read_list.Goals as goal

pub returns-in-Ok-clause-answer : goal.returns-in-Ok-clause-answer
returns-in-Ok-clause-answer c =
    let kept = kept_of c.args.text.now (Ok c.in-Ok.kept) c.new.result.tokens c.end_line.result c.new.ensures.tokens c.end_line.ensures c.in-Ok.ensures in
    judged_answers c.args.raw.now c.args.text.now (sofar_view c.in-Ok.kept) c.judge.result kept c.judge.ensures

pub returns-in-Ok-clause-rows : goal.returns-in-Ok-clause-rows
returns-in-Ok-clause-rows c = sound_rows c.args.raw.now c.args.text.now c.judge.result c.nodes-nodes.ensures.rows (returns-in-Ok-clause-answer c)

pub returns-in-Ok-clause-slices : goal.returns-in-Ok-clause-slices
returns-in-Ok-clause-slices c = words_in c.args.raw.now c.args.text.now c.judge.result (returns-in-Ok-clause-answer c)

pub returns-in-Err-clause-answer : goal.returns-in-Err-clause-answer
returns-in-Err-clause-answer c = end_answers c.args.raw.now c.args.text.now c.in-Err.e (kept_of c.args.text.now (Err c.in-Err.e) c.new.result.tokens c.end_line.result c.new.ensures.tokens c.end_line.ensures c.in-Err.ensures)
