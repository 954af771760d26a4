use Rattle.sndlib_read.proofs.Answering.{answers, slices}
use Rattle.sndlib_read.proofs.judge.read_net.Goals as goal

pub returns-clause-answer : goal.returns-clause-answer
returns-clause-answer c = answers c.args.text.now c.rows_of_text.result c.rows_of_text.ensures

pub returns-clause-slices : goal.returns-clause-slices
returns-clause-slices c = slices c.args.text.now c.rows_of_text.result c.rows_of_text.ensures
