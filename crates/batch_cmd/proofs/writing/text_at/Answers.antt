use Rattle.std.proofs.Common.{arith}
use Rattle.batch_cmd.proofs.Written.{rows_count, solved_at, text_of_number}
use Rattle.batch_cmd.proofs.writing.text_at.Goals as goal

pub bounds-many-at : goal.bounds-many-at
bounds-many-at c = omega (arith, c.requires.at, rows_count c.args.batch.now c.args.many.now c.requires.solved)

pub text_of-requires : goal.text_of-requires
text_of-requires c = solved_at c.args.batch.now c.args.many.now c.args.at c.index-batch-at.result c.index-many-at.result c.requires.solved c.requires.at c.index-batch-at.is c.index-many-at.is

pub returns : goal.returns
returns c =
    text_of_number c.args.batch.now c.args.many.now c.args.at c.index-batch-at.result c.index-many-at.result c.in_ok-text.text.items c.requires.solved c.requires.at c.index-batch-at.is c.index-many-at.is c.in_ok-text.ensures
