use Rattle.sndlib_grammar.specs.Rows.{AreNetRows}
use Rattle.matrix_batch.specs.ListAnswer.{matrix_view as read_view}
use Rattle.matrix_batch.specs.Lists.{NamedDemands}
use Rattle.matrix_batch.specs.Scaled.{own_rows}
use Rattle.matrix_batch.specs.Steps.{sofar_view}
use Rattle.matrix_batch.proofs.Stepping.{image_at, stopped}
use Rattle.matrix_batch.proofs.scaling.scale_all.Goals as goal

pub put_matrix-requires : goal.put_matrix-requires
put_matrix-requires c =
    image_at (λ (m : NamedDemands). AreNetRows (own_rows c.args.raw.now m)) read_view c.args.lists.now c.loop-list.list-index c.list-item.result c.requires c.loop-list-test.true c.list-item.is

pub returns-in-Err : goal.returns-in-Err
returns-in-Err c =
    stopped c.args.raw.now c.args.options c.args.lists.now c.loop-list.list-index c.list-item.result (sofar_view c.loop-list.sofar) (sofar_view c.put_matrix.new.sofar) c.in-Err.end c.put_matrix.result
    c.loop-list-test.true c.list-item.is c.loop-list.invariant c.put_matrix.ensures c.in-Err.is
