use Rattle.std.proofs.Common.{arith}
use Rattle.matrix_batch.specs.Views.{batch_view}
use Rattle.batch_cmd.proofs.Written.{all_joined, rows_count, same_count}
use Rattle.batch_cmd.proofs.writing.texts_of.Goals as goal

pub returns : goal.returns
returns g c =
    let batch = batch_view c.args.batch.now in
    let many = c.args.many.now in
    let rows = rows_count c.args.batch.now many c.requires in
    let views = same_count batch many c.requires in
    all_joined batch many c.in_ok-texts.texts.items c.requires (omega (arith, rows, views, c.in_ok-texts.ensures.count)) (λ i d lt. c.in_ok-texts.ensures.each i d (omega (arith, rows, views, lt)))
