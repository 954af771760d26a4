use Rattle.std.proofs.Common.{Err, ap, ◌∙◌}
use Rattle.matrix_batch.specs.ListAnswer.{matrix_view as read_view}
use Rattle.matrix_batch.specs.Steps.{sofar_view}
use Rattle.matrix_batch.proofs.Stepping.{one_refused}
use Rattle.matrix_batch.proofs.scaling.put_matrix.Goals as goal

pub returns-in-Ok-put_refusal : goal.returns-in-Ok-put_refusal
returns-in-Ok-put_refusal c =
    one_refused c.args.raw.now c.in-Ok.rows c.args.options (read_view c.args.list.now) (sofar_view c.args.sofar.now) (sofar_view c.put_refusal.new.sofar) c.scale_at.result c.in-Err-Refused.row
    c.in-Ok.ensures c.scale_at.ensures (c.in-Err-Refused.is ∙ ap (λ e. Err e) c.in-Err-Refused.field-0-is) c.in-Ok-put_refusal.ensures
