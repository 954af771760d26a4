use Rattle.std.proofs.Common.{◌≡◌, List, None, subst, sym, ◌∙◌}
use Rattle.std.specs.Prelude.{map}
use Rattle.matrix_batch.specs.Faults.{fine_link}
use Rattle.matrix_batch.specs.declared.row.MatrixRows.{MatrixRows}
use Rattle.matrix_batch.specs.ListAnswer.{matrix_view as read_view, matrices_view}
use Rattle.matrix_batch.specs.Steps.{AreScaled}
use Rattle.matrix_batch.proofs.Answered.{answers_scaled, own}
use Rattle.matrix_batch.proofs.batch.read_batch.Goals as goal

pub returns-in-Ok-None-clause-answer : goal.returns-in-Ok-None-clause-answer
returns-in-Ok-None-clause-answer c =
    let links : fine_link c.args.options.modules c.args.raw.now ≡ None = sym c.in-Ok-None.ensures ∙ c.in-Ok-None.field-0-is in
    let scaled = subst (λ (ms : List MatrixRows). AreScaled c.args.raw.now c.args.options (map read_view ms) c.scale_all.result) c.deref.ensures.value c.scale_all.ensures in
    answers_scaled c.args.raw.now c.args.options c.args.text.now (matrices_view c.in-Ok.lists) c.scale_all.result c.what_is_read_is_scaled.ensures c.in-Ok.ensures.answer links scaled

pub returns-in-Ok-None-clause-own : goal.returns-in-Ok-None-clause-own
returns-in-Ok-None-clause-own c =
    let links : fine_link c.args.options.modules c.args.raw.now ≡ None = sym c.in-Ok-None.ensures ∙ c.in-Ok-None.field-0-is in
    let scaled = subst (λ (ms : List MatrixRows). AreScaled c.args.raw.now c.args.options (map read_view ms) c.scale_all.result) c.deref.ensures.value c.scale_all.ensures in
    own c.args.raw.now c.args.options c.args.text.now c.scale_all.result c.nodes-nodes.ensures.rows
    (answers_scaled c.args.raw.now c.args.options c.args.text.now (matrices_view c.in-Ok.lists) c.scale_all.result c.what_is_read_is_scaled.ensures c.in-Ok.ensures.answer links scaled)
