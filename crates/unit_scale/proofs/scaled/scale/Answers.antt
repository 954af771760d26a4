use Rattle.std.proofs.Common.{Err, ap, ◌∙◌}
use Rattle.unit_scale.proofs.WholeScaling.{refused_at_row}
use Rattle.unit_scale.proofs.scaled.scale.Goals as goal

pub returns-in-Err-Refused : goal.returns-in-Err-Refused
returns-in-Err-Refused c =
    refused_at_row c.args.raw.now c.args.options c.in-Err-Refused.row c.scale_at.result c.scale_at.ensures (c.in-Err-Refused.is ∙ ap (λ e. Err e) c.in-Err-Refused.field-0-is)
