use Rattle.unit_scale.proofs.WholeScaling.{scales}
use Rattle.unit_scale.proofs.scaled.scale_at.Goals as goal

pub returns : goal.returns
returns c = scales c.args.raw.now c.args.options c.scale_by_parts.result c.scale_by_parts.ensures
