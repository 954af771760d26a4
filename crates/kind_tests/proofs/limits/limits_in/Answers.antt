use Rattle.unit_scale.specs.declared.options.NetOptions.{NetOptions}
use Rattle.unit_scale.specs.declared.modes.LinkMode.TheVariants.{Undirected}
use Rattle.unit_scale.specs.declared.modes.ModuleMode.TheVariants.{Ignore}
use Rattle.hop_check.proofs.KeptDemands.{scaled_keeps}
use Rattle.kind_tests.proofs.limits.limits_in.Goals as goal

pub hop_limits-requires : goal.hop_limits-requires
hop_limits-requires c =
    let o : NetOptions = record { links = Undirected; modules = Ignore } in
    scaled_keeps c.in-Ok.raw o c.in-Ok-scale.scaled c.in-Ok-scale.ensures
