use Rattle.unit_scale.specs.Stages.{kept_view}
use Rattle.unit_scale.proofs.Keeping.{InKept}
use Rattle.unit_scale.proofs.commodities.kept_demands.Given as goal

abbrev pub invariant-loop-i : goal.invariant-loop-i
invariant-loop-i l = InKept l.decimals l.raw.demands l.sizes l.i l.i-end l.unit l.total (kept_view l.kept)
