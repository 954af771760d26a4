use Rattle.flow_core.proofs.Whole.{whole}
use Rattle.flow_core.proofs.finished.Goals as goal

pub returns : goal.returns
returns c t es h legal stopped complete = whole t es h legal stopped complete
