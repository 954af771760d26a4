use Rattle.net_whatif.proofs.SoundLines.{certificate_lines}
use Rattle.net_whatif.proofs.laws.certificate_lines_are_bounds.Goals as goal

pub returns : goal.returns
returns c = certificate_lines
