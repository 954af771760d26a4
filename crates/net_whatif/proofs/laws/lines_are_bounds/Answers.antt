use Rattle.net_whatif.proofs.SoundLines.{sound_lines}
use Rattle.net_whatif.proofs.laws.lines_are_bounds.Goals as goal

pub returns : goal.returns
returns c = sound_lines
