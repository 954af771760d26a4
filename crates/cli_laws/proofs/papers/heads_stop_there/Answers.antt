use Rattle.cli_laws.proofs.Heads.{head_stops}
use Rattle.cli_laws.proofs.papers.heads_stop_there.Goals as goal

pub returns : goal.returns
returns c = head_stops
