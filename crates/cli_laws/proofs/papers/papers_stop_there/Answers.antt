use Rattle.cli_laws.proofs.Stops.{stops}
use Rattle.cli_laws.proofs.papers.papers_stop_there.Goals as goal

pub returns : goal.returns
returns c = stops
