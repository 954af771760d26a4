use Rattle.cli_laws.proofs.Seconds.{seconds_refused}
use Rattle.cli_laws.proofs.papers.second_refusals.Goals as goal

pub returns : goal.returns
returns c = seconds_refused
