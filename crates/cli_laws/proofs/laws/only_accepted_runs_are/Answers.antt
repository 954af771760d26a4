use Rattle.cli_laws.proofs.Asked.{accepted}
use Rattle.cli_laws.proofs.laws.only_accepted_runs_are.Goals as goal

pub returns : goal.returns
returns c = λ files words old new before after ended tells runs full. accepted files words old new before after ended tells runs full
