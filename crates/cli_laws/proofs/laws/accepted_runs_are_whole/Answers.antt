use Rattle.cli_laws.proofs.Asked.{answered}
use Rattle.cli_laws.proofs.laws.accepted_runs_are_whole.Goals as goal

pub returns : goal.returns
returns c = λ files words old new before after ended tells runs accepted calm. answered files words old new before after ended tells runs accepted calm
