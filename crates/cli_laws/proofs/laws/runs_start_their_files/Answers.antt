use Rattle.cli_laws.proofs.Starting.{started}
use Rattle.cli_laws.proofs.laws.runs_start_their_files.Goals as goal

pub returns : goal.returns
returns c = λ words old new before after ended runs. started words old new before after ended runs
