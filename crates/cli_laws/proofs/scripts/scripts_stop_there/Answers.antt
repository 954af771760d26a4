use Rattle.cli_laws.proofs.Tokens.{stopped}
use Rattle.cli_laws.proofs.scripts.scripts_stop_there.Goals as goal

pub returns : goal.returns
returns c = stopped
