use Rattle.script.proofs.Found.{read_commands}
use Rattle.script.proofs.laws.read_are_commands.Goals as goal

pub returns : goal.returns
returns c = read_commands
