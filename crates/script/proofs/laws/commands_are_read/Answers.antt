use Rattle.script.proofs.Spelled.{commands_read}
use Rattle.script.proofs.laws.commands_are_read.Goals as goal

pub returns : goal.returns
returns c = commands_read
