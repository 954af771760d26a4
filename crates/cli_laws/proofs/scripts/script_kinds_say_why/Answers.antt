use Rattle.cli_laws.proofs.TokenKinds.{kind_of_refusal}
use Rattle.cli_laws.proofs.scripts.script_kinds_say_why.Goals as goal

pub returns : goal.returns
returns c = kind_of_refusal
