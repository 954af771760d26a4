use Rattle.cli_laws.proofs.OneScript.{is_read}
use Rattle.cli_laws.proofs.scripts.script_reasons_refuse.Goals as goal

pub returns : goal.returns
returns c = is_read
