use Rattle.cli_laws.proofs.OneScript.{fault_one}
use Rattle.cli_laws.proofs.scripts.script_faults_are_one.Goals as goal

pub returns : goal.returns
returns c = fault_one
