use Rattle.cli_laws.proofs.LineKinds.{layer_fault, threshold_fault}
use Rattle.cli_laws.proofs.kinds.layers_and_thresholds_say_why.Goals as goal

pub returns : goal.returns
returns c = record { layers = layer_fault; thresholds = threshold_fault }
