use Rattle.cert_judge.proofs.Seconds.{seconds_of_one}
use Rattle.cert_judge.proofs.laws.seconds_are_of_one_network.Goals as goal

pub returns : goal.returns
returns c = seconds_of_one
