use Rattle.route_tally.proofs.Counted.{counted}
use Rattle.route_tally.proofs.laws.weights_are_counted.Goals as goal

pub returns : goal.returns
returns c = λ amount turns rows is are. counted amount turns rows is are
