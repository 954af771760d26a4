use Rattle.route_tally.proofs.Unique.{unique}
use Rattle.route_tally.proofs.laws.tally_is_unique.Goals as goal

pub returns : goal.returns
returns c = λ turns rows others is is'. unique turns rows others is is'
