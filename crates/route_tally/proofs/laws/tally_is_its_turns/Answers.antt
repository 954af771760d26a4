use Rattle.route_tally.proofs.TurnSums.{same_carried, same_loads, same_total, collected}
use Rattle.route_tally.proofs.laws.tally_is_its_turns.Goals as goal

pub returns : goal.returns
returns c = λ turns rows is. let from = collected turns rows is in (same_carried turns rows from, same_loads turns rows from, same_total turns rows from)
