use Rattle.route_tally.proofs.TurnSums.{same_carried, same_loads, same_total}
use Rattle.route_tally.proofs.laws.rows_are_their_turns.Goals as goal

pub returns : goal.returns
returns c = λ turns rows from. (same_carried turns rows from, same_loads turns rows from, same_total turns rows from)
