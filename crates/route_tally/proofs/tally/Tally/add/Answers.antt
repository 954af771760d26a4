use Rattle.std.proofs.Common.{◌+◌, ◌≤◌, List, length, sym, subst}
use Rattle.mcf_limits.specs.declared.TheConstants.{MAX_LENGTH}
use Rattle.flow_model.specs.Routing.{Row, carried}
use Rattle.route_tally.specs.Tally.{TakesTurn}
use Rattle.route_tally.proofs.Adding.{fits, takes_turn, one_more}
use Rattle.route_tally.proofs.tally.Tally.add.Goals as goal

pub add-requires-clause-weight : goal.add-requires-clause-weight
add-requires-clause-weight c =
    let within : carried c.self.inside.paths c.args.k + c.args.amount ≤ MAX_LENGTH = subst (λ (t : List Row). carried t c.args.k + c.args.amount ≤ MAX_LENGTH) (sym c.self.view_is) c.requires.weight in
    λ n first. fits c.self.inside.paths c.args.k c.args.path.now n c.args.amount MAX_LENGTH first within

pub returns-clause-ok : goal.returns-clause-ok
returns-clause-ok c =
    let turn : Row = record { commodity = c.args.k; walk = c.args.path.now; weight = c.args.amount } in
    subst (λ (t : List Row). TakesTurn t c.add.new.self turn) c.self.view_is (takes_turn c.self.inside.paths c.add.new.self turn _ c.in_ok-add.ensures.ok)

pub returns-clause-most : goal.returns-clause-most
returns-clause-most c = subst (λ (t : List Row). length c.add.new.self ≤ length t + 1) c.self.view_is (one_more c.self.inside.paths c.add.new.self c.args.k c.args.path.now c.args.amount _ c.in_ok-add.ensures.ok)
