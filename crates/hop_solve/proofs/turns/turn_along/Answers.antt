use Rattle.std.proofs.Common.{Option, subst}
use Rattle.std.specs.Option.{option_map}
use Rattle.hop_solve.specs.Turns.{lengths_then, IsFound, Finds}
use Rattle.hop_solve.proofs.Turned.{turned-by}
use Rattle.hop_solve.proofs.turns.turn_along.Goals as goal

pub returns-clause-turned : goal.returns-clause-turned
returns-clause-turned c = λ _ before is.
    let net = c.args.on.now.net.now in
    let limits = c.args.on.now.limits.now in
    let found : IsFound net limits (lengths_then c.args.routed.now) c.args.k c.in-Some.path.now
    = subst (λ (o : Option _). Finds net limits (lengths_then c.args.routed.now) c.args.k (option_map (λ path. path.now) o)) c.in-Some.is c.requires.found in
    turned-by net limits before c.args.k c.args.amount c.in-Some.path.now c.args.routed.now c.route.new.routed found c.requires.amount is (c.in_ok-route.ensures.routed before is)
