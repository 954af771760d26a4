use Rattle.std.proofs.Common.{rules, ap, subst}
use Rattle.flow_core.specs.Core.{IsStart, claim}
use Rattle.load_table.specs.Rule.{IsStep}
use Rattle.load_table.specs.Seen.{LoadsView}
use Rattle.load_table.proofs.Keeps.{order_of}
use Rattle.load_table.proofs.Alone.{claims_alone}
use Rattle.load_table.proofs.loads.Loads.claim_alone.Goals as goal

pub load-requires : goal.load-requires
load-requires c = (search rules, search rules, claims_alone c.self.inside.table.shared.key _ _ _ (search rules) (search rules) (search rules))

pub returns-clause-order : goal.returns-clause-order
returns-clause-order c =
    let w : IsStep c.args.self.now.terms c.args.pass.now.view.hands c.args.pass.now.seen c.load.new.seat.me.0.seen claim 0 c.index-found.result.now = search rules in
    order_of c.args.self.now.terms c.args.pass.now.view.hands c.args.pass.now.seen c.load.new.seat.me.0.seen claim c.index-found.result.now (subst IsStart (ap (λ (l : LoadsView). l.terms) c.self.view_is) c.self.invariant.is_start) w
