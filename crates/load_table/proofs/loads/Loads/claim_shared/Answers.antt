use Rattle.std.proofs.Common.{rules, ap, subst}
use Rattle.flow_core.specs.Core.{IsStart, claim}
use Rattle.load_table.specs.Rule.{IsStep}
use Rattle.load_table.specs.Seen.{LoadsView}
use Rattle.load_table.proofs.Keeps.{claims, order_of}
use Rattle.load_table.proofs.loads.Loads.claim_shared.Goals as goal

pub fetch_add-requires : goal.fetch_add-requires
fetch_add-requires c = (search rules, search rules, claims c.self.inside.table.shared.key _ _ _ (search rules) (search rules) (search rules))

pub returns-clause-order : goal.returns-clause-order
returns-clause-order c =
    let w : IsStep c.args.self.now.terms c.args.pass.now.view.hands c.args.pass.now.seen c.fetch_add.new.seat.me.0.seen claim 0 c.fetch_add.result = search rules in
    order_of c.args.self.now.terms c.args.pass.now.view.hands c.args.pass.now.seen c.fetch_add.new.seat.me.0.seen claim c.fetch_add.result (subst IsStart (ap (λ (l : LoadsView). l.terms) c.self.view_is) c.self.invariant.is_start) w
