use Rattle.std.proofs.Common.{rules, ◌∙◌, Some, None}
use Rattle.claimed_calls.specs.declared.role.Role.TheVariants.{Gives}
use Rattle.claimed_calls.proofs.Posting.{leaves, not_there, in_hand, put_in}
use Rattle.claimed_calls.proofs.post.End.hand.Goals as goal

pub compare_exchange-requires : goal.compare_exchange-requires
compare_exchange-requires g c =
    let idle = c.args.self.now.is_end.0 c.if-self.false in
    let full = put_in c.args.self.now.seat.me c.exchange.new.seat.me Gives None (Some c.args.job) idle c.exchange.ensures.3 in
    (c.exchange.ensures.0 ∙ c.args.self.now.of, search rules, leaves g.J.Job.asks g.J.Job.does _ _ c.exchange.new.seat.me c.args.job full c.requires)

pub exchange-requires-2 : goal.exchange-requires-2
exchange-requires-2 g c =
    let idle = c.args.self.now.is_end.0 c.if-self.false in
    let full = put_in c.args.self.now.seat.me c.exchange.new.seat.me Gives None (Some c.args.job) idle c.exchange.ensures.3 in
    let same = not_there _ 0 c.exchange.new.seat.me c.compare_exchange.new.seat.me c.compare_exchange.result c.if-compare_exchange-eq-FREE.false c.compare_exchange.ensures.2 in
    (c.compare_exchange.ensures.0 ∙ (c.exchange.ensures.0 ∙ c.args.self.now.of), (Some c.args.job, in_hand c.compare_exchange.new.seat.me Gives (Some c.args.job) (same ∙ full)))
