use Rattle.std.proofs.Common.{rules, ◌∙◌, Some}
use Rattle.claimed_calls.specs.declared.role.Role.TheVariants.{Gives}
use Rattle.claimed_calls.proofs.Posting.{recalls, recalled_there, in_hand}
use Rattle.claimed_calls.proofs.post.End.recall.Goals as goal

pub compare_exchange-requires : goal.compare_exchange-requires
compare_exchange-requires g c =
    let seat = c.args.self.now.seat in
    let out = c.args.self.now.is_end.1 c.requires in
    (c.args.self.now.of, search rules, recalls g.J.Job.asks g.J.Job.does _ seat.id seat.me out.0 out.1)

pub exchange-requires : goal.exchange-requires
exchange-requires g c =
    let t = recalled_there g.J.Job.asks g.J.Job.does c.args.self.now.seat.me c.compare_exchange.new.seat.me c.compare_exchange.result c.if-compare_exchange-ne-HANDED.false c.compare_exchange.ensures.2 in
    (c.compare_exchange.ensures.0 ∙ c.args.self.now.of, (Some t.job, in_hand c.compare_exchange.new.seat.me Gives (Some t.job) t.now))
