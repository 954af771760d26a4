use Rattle.std.proofs.Common.{rules}
use Rattle.claimed_calls.proofs.Posting.{goes}
use Rattle.claimed_calls.proofs.post.Mate.go.Goals as goal

pub compare_exchange-requires : goal.compare_exchange-requires
compare_exchange-requires g c =
    let seat = c.args.self.now.seat in
    (c.args.self.now.of, search rules, goes g.J.Job.asks g.J.Job.does _ seat.id seat.me c.args.self.now.is_free)
