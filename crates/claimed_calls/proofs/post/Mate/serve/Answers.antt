use Rattle.std.proofs.Common.{rules, ◌∙◌, Some, None, sym, subst}
use Rattle.claimed_calls.specs.declared.role.Role.TheVariants.{Serving}
use Rattle.claimed_calls.proofs.Posting.{takes_job, finishes, taken_there, in_hand, put_in, found_in, some_of}
use Rattle.claimed_calls.proofs.post.Mate.serve.Goals as goal

pub compare_exchange-requires : goal.compare_exchange-requires
compare_exchange-requires g c =
    let seat = c.args.self.now.seat in
    (c.args.self.now.of, search rules, takes_job g.J.Job.asks g.J.Job.does _ seat.id seat.me c.args.self.now.is_free)

pub exchange-requires : goal.exchange-requires
exchange-requires g c =
    let t = taken_there g.J.Job.asks g.J.Job.does c.args.self.now.seat.me c.compare_exchange.new.seat.me c.compare_exchange.result c.if-compare_exchange-ne-HANDED.false c.compare_exchange.ensures.2 in
    (c.compare_exchange.ensures.0 ∙ c.args.self.now.of, (Some t.job, in_hand c.compare_exchange.new.seat.me (Serving t.job) (Some t.job) t.now))

pub work-requires : goal.work-requires
work-requires g c =
    let t = taken_there g.J.Job.asks g.J.Job.does c.args.self.now.seat.me c.compare_exchange.new.seat.me c.compare_exchange.result c.if-compare_exchange-ne-HANDED.false c.compare_exchange.ensures.2 in
    let same = some_of t.job (sym c.in-Some.is ∙ found_in c.compare_exchange.new.seat.me (Serving t.job) (Some t.job) c.exchange.result t.now c.exchange.ensures.2) in
    subst g.J.Job.asks (sym same) t.may

pub store-requires : goal.store-requires
store-requires g c =
    let t = taken_there g.J.Job.asks g.J.Job.does c.args.self.now.seat.me c.compare_exchange.new.seat.me c.compare_exchange.result c.if-compare_exchange-ne-HANDED.false c.compare_exchange.ensures.2 in
    let same = some_of t.job (sym c.in-Some.is ∙ found_in c.compare_exchange.new.seat.me (Serving t.job) (Some t.job) c.exchange.result t.now c.exchange.ensures.2) in
    let empty = put_in c.compare_exchange.new.seat.me c.exchange.new.seat.me (Serving t.job) (Some t.job) None t.now c.exchange.ensures.3 in
    let full = put_in c.exchange.new.seat.me c.exchange-in-Some.new.seat.me (Serving t.job) None (Some c.work.result) empty c.exchange-in-Some.ensures.3 in
    let did = subst (λ j. g.J.Job.does j c.work.result) same c.work.ensures in (
      c.exchange-in-Some.ensures.0 ∙ (c.exchange.ensures.0 ∙ (c.compare_exchange.ensures.0 ∙ c.args.self.now.of)),
      search rules,
      finishes g.J.Job.asks g.J.Job.does _ _ c.exchange-in-Some.new.seat.me t.job c.work.result full did,
    )
