use Rattle.std.specs.Fork.{AcceptsAt, ChangesAt}
use Rattle.mcf_base.proofs.Chunks.{of_only, of_front, of_back, by_only, by_both}
use Rattle.mcf_base.proofs.chain.+chain.Goals as goal

pub chain-call-requires : goal.chain-call-requires
chain-call-requires g t c = of_only (AcceptsAt g.F.Fn c.args.work.now) c.args.base c.args.size c.args.items.now c.if-items-size.true c.requires

pub chain-returns-then-items-size : goal.chain-returns-then-items-size
chain-returns-then-items-size g t c =
    by_only (ChangesAt g.F.Fn c.args.work.now) c.args.base c.args.size c.args.items.now c.call.new.chunk c.requires.some c.if-items-size.true c.call.auto.chunk c.call.ensures

pub chain-first_and_rest-requires-clause-first : goal.chain-first_and_rest-requires-clause-first
chain-first_and_rest-requires-clause-first g t c κs within =
    let cut = c.split_at_mut-first in
    of_front (AcceptsAt g.F.Fn c.args.work.now) c.args.base c.args.size c.args.items.now cut.result.0.now cut.result.1.now cut.ensures.value cut.ensures.front_len c.requires

pub chain-first_and_rest-requires-clause-rest : goal.chain-first_and_rest-requires-clause-rest
chain-first_and_rest-requires-clause-rest g t c κs within =
    let cut = c.split_at_mut-first in
    of_back (AcceptsAt g.F.Fn c.args.work.now) c.args.base c.args.size c.args.items.now cut.result.0.now cut.result.1.now cut.ensures.value cut.ensures.front_len c.if-items-size.false c.requires

pub chain-returns : goal.chain-returns
chain-returns g t c =
    let cut = c.split_at_mut-first in let both = c.first_and_rest in
    by_both (ChangesAt g.F.Fn c.args.work.now) c.args.base c.args.size c.args.items.now cut.result.0.now cut.result.1.now both.new.first both.new.rest
    cut.ensures.value cut.ensures.front_len both.auto.first c.requires.some_size both.ensures.first both.ensures.rest
