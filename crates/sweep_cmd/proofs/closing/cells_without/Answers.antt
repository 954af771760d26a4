use Rattle.sweep_cmd.proofs.Shutting.{shut_more, shut_all}
use Rattle.sweep_cmd.proofs.closing.cells_without.Goals as goal

pub loop-c-preserved : goal.loop-c-preserved
loop-c-preserved c =
    shut_more c.args.mode c.args.cells.now c.loop-c.list.items _ c.args.link c.loop-c.c _ c.shut.result c.loop-c-test.true c.loop-c.invariant c.shut.ensures c.in_ok-push.ensures.items

pub returns : goal.returns
returns c = shut_all c.args.mode c.args.cells.now c.loop-c.list.items c.args.link c.loop-c.c c.loop-c-test.false c.loop-c.invariant
