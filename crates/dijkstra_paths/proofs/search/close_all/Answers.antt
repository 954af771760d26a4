use Rattle.std.proofs.Common.{◌∙◌, arith}
use Rattle.dijkstra_paths.specs.Tree.{AreSameSlices}
use Rattle.dijkstra_paths.proofs.Relaxed.{state-popped, state-closed}
use Rattle.dijkstra_paths.proofs.search.close_all.Goals as goal

pub loop-count-preserved : goal.loop-count-preserved
loop-count-preserved c =
    let f = c.go_on-count.new.front in
    let kept : AreSameSlices c.loop-count.front f = c.go_on-count.ensures.slices in
    let before : AreSameSlices c.args.front.now c.loop-count.front = c.loop-count.invariant.same in
    record {
      state = state-closed c.args.graph.now.cells c.args.lengths.now c.args.from c.pop-node.result f.dist.now f.steps.now f.order.now f.place.now c.go_on-count.result
          c.go_on-count.ensures.state c.go_on-count.ensures.done;
      nodes = omega arith;
      keys = c.go_on-count.ensures.keys;
      same = (kept.0 ∙ before.0, kept.1 ∙ before.1, kept.2 ∙ before.2, kept.3 ∙ before.3, kept.4 ∙ before.4);
    }

pub go_on-count-requires-clause-state : goal.go_on-count-requires-clause-state
go_on-count-requires-clause-state c =
    let f = c.loop-count.front in
    state-popped c.args.graph.now.cells c.args.lengths.now c.args.from c.pop-node.result f.dist.now f.steps.now f.order.now f.place.now c.pop-node.new.order c.pop-node.new.place
    c.loop-count.count c.loop-count.invariant.state c.pop-node.ensures.inverse (omega arith) (omega arith) c.pop-node.ensures.closed c.pop-node.ensures.others
