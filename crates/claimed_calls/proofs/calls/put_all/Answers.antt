use Rattle.std.proofs.Common.{None, get_or, arith}
use Rattle.claimed_calls.specs.Answers.{AreClaimed}
use Rattle.claimed_calls.proofs.Claiming.{first_of, rest_of, slot_put}
use Rattle.claimed_calls.proofs.calls.put_all.Goals as goal

pub loop-entries-preserved : goal.loop-entries-preserved
loop-entries-preserved g c =
    let P = λ (entries : _). AreClaimed g.F.Fn c.args._work.now entries.items in
    let all = c.loop-entries.entries-iterator.rest.items in
    record {
      left = rest_of P all c.in-Some.entries c.next.new.self.rest.items c.in-Some.ensures.steps.0 c.loop-entries.invariant.left;
      filled = λ i lt. slot_put g.F.Fn c.args._work.now c.in-Some.entries.items i (get_or c.loop-entries.slots i None) (get_or c.put.new.slots i None)
          (first_of P all c.in-Some.entries c.next.new.self.rest.items c.in-Some.ensures.steps.0 c.loop-entries.invariant.left)
          (c.loop-entries.invariant.filled i lt) (c.put.ensures i (omega arith));
    }
