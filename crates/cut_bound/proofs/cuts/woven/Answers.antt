use Rattle.std.proofs.Common.{◌<◌, length, arith}
use Rattle.cut_bound.proofs.Levelling.{woven-more}
use Rattle.cut_bound.proofs.cuts.woven.Goals as goal

pub loop-i-preserved : goal.loop-i-preserved
loop-i-preserved c =
    let i = c.loop-i.i in
    let first : i < length c.args.first.now = omega arith in
    let second : i < length c.args.second.now = omega arith in
    woven-more c.args.first.now c.args.second.now i _ _ c.loop-i.cuts.items c.push.new.self.items c.push-in-loop-i.new.self.items first second c.loop-i.invariant c.in_ok-push.ensures.items c.in_ok-push-2.ensures.items
