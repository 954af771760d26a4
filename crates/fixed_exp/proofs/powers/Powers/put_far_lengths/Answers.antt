use Rattle.std.proofs.Common.{arith}
use Rattle.fixed_exp.proofs.Passes.{put_more, all_put}
use Rattle.fixed_exp.proofs.powers.Powers.put_far_lengths.Goals as goal

pub loop-i-preserved : goal.loop-i-preserved
loop-i-preserved c = record {
  done = put_more c.args.rated.now.scale.now.setting c.args.top c.args.rated.now.least c.args.rated.now.cells.now c.args.loads.now c.loop-i.into c.loop-i.i c.cell_length_by_rate.result (omega arith) c.cell_length_by_rate.ensures c.loop-i.invariant.done;
}

pub returns : goal.returns
returns c = all_put c.args.rated.now.scale.now.setting c.args.top c.args.rated.now.least c.args.rated.now.cells.now c.args.loads.now c.loop-i.into c.requires.loads (omega arith) (λ k l. c.loop-i.invariant.done k (omega arith))
