use Rattle.std.proofs.Common.{arith}
use Rattle.fixed_exp.proofs.Passes.{near_more}
use Rattle.fixed_exp.proofs.powers.Powers.put_near_lengths.Goals as goal

pub loop-i-preserved : goal.loop-i-preserved
loop-i-preserved c = record {
  done = near_more c.args.top c.args.rated.now.least c.args.rated.now.cells.now c.args.kept.now c.loop-i.into c.loop-i.i c.near_length.result (omega arith) c.near_length.ensures c.loop-i.invariant.done;
}

pub returns : goal.returns
returns c = λ k l. c.loop-i.invariant.done k (omega arith)
