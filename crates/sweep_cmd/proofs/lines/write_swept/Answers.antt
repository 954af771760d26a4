use Rattle.sweep_cmd.proofs.Written.{line_wrote, line_stops, all_written}
use Rattle.sweep_cmd.proofs.lines.write_swept.Goals as goal

pub loop-i-preserved : goal.loop-i-preserved
loop-i-preserved g c =
    line_wrote _ _ _ (λ id. id.now) c.args.ids.now c.args.swept.now c.loop-i.i _ c.index-swept-i.result c.requires c.loop-i-test.true c.index-swept-i.is c.loop-i.invariant c.in-Ok.ensures

pub returns-in-Err : goal.returns-in-Err
returns-in-Err g c =
    line_stops _ _ _ c.in-Err.fault (λ id. id.now) c.args.ids.now c.args.swept.now c.loop-i.i _ c.index-swept-i.result c.requires c.loop-i-test.true c.index-swept-i.is c.loop-i.invariant c.in-Err.ensures

pub returns : goal.returns
returns g c = all_written _ _ (λ id. id.now) c.args.ids.now c.args.swept.now c.loop-i.i c.requires c.loop-i-test.false c.loop-i.invariant
