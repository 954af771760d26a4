use Rattle.std.proofs.Common.{◌<◌, length, arith}
use Rattle.sndlib_grammar.specs.Rows.{no_demand, names_of_nodes}
use Rattle.sndlib_grammar.specs.Canonical.{demand_line}
use Rattle.solve_cmd.proofs.Steps.{line_more_put, line_stops}
use Rattle.solve_cmd.proofs.canonical.put_demands.Goals as goal

pub returns-in-Err : goal.returns-in-Err
returns-in-Err g c =
    let inside : c.loop-i.i < length c.args.raw.now.demands = omega arith in
    line_stops (demand_line (names_of_nodes c.args.raw.now)) _ _ _ _ _ _ c.in-Err.fault c.args.raw.now.demands c.loop-i.i no_demand inside c.loop-i.invariant c.in-Err.ensures

pub loop-i-preserved : goal.loop-i-preserved
loop-i-preserved g c =
    let inside : c.loop-i.i < length c.args.raw.now.demands = omega arith in
    line_more_put (demand_line (names_of_nodes c.args.raw.now)) _ _ _ _ _ _ c.args.raw.now.demands c.loop-i.i no_demand inside c.loop-i.invariant c.in-Ok.ensures
