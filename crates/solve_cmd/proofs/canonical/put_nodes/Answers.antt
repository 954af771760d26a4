use Rattle.std.proofs.Common.{◌<◌, length, arith}
use Rattle.sndlib_grammar.specs.Rows.{no_node}
use Rattle.sndlib_grammar.specs.Canonical.{node_line}
use Rattle.solve_cmd.proofs.Steps.{line_more_put, line_stops}
use Rattle.solve_cmd.proofs.canonical.put_nodes.Goals as goal

pub returns-in-Err : goal.returns-in-Err
returns-in-Err g c =
    let inside : c.loop-i.i < length c.args.raw.now.nodes = omega arith in
    line_stops node_line _ _ _ _ _ _ c.in-Err.fault c.args.raw.now.nodes c.loop-i.i no_node inside c.loop-i.invariant c.in-Err.ensures

pub loop-i-preserved : goal.loop-i-preserved
loop-i-preserved g c =
    let inside : c.loop-i.i < length c.args.raw.now.nodes = omega arith in
    line_more_put node_line _ _ _ _ _ _ c.args.raw.now.nodes c.loop-i.i no_node inside c.loop-i.invariant c.in-Ok.ensures
