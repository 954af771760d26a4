use Rattle.std.proofs.Common.{◌<◌, length, arith}
use Rattle.sndlib_grammar.specs.Rows.{no_link, names_of_nodes}
use Rattle.sndlib_grammar.specs.Canonical.{link_line}
use Rattle.solve_cmd.proofs.Steps.{line_more_put, line_stops}
use Rattle.solve_cmd.proofs.canonical.put_links.Goals as goal

pub returns-in-Err : goal.returns-in-Err
returns-in-Err g c =
    let inside : c.loop-i.i < length c.args.raw.now.links = omega arith in
    line_stops (link_line (names_of_nodes c.args.raw.now)) _ _ _ _ _ _ c.in-Err.fault c.args.raw.now.links c.loop-i.i no_link inside c.loop-i.invariant c.in-Err.ensures

pub loop-i-preserved : goal.loop-i-preserved
loop-i-preserved g c =
    let inside : c.loop-i.i < length c.args.raw.now.links = omega arith in
    line_more_put (link_line (names_of_nodes c.args.raw.now)) _ _ _ _ _ _ c.args.raw.now.links c.loop-i.i no_link inside c.loop-i.invariant c.in-Ok.ensures
