use Rattle.std.proofs.Common.{◌<◌, ◌≤◌, length, get_or, eqb, arith}
use Rattle.std.specs.Prelude.{count_by}
use Rattle.std.proofs.lemmas.List.{length-set}
use Rattle.flow_paths.specs.DualRows.{no_potential}
use Rattle.flow_paths.proofs.Counting.{numbered}
use Rattle.flow_paths.proofs.places.row_places.Goals as goal

pub loop-i-preserved : goal.loop-i-preserved
loop-i-preserved c =
    let rows = c.args.dual.now.potentials in
    let table = c.loop-i.places.items in
    let i = c.loop-i.i in
    let at = c.row_node.result in
    let lt : i < length rows = omega arith in
    let named : (get_or rows i no_potential).node < c.args.nodes = c.requires.named i no_potential lt in
    let inside : at < length table = omega arith in
    let once : count_by (λ r. eqb r.node at) rows ≤ 1 = c.requires.once at (omega arith) in
    record {
      len = rw length-set c.loop-i.invariant.len;
      value = λ j below some. numbered (λ r. r.node) rows no_potential table i at j lt c.row_node.ensures inside once (c.loop-i.invariant.value j below) some;
    }
