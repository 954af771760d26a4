use Rattle.std.proofs.Common.{◌+◌, ◌<◌, ◌≤◌, length, ap, arith}
use Rattle.std.proofs.lemmas.List.{length-map}
use Rattle.flow_paths.specs.PathRows.{row_of, rows_of, row_at}
use Rattle.flow_paths.proofs.RowsKept.{rows_of-grow, AreRows-grow}
use Rattle.flow_paths.proofs.row_buffer.RowBuffer.grow.Goals as goal
use Rattle.mcf_limits.specs.declared.TheConstants.{MAX_LENGTH}

pub invariant_of-self : goal.invariant_of-self
invariant_of-self c =
    let cells = c.self.inside.cells.items in
    let rows = c.self.inside.rows.items in
    let lt : c.args.row < length rows = omega (arith, ap length c.self.view_is, length-map rows (row_of cells)) in
    let light : (row_at (rows_of cells rows) c.args.row).weight + c.args.amount ≤ MAX_LENGTH = rw (← c.self.view_is) at c.requires.weight in
    AreRows-grow cells rows c.args.row c.args.amount c.index_mut.result.now lt c.index_mut.ensures.value light c.self.invariant

pub returns : goal.returns
returns c =
    let cells = c.self.inside.cells.items in
    let rows = c.self.inside.rows.items in
    let lt : c.args.row < length rows = omega (arith, ap length c.self.view_is, length-map rows (row_of cells)) in
    rw (← c.self.view_is) (rows_of-grow cells rows c.args.row c.args.amount c.index_mut.result.now lt c.index_mut.ensures.value)
