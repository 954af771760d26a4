use Rattle.std.proofs.Common.{sym, refl, get_or}
use Rattle.sndlib_grammar.specs.Rows.{link_at}
use Rattle.sndlib_rows.specs.RowViews.{link_row_view}
use Rattle.unit_scale.proofs.CellSteps.{cells_step, cells_found, no_size}
use Rattle.unit_scale.proofs.cells.cells_of.Goals as goal

pub returns-in-None : goal.returns-in-None
returns-in-None c =
    cells_found c.args.options c.args.decimals c.args.raw.now.links c.args.sizes.now c.loop-i.i c.links-i-end.result c.unit_of-unit.result c.loop-i.cells.items (get_or c.args.sizes.now c.loop-i.i no_size) (link_row_view c.link-row.result (link_at c.args.raw.now c.loop-i.i).modules) c.link-row.result.line c.refused.result c.loop-i.invariant c.loop-i-test.true refl (sym c.link-row.ensures) c.in-None.ensures refl c.refused.ensures

pub loop-i-preserved : goal.loop-i-preserved
loop-i-preserved c =
    rw c.in-Ok.ensures (cells_step c.args.options c.args.decimals c.args.raw.now.links c.args.sizes.now c.loop-i.i c.links-i-end.result c.unit_of-unit.result c.loop-i.cells.items (get_or c.args.sizes.now c.loop-i.i no_size) (link_row_view c.link-row.result (link_at c.args.raw.now c.loop-i.i).modules) c.in-Some.cap c.loop-i.invariant c.loop-i-test.true refl (sym c.link-row.ensures) c.in-Some.ensures.0 c.in-Some.ensures.1)
