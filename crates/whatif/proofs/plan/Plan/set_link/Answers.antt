use Rattle.std.proofs.Common.{◌≡◌, ◌+◌, arith}
use Rattle.unit_scale.specs.Names.{cells_of}
use Rattle.whatif.proofs.Links.{run_whole}
use Rattle.whatif.proofs.plan.Plan.set_link.Goals as goal

pub returns : goal.returns
returns c =
    let high = c.loop-cell.invariant.high in
    let end : c.loop-cell.cell ≡ cells_of c.args.mode (c.args.link + 1) = omega (arith, c.loop-cell-test.false, c.cells_of-cell-end.ensures) in
    run_whole c.args.mode c.args.self.now c.loop-cell.self c.args.link c.args.cap c.loop-cell.cell end c.loop-cell.invariant.plan
