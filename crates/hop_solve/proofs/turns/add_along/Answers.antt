use Rattle.std.proofs.Common.{◌+◌, ◌*◌, ◌<◌, ◌≤◌, length, get_or, drop, refl, arith, length-set, ◌∙◌}
use Rattle.mcf_limits.specs.declared.TheConstants.{MAX_LENGTH}
use Rattle.flow_model.specs.Walk.{times}
use Rattle.hop_solve.proofs.Along.{room-next, along-next}
use Rattle.hop_solve.proofs.turns.add_along.Goals as goal

pub overflow_add-loads : goal.overflow_add-loads
overflow_add-loads c =
    let path = c.args.path.now in
    let i = c.loop-cell.cell-index in
    let l : i < length path = omega arith in
    let at = get_or path i 0 in
    let inside : at < length c.args.loads.now = c.requires.cells i 0 l in
    let rest = c.loop-cell.invariant.rest at inside in
    let room = c.requires.room at inside in
    let most : get_or c.loop-cell.loads at 0 + c.args.amount * times at (drop i path) ≤ MAX_LENGTH = omega (arith, rest, room) in
    omega (arith, room-next path i c.args.amount (get_or c.loop-cell.loads at 0) MAX_LENGTH l most)

pub loop-cell-preserved : goal.loop-cell-preserved
loop-cell-preserved c =
    let path = c.args.path.now in
    let i = c.loop-cell.cell-index in
    let l : i < length path = omega arith in
    let at = get_or path i 0 in
    let inside : at < length c.args.loads.now = c.requires.cells i 0 l in
    record {
      len = length-set c.loop-cell.loads at (get_or c.loop-cell.loads at 0 + c.args.amount) ∙ c.loop-cell.invariant.len;
      rest = λ x lx. along-next c.loop-cell.loads path i c.args.amount at x (get_or c.args.loads.now x 0 + c.args.amount * times x path) l refl (omega (arith, c.loop-cell.invariant.len, inside)) (c.loop-cell.invariant.rest x lx);
    }
