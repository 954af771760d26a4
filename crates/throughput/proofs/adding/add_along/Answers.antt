use Rattle.std.proofs.Common.{◌+◌, ◌*◌, ◌<◌, ◌≤◌, get_or, length, length-set, drop, ◌∙◌, arith}
use Rattle.std.proofs.Math.Nat.{mul-le-mul_left}
use Rattle.mcf_limits.specs.declared.TheConstants.{MAX_LENGTH}
use Rattle.flow_model.specs.Walk.{times}
use Rattle.throughput.proofs.Along.{along-more, along-within, greatest-set}
use Rattle.throughput.proofs.adding.add_along.Goals as goal

pub exponent-requires-clause-load : goal.exponent-requires-clause-load
exponent-requires-clause-load c =
    let path = c.args.path.now in
    let i = c.loop-cell.cell-index in
    let x = get_or path i 0 in
    let a = c.args.amount in
    let lt : i < length path = omega arith in
    let one : a * 1 ≤ a * times x (drop i path) = mul-le-mul_left a (along-within path i lt) in
    omega (arith, c.loop-cell.invariant.left x, c.requires.room x)

pub loop-cell-preserved : goal.loop-cell-preserved
loop-cell-preserved c =
    let path = c.args.path.now in
    let loads = c.loop-cell.loads in
    let i = c.loop-cell.cell-index in
    let x = get_or path i 0 in
    let v = get_or loads x 0 + c.args.amount in
    let lt : i < length path = omega arith in
    let inside : x < length loads = omega (arith, c.requires.inside i 0 lt, c.loop-cell.invariant.long) in
    record {
      left = λ k. along-more loads path i c.args.amount k lt inside ∙ c.loop-cell.invariant.left k;
      long = length-set loads x v ∙ c.loop-cell.invariant.long;
      top = omega (arith, c.max-top.ensures, c.exponent.ensures, c.loop-cell.invariant.top, greatest-set c.args.setting.now c.args.cells.now loads x v c.requires.setting c.loop-cell.invariant.long inside (omega arith));
    }

pub overflow_add-load : goal.overflow_add-load
overflow_add-load c =
    let path = c.args.path.now in
    let i = c.loop-cell.cell-index in
    let x = get_or path i 0 in
    let a = c.args.amount in
    let lt : i < length path = omega arith in
    let one : a * 1 ≤ a * times x (drop i path) = mul-le-mul_left a (along-within path i lt) in
    let room : get_or c.args.loads.now x 0 + a * times x path ≤ MAX_LENGTH = c.requires.room x in
    let left = c.loop-cell.invariant.left x in
    let small : get_or c.loop-cell.loads x 0 + a ≤ MAX_LENGTH = omega arith in
    omega (arith, small)
