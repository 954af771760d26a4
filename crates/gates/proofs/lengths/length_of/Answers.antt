use Rattle.std.proofs.Common.{rules, ◌≤◌, ◌-◌, ◌^◌, arith}
use Rattle.fixed_exp.proofs.PowerTable.{weight_small}
use Rattle.fixed_exp.proofs.Passes.{length_fits}
use Rattle.gates.proofs.lengths.length_of.Goals as goal

pub overflow_cast-above : goal.overflow_cast-above
overflow_cast-above c =
    let positive : 1 ≤ c.args.cell.now.cap = search rules in
    let small = weight_small (c.args.under.now.top - c.exponent.result) in
    let weight : c.from.result ≤ 2 ^ 40 = omega (arith, c.from.ensures, c.weight.ensures.value) in
    let least : c.from-2.result ≤ c.from-3.result = omega (arith, c.from-2.ensures, c.from-3.ensures, c.requires.least positive) in
    omega (arith, length_fits c.from.result c.from-2.result c.from-3.result weight least)
