use Rattle.std.proofs.Common.{◌<◌, ◌+◌, get_or, length, arith}
use Rattle.throughput.proofs.Along.{greatest-set}
use Rattle.throughput.proofs.turns.add_at.Goals as goal

pub returns-clause-top : goal.returns-clause-top
returns-clause-top c =
    let loads = c.args.loads.now in
    let v = get_or loads c.args.k 0 + c.args.amount in
    let inside : c.args.k < length loads = omega (arith, c.requires.loads, c.requires.k) in
    omega (arith, c.max.ensures, c.exponent.ensures, c.requires.top, greatest-set c.args.tops.now.setting c.args.gates.now loads c.args.k v c.requires.setting c.requires.loads inside (omega arith))
