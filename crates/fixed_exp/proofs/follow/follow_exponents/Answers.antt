use Rattle.std.proofs.Common.{◌≡◌, ◌-◌, ◌^◌, arith, min}
use Rattle.flow_model.specs.Lengths.{greatest_exponent}
use Rattle.fixed_exp.specs.Kept.{greatest}
use Rattle.fixed_exp.proofs.Passes.{greatest_kept}
use Rattle.fixed_exp.proofs.follow.follow_exponents.Goals as goal

pub returns-then-top-lt18446744073709551615-clause-greatest : goal.returns-then-top-lt18446744073709551615-clause-greatest
returns-then-top-lt18446744073709551615-clause-greatest c =
    let s = c.args.rated.now.scale.now.setting in
    let kept = c.put_exponents-known.new.kept in
    let same : greatest kept ≡ min (greatest_exponent s c.args.rated.now.cells.now c.args.loads.now) (2 ^ 64 - 1) = greatest_kept s c.args.rated.now.cells.now c.args.loads.now kept c.requires.loads (omega arith) c.put_exponents-known.ensures.kept in
    omega (arith, same)
