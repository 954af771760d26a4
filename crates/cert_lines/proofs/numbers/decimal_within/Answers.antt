use Rattle.std.proofs.Common.{◌≡◌, true, arith}
use Rattle.cert_lines.specs.Numbers.{is_micro}
use Rattle.cert_lines.proofs.NumberSteps.{micro_small}
use Rattle.cert_lines.proofs.numbers.decimal_within.Goals as goal

pub returns-in-Ok-clause-six : goal.returns-in-Ok-clause-six
returns-in-Ok-clause-six c =
    let part = c.split_at.result.1.now in
    let is : is_micro part ≡ true = cc in
    omega (arith, c.micro.ensures, micro_small part is)
