use Rattle.std.proofs.Common.{◌∙◌}
use Rattle.whatif.proofs.Lines.{decimal_is}
use Rattle.whatif.proofs.run.value_up.Goals as goal

pub returns : goal.returns
returns c = c.decimal.ensures ∙ decimal_is c.digits_up-shown.result.whole c.digits_up-shown.result.micro _ c.digits_up-shown.ensures.six c.digits_up-shown.ensures.value
