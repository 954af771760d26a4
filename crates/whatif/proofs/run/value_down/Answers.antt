use Rattle.std.proofs.Common.{◌∙◌}
use Rattle.whatif.proofs.Lines.{decimal_is}
use Rattle.whatif.proofs.run.value_down.Goals as goal

pub returns : goal.returns
returns c = c.decimal.ensures ∙ decimal_is c.digits_down-shown.result.whole c.digits_down-shown.result.micro _ c.digits_down-shown.ensures.six c.digits_down-shown.ensures.value
