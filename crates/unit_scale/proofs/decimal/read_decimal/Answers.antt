use Rattle.std.proofs.Common.{ap, ◌∙◌, Some}
use Rattle.unit_scale.specs.Units.{decimal_of, decimal_from, units_of}
use Rattle.sndlib_grammar.specs.Views.{number_view}
use Rattle.unit_scale.proofs.Ends.{decimal-short}
use Rattle.unit_scale.proofs.decimal.read_decimal.Goals as goal

pub returns : goal.returns
returns c =
    ap Some (c.decimal_from.ensures ∙ ap decimal_from c.short_units.ensures ∙ decimal-short (units_of 6 (number_view c.in-Some.number))) ∙ ap decimal_of c.in-Some.ensures.value
