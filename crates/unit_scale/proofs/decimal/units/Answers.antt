use Rattle.std.proofs.Common.{ap, ◌∙◌}
use Rattle.unit_scale.specs.Units.{units_read, units_from, units_of}
use Rattle.sndlib_grammar.specs.Views.{number_view}
use Rattle.unit_scale.proofs.Ends.{units-short}
use Rattle.unit_scale.proofs.decimal.units.Goals as goal

pub returns : goal.returns
returns c =
    c.units_from.ensures ∙ ap units_from c.short_units.ensures ∙ units-short (units_of c.args.decimals (number_view c.in-Some.number)) ∙ ap (units_read c.args.decimals) c.in-Some.ensures.value
