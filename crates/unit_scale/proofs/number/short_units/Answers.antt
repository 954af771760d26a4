use Rattle.std.proofs.Common.{ap, sym, ◌∙◌, refl}
use Rattle.std.specs.Option.{option_map}
use Rattle.unit_scale.specs.Short.{short}
use Rattle.sndlib_grammar.specs.Views.{number_view}
use Rattle.unit_scale.proofs.UnitLaws.{units_raise, units_cut}
use Rattle.unit_scale.proofs.number.short_units.Goals as goal

pub returns-then-places-raise : goal.returns-then-places-raise
returns-then-places-raise c = rw (c.raised_digits.ensures, units_raise (number_view c.args.number.now) c.args.decimals c.if-places-raise.true) refl

pub returns-else-places-raise : goal.returns-else-places-raise
returns-else-places-raise c = c.cut_digits.ensures ∙ sym (ap (option_map short) (units_cut (number_view c.args.number.now) c.args.decimals c.if-places-raise.false))
