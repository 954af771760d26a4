use Rattle.std.proofs.Common.{◌≡◌, ◌/◌, ◌^◌}
use Rattle.sndlib_grammar.specs.Views.{number_view}
use Rattle.unit_scale.specs.Largest.{amount_of}
use Rattle.unit_scale.proofs.compare.is_greater.Given as goal

abbrev pub invariant-places : goal.invariant-places
invariant-places l = amount_of (number_view l.one) / 10 ^ l.place ≡ amount_of (number_view l.other) / 10 ^ l.place

abbrev pub decreases-places : goal.decreases-places
decreases-places l = l.place
