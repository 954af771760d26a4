use Rattle.std.proofs.Common.{sym, ◌∙◌}
use Rattle.sndlib_rows.proofs.RowAt.{source_unknown, target_unknown, both_known}
use Rattle.sndlib_rows.specs.Names.{names_of}
use Rattle.sndlib_rows.specs.Views.{word_view}
use Rattle.sndlib_read.proofs.ends.ends_of.Goals as goal

pub returns-in-None : goal.returns-in-None
returns-in-None c = source_unknown (names_of c.args.names.now) (word_view c.args.source.now) (word_view c.args.target.now) (sym c.number_of.ensures ∙ c.in-None.is)

pub returns-in-Some-number_of : goal.returns-in-Some-number_of
returns-in-Some-number_of c = both_known (names_of c.args.names.now) (word_view c.args.source.now) (word_view c.args.target.now) c.in-Some.number c.in-Some-number_of.to (sym c.number_of.ensures ∙ c.in-Some.is) (sym c.number_of-2.ensures ∙ c.in-Some-number_of.is)

pub returns-in-None-number_of : goal.returns-in-None-number_of
returns-in-None-number_of c = target_unknown (names_of c.args.names.now) (word_view c.args.source.now) (word_view c.args.target.now) c.in-Some.number (sym c.number_of.ensures ∙ c.in-Some.is) (sym c.number_of-2.ensures ∙ c.in-None-number_of.is)
