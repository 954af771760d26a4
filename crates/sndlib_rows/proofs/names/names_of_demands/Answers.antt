use Rattle.std.proofs.Common.{List, ap, subst, ◌∙◌}
use Rattle.std.specs.Prelude.{map}
use Rattle.sndlib_grammar.specs.Grammar.{Word}
use Rattle.sndlib_rows.specs.Views.{word_view}
use Rattle.sndlib_rows.specs.Names.{AreNamed}
use Rattle.sndlib_rows.proofs.Demands.{ids_are_words}
use Rattle.sndlib_rows.proofs.names.names_of_demands.Goals as goal

pub returns-in-Ok : goal.returns-in-Ok
returns-in-Ok c =
    let e = ap (map word_view) (c.deref.ensures.value ∙ c.in-Ok.ensures) ∙ ids_are_words c.args.demands.now in
    subst (λ (ids : List Word). AreNamed ids c.names_of.result) e c.names_of.ensures
