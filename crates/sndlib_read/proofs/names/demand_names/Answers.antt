use Rattle.sndlib_grammar.specs.Grammar.{Word}
use Rattle.std.proofs.Common.{List, refl, ap, subst, ◌∙◌}
use Rattle.std.specs.Prelude.{map}
use Rattle.sndlib_read.specs.declared.kept.DemandWords.{DemandWords}
use Rattle.sndlib_grammar.specs.Grammar.{DemandEntry}
use Rattle.sndlib_read.specs.Views.{demand_view}
use Rattle.sndlib_rows.specs.Views.{word_view}
use Rattle.sndlib_rows.specs.Names.{AreNamed}
use Rattle.sndlib_read.proofs.RowLines.{map-swap}
use Rattle.sndlib_read.proofs.names.demand_names.Goals as goal

pub returns-in-Ok : goal.returns-in-Ok
returns-in-Ok c =
    let e = ap (map word_view) (c.deref.ensures.value ∙ c.in-Ok.ensures) ∙ map-swap word_view (λ (n : DemandWords). n.id) (λ (n : DemandEntry). n.id) demand_view (λ n. refl) c.args.demands.now in
    subst (λ (ids : List Word). AreNamed ids c.names_of.result) e c.names_of.ensures
