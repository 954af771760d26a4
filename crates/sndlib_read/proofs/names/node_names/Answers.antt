use Rattle.sndlib_grammar.specs.Grammar.{Word}
use Rattle.std.proofs.Common.{List, refl, ap, subst, ◌∙◌}
use Rattle.std.specs.Prelude.{map}
use Rattle.sndlib_rows.specs.declared.kept.NodeWords.{NodeWords}
use Rattle.sndlib_rows.specs.Stored.{StoredNode}
use Rattle.sndlib_rows.specs.Views.{word_view, node_view}
use Rattle.sndlib_rows.specs.Names.{AreNamed}
use Rattle.sndlib_read.proofs.RowLines.{map-swap}
use Rattle.sndlib_read.proofs.names.node_names.Goals as goal

pub returns-in-Ok : goal.returns-in-Ok
returns-in-Ok c =
    let e = ap (map word_view) (c.deref.ensures.value ∙ c.in-Ok.ensures) ∙ map-swap word_view (λ (n : NodeWords). n.id) (λ (n : StoredNode). n.id) node_view (λ n. refl) c.args.nodes.now in
    subst (λ (ids : List Word). AreNamed ids c.names_of.result) e c.names_of.ensures
