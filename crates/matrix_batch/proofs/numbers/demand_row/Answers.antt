use Rattle.std.proofs.Common.{sym, ◌∙◌}
use Rattle.sndlib_grammar.specs.Rows.{names_of_nodes}
use Rattle.sndlib_rows.proofs.RowAt.{source_unknown, target_unknown}
use Rattle.matrix_batch.specs.ReadViews.{word_view}
use Rattle.matrix_batch.proofs.Numbering.{both_known_row}
use Rattle.matrix_batch.proofs.numbers.demand_row.Goals as goal

pub returns-in-None : goal.returns-in-None
returns-in-None c = source_unknown (names_of_nodes c.args.raw.now) (word_view c.args.words.now.source) (word_view c.args.words.now.target) (sym c.node_named.ensures ∙ c.in-None.is)

pub returns-in-Some-node_named : goal.returns-in-Some-node_named
returns-in-Some-node_named c = both_known_row (names_of_nodes c.args.raw.now) c.args.words.now c.in-Some.node c.in-Some-node_named.target (sym c.node_named.ensures ∙ c.in-Some.is) (sym c.node_named-2.ensures ∙ c.in-Some-node_named.is)

pub returns-in-None-node_named : goal.returns-in-None-node_named
returns-in-None-node_named c = target_unknown (names_of_nodes c.args.raw.now) (word_view c.args.words.now.source) (word_view c.args.words.now.target) c.in-Some.node (sym c.node_named.ensures ∙ c.in-Some.is) (sym c.node_named-2.ensures ∙ c.in-None-node_named.is)
