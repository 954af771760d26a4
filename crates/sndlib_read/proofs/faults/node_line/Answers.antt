use Rattle.sndlib_rows.specs.Stored.{StoredNode}
use Rattle.sndlib_rows.specs.Views.{node_view}
use Rattle.sndlib_read.proofs.RowLines.{row_line, no_row_line}
use Rattle.sndlib_read.proofs.faults.node_line.Goals as goal

pub returns-then-at-nodes : goal.returns-then-at-nodes
returns-then-at-nodes c = row_line (λ (r : StoredNode). r.id) node_view c.args.nodes.now c.args.at _ c.if-at-nodes.true

pub returns-else-at-nodes : goal.returns-else-at-nodes
returns-else-at-nodes c = no_row_line (λ (r : StoredNode). r.id) node_view c.args.nodes.now c.args.at c.if-at-nodes.false
