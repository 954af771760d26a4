use Rattle.sndlib_rows.specs.Stored.{StoredLink}
use Rattle.sndlib_rows.specs.Views.{link_view}
use Rattle.sndlib_read.proofs.RowLines.{row_line, no_row_line}
use Rattle.sndlib_read.proofs.faults.link_line.Goals as goal

pub returns-then-at-links : goal.returns-then-at-links
returns-then-at-links c = row_line (λ (r : StoredLink). r.id) link_view c.args.links.now c.args.at _ c.if-at-links.true

pub returns-else-at-links : goal.returns-else-at-links
returns-else-at-links c = no_row_line (λ (r : StoredLink). r.id) link_view c.args.links.now c.args.at c.if-at-links.false
