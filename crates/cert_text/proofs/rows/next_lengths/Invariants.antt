use Rattle.std.proofs.Common.{◌≡◌, length}
use Rattle.std.specs.Prelude.{codes}
use Rattle.text_lines.specs.Lines.{lines_of}
use Rattle.cert_lines.specs.Rows.{length_row}
use Rattle.cert_text.specs.Reading.{rows_from}
use Rattle.cert_text.specs.Views.{HasRoom}
use Rattle.cert_text.proofs.RowSteps.{with_front}
use Rattle.cert_text.proofs.rows.next_lengths.Given as goal

abbrev pub invariant-rows : goal.invariant-rows
invariant-rows l = record {
  so_far : with_front l.dual.lengths (rows_from (codes "length") (length_row l.names) l.at.at (lines_of l.at.rest.now)) ≡ rows_from (codes "length") (length_row l.names) l.fn.place.at (lines_of l.fn.place.rest.now);
  room : HasRoom l.at;
  others : l.dual.potentials ≡ l.fn.dual.potentials;
}

abbrev pub decreases-rows : goal.decreases-rows
decreases-rows l = length l.at.rest.now
