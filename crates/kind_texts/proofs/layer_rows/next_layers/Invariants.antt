use Rattle.std.proofs.Common.{◌≡◌, length}
use Rattle.std.specs.Prelude.{codes}
use Rattle.text_lines.specs.Lines.{lines_of}
use Rattle.cert_text.specs.Reading.{rows_from}
use Rattle.cert_text.specs.Views.{HasRoom}
use Rattle.cert_text.proofs.RowSteps.{with_front}
use Rattle.kind_texts.specs.HopsRead.{layer_row}
use Rattle.kind_texts.proofs.layer_rows.next_layers.Given as goal

abbrev pub invariant-rows : goal.invariant-rows
invariant-rows l = record {
  so_far : with_front l.layers (rows_from (codes "layer") (layer_row l.names) l.at.at (lines_of l.at.rest.now)) ≡ rows_from (codes "layer") (layer_row l.names) l.fn.place.at (lines_of l.fn.place.rest.now);
  room : HasRoom l.at;
  buffer : length l.values ≡ length l.names.nodes;
}

abbrev pub decreases-rows : goal.decreases-rows
decreases-rows l = length l.at.rest.now
