use Rattle.std.proofs.Common.{◌≡◌, true, false, sym, arith}
use Rattle.std.specs.Prelude.{codes}
use Rattle.text_lines.specs.Lines.{words_of, lines_of}
use Rattle.cert_lines.specs.Forms.{begins}
use Rattle.cert_text.proofs.RowSteps.{goes_on, fails, stops, ends}
use Rattle.kind_texts.specs.HopsRead.{layer_row}
use Rattle.kind_texts.proofs.layer_rows.next_layers.Goals as goal
use Rattle.kind_texts.proofs.layer_rows.next_layers.Goals.{in-None, in-Some+then-not-begins}

pub returns-in-Err-clause-rows : goal.returns-in-Err-clause-rows
returns-in-Err-clause-rows c =
    let line = words_of c.in-Some.parts.0.now in
    let b : begins (codes "layer") line ≡ true = cc in
    rw c.refused.ensures (fails (codes "layer") (layer_row c.args.names.now) c.rows.layers c.rows.at.at (lines_of c.rows.at.rest.now) line c.in-Some.parts.1.rest.now c.in-Err.kind _ c.in-Some.ensures.lines b (sym c.in-Err.ensures.exact) c.rows.invariant.so_far)

pub rows-preserved : goal.rows-preserved
rows-preserved c =
    let line = words_of c.in-Some.parts.0.now in
    let b : begins (codes "layer") line ≡ true = cc in
    let more = goes_on (codes "layer") (layer_row c.args.names.now) c.rows.layers c.rows.at.at (lines_of c.rows.at.rest.now) line c.in-Some.parts.1.rest.now (record { node = c.in-Ok.row.0; index = c.in-Ok.row.1; values = c.layer_row.new.values }) _ c.in-Some.ensures.lines b (sym c.in-Ok.ensures.exact) c.rows.invariant.so_far in
    record {
      so_far = rw (c.in-Ok-push.ensures.ok, c.in-Some.ensures.at) more;
      room = c.in-Some.ensures.room;
      buffer = omega (arith, c.layer_row.auto.values, c.rows.invariant.buffer);
    }

pub returns-clause-rows : goal.returns-clause-rows
returns-clause-rows c = elim c.match-split.branch [
  | in-None w ↦ ends (codes "layer") (layer_row c.args.names.now) c.rows.layers c.rows.at.at (lines_of c.rows.at.rest.now) (words_of c.rows.at.rest.now) _ w.in-None.ensures.lines c.rows.invariant.so_far
  | in-Some+then-not-begins w ↦
      let b : begins (codes "layer") (words_of w.in-Some.parts.0.now) ≡ false = cc in
      stops (codes "layer") (layer_row c.args.names.now) c.rows.layers c.rows.at.at (lines_of c.rows.at.rest.now) (words_of w.in-Some.parts.0.now) (lines_of w.in-Some.parts.1.rest.now) _ w.in-Some.ensures.lines b c.rows.invariant.so_far
]
