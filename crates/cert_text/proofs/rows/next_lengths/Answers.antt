use Rattle.std.proofs.Common.{◌≡◌, true, false, sym, ap, ◌∙◌}
use Rattle.std.specs.Prelude.{codes}
use Rattle.text_lines.specs.Lines.{words_of, lines_of}
use Rattle.cert_lines.specs.Rows.{length_row}
use Rattle.cert_lines.specs.Forms.{begins}
use Rattle.cert_text.proofs.RowSteps.{goes_on, fails, stops, ends}
use Rattle.cert_text.proofs.rows.next_lengths.Goals as goal
use Rattle.cert_text.proofs.rows.next_lengths.Goals.{in-None, in-Some+then-not-begins}

pub returns-in-Err-clause-rows : goal.returns-in-Err-clause-rows
returns-in-Err-clause-rows c =
    let line = words_of c.in-Some.parts.0.now in
    let b : begins (codes "length") line ≡ true = cc in
    rw c.refused.ensures (fails (codes "length") (length_row c.args.names.now) c.rows.dual.lengths c.rows.at.at (lines_of c.rows.at.rest.now) line c.in-Some.parts.1.rest.now c.in-Err.kind _ c.in-Some.ensures.lines b (sym c.in-Err.ensures.exact) c.rows.invariant.so_far)

pub rows-preserved : goal.rows-preserved
rows-preserved c =
    let line = words_of c.in-Some.parts.0.now in
    let b : begins (codes "length") line ≡ true = cc in
    let more = goes_on (codes "length") (length_row c.args.names.now) c.rows.dual.lengths c.rows.at.at (lines_of c.rows.at.rest.now) line c.in-Some.parts.1.rest.now (record { cell = c.in-Ok.row.0; value = c.in-Ok.row.1 }) _ c.in-Some.ensures.lines b (sym c.in-Ok.ensures.exact) c.rows.invariant.so_far in
    record {
      so_far = rw (c.in-Ok-push_length.ensures.ok, c.in-Some.ensures.at) more;
      room = c.in-Some.ensures.room;
      others = ap (λ d. d.potentials) c.in-Ok-push_length.ensures.ok ∙ c.rows.invariant.others;
    }

pub returns-clause-rows : goal.returns-clause-rows
returns-clause-rows c = elim c.match-split.branch [
  | in-None w ↦ ends (codes "length") (length_row c.args.names.now) c.rows.dual.lengths c.rows.at.at (lines_of c.rows.at.rest.now) (words_of c.rows.at.rest.now) _ w.in-None.ensures.lines c.rows.invariant.so_far
  | in-Some+then-not-begins w ↦
      let b : begins (codes "length") (words_of w.in-Some.parts.0.now) ≡ false = cc in
      stops (codes "length") (length_row c.args.names.now) c.rows.dual.lengths c.rows.at.at (lines_of c.rows.at.rest.now) (words_of w.in-Some.parts.0.now) (lines_of w.in-Some.parts.1.rest.now) _ w.in-Some.ensures.lines b c.rows.invariant.so_far
]
