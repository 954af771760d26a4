use Rattle.std.proofs.Common.{ℕ, Bor, List, map}
use Rattle.cert_writer.proofs.LinePuts.{one_line_on, line_stops}
use Rattle.cert_writer.proofs.writing.put_lines.Goals as goal

pub returns-in-Err : goal.returns-in-Err
returns-in-Err g c = line_stops (λ (l : Bor (List (Bor (List ℕ)))). map (λ (x : Bor (List ℕ)). x.now) l.now) _ _ _ _ _ _ c.in-Err.fault c.args.lines.now c.loop-line.line-index _ c.loop-line-test.true c.loop-line.invariant c.in-Err.ensures

pub loop-line-preserved : goal.loop-line-preserved
loop-line-preserved g c = one_line_on (λ (l : Bor (List (Bor (List ℕ)))). map (λ (x : Bor (List ℕ)). x.now) l.now) _ _ _ _ _ _ c.args.lines.now c.loop-line.line-index _ c.loop-line-test.true c.loop-line.invariant c.in-Ok.ensures
