use Rattle.std.proofs.Common.{length}
use Rattle.matrix_batch.specs.ReadViews.{sofar_view}
use Rattle.matrix_batch.proofs.Scanning.{Scans}
use Rattle.matrix_batch.proofs.scan.scan_tokens.Given as goal

abbrev pub invariant-tokens : goal.invariant-tokens
invariant-tokens l = Scans l.end l.mode (sofar_view l.sofar) l.rest.tokens l.fn.tokens.tokens

abbrev pub decreases-tokens : goal.decreases-tokens
decreases-tokens l = length l.rest.tokens
