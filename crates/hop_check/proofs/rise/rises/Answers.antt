use Rattle.std.proofs.Common.{◌≡◌, ◌<◌, true, length, get_or, arith, refl}
use Rattle.std.proofs.lemmas.Option.{slice_get-get_or, slice_get_within}
use Rattle.flow_model.proofs.Duality.{no_cell}
use Rattle.hop_check.proofs.Rising.{rises-more}
use Rattle.hop_check.proofs.rise.rises.Goals as goal

pub returns-then-not-rises_over : goal.returns-then-not-rises_over
returns-then-not-rises_over c =
    let cells = c.args.cells.now in
    let i = c.loop-c.c in
    let lt : i < length cells = omega arith in (
      λ f. absurd cc,
      λ all.
          let holds : c.rises_over.result ≡ true = c.rises_over.ensures.1 (λ u v goes. all i (get_or cells i no_cell) u v (slice_get-get_or cells i no_cell lt) goes) in
          absurd cc,
    )

pub loop-c-preserved : goal.loop-c-preserved
loop-c-preserved c = rises-more c.args.cells.now c.args.lengths.now c.args.below.now c.args.above.now c.loop-c.c c.loop-c.invariant (c.rises_over.ensures.0 c.if-not-rises_over.false)

pub returns : goal.returns
returns c = (λ t j cell u v at goes. let inside = slice_get_within c.args.cells.now j cell at in c.loop-c.invariant j cell u v (omega arith) at goes, λ all. refl)
