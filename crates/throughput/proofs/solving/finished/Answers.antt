use Rattle.std.proofs.Common.{refl, subst}
use Rattle.gap_fraction.specs.Fraction.{Fraction}
use Rattle.gap_fraction.specs.Decimals.{millionths_down}
use Rattle.flow_paths.specs.Certificate.{IsPrinted}
use Rattle.throughput.proofs.PartEnding.{ended-run}
use Rattle.throughput.proofs.solving.finished.Goals as goal

pub returns-clause-run : goal.returns-clause-run
returns-clause-run c =
    let on = c.args.on.now in
    let e = c.args.ended in
    ended-run on.net.now on.gates.now c.args.options.now e.reached _ c.requires.on.gates_are c.requires.some c.requires.reached c.requires.budget c.requires.closed c.requires.spent
    refl refl refl refl c.in_ok-ordered.ensures refl
    (subst (λ (f : Fraction). IsPrinted c.printed_down-lower.result f (millionths_down f)) c.carried.ensures.value c.printed_down-lower.ensures.printed) c.printed_up.ensures.printed
