use Rattle.std.proofs.Common.{◌*◌, refl, subst}
use Rattle.gap_fraction.specs.Fraction.{Fraction}
use Rattle.gap_fraction.specs.Decimals.{millionths_down, millionths_up}
use Rattle.flow_paths.specs.Certificate.{IsPrinted}
use Rattle.hop_check.specs.Layers.{hop_upper_of}
use Rattle.hop_solve.specs.Numbers.{hop_dual_of}
use Rattle.hop_solve.proofs.Ending.{ended-run}
use Rattle.hop_solve.proofs.solving.finished.Goals as goal

pub returns-clause-run : goal.returns-clause-run
returns-clause-run c =
    let net = c.args.on.now.net.now in
    let limits = c.args.on.now.limits.now in
    let r = c.args.ended.reached in
    let is = c.requires.reached in
    let lower : Fraction = record { num = r.phases * r.fill.cap; den = r.fill.load } in
    let upper = hop_upper_of net limits (hop_dual_of r.kept) in
    ended-run net limits c.args.on.now.counts.now c.args.options.now r c.args.ended.closed _ is c.requires.budget c.requires.closed c.requires.spent refl refl refl refl refl c.in_ok-ordered.ensures refl
    (record {
      lower = subst (λ (f : Fraction). IsPrinted c.printed_down.result f (millionths_down f)) c.lower.ensures.value c.printed_down.ensures.printed;
      upper = subst (λ (f : Fraction). IsPrinted c.printed_up.result f (millionths_up f)) is.value c.printed_up.ensures.printed;
    })
