use Rattle.std.proofs.Common.{◌≡◌, Bool, List, sym, ap, ◌∙◌, arith}
use Rattle.std.proofs.lemmas.Result.{IfOk-weaker}
use Rattle.cut_bound.specs.Cuts.{cut_dual}
use Rattle.cut_bound.specs.Search.{chosen, marked, seen, side_at}
use Rattle.cut_bound.proofs.Making.{dual-same}
use Rattle.cut_bound.proofs.best.chosen_dual.Goals as goal

pub returns-in_ok-marks-in-Cut : goal.returns-in_ok-marks-in-Cut
returns-in_ok-marks-in-Cut c =
    let net = c.args.net.now in
    let both = c.args.both in
    let own = seen c.args.own.now in
    let marks = c.deref.result.now in
    let same = dual-same net both (marked marks) (side_at own c.in-Cut.place) c.nodes.ensures.net
    (λ v l. ap (λ (xs : List Bool). marked xs v) c.deref.ensures.value ∙ c.in_ok-marks-in-Cut.ensures.each v (omega (arith, c.nodes.ensures.value))) in
    IfOk-weaker c.side_dual.result (λ d. d ≡ cut_dual net both (marked marks)) (λ d. d ≡ chosen net both own c.args.choice)
    (λ d e. e ∙ (same ∙ ap (chosen net both own) (sym c.in-Cut.is))) c.side_dual.ensures
