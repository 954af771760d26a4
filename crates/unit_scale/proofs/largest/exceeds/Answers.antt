use Rattle.std.proofs.Common.{◌≤◌, ◌<◌, ◌∙◌, ap, subst, nat_lt}
use Rattle.sndlib_grammar.specs.Views.{number_view}
use Rattle.unit_scale.specs.Short.{short}
use Rattle.unit_scale.specs.Largest.{amount_of, best_amount}
use Rattle.unit_scale.proofs.Greatest.{best_short, short_less, over_less}
use Rattle.unit_scale.proofs.largest.exceeds.Goals as goal

pub returns-then-size-le-MOST : goal.returns-then-size-le-MOST
returns-then-size-le-MOST c =
    let m = best_amount c.args.best.now.number in
    let n = amount_of (number_view c.args.number.now) in
    let b = best_short c.args.best.now.number c.args.best.now.size c.requires.best in
    ap (λ k. nat_lt k c.args.size) b ∙ ap (nat_lt (short m)) c.requires.size ∙ short_less m n (subst (λ k. k ≤ 17592186044416000000) c.requires.size c.if-size-le-MOST.true)

pub returns-then-best-le-MOST : goal.returns-then-best-le-MOST
returns-then-best-le-MOST c =
    let m = best_amount c.args.best.now.number in
    let n = amount_of (number_view c.args.number.now) in
    let b = best_short c.args.best.now.number c.args.best.now.size c.requires.best in
    over_less m n (subst (λ k. k ≤ 17592186044416000000) b c.if-best-le-MOST.true) (subst (λ k. 17592186044416000000 < k) c.requires.size c.if-size-le-MOST.false)
