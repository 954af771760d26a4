use Rattle.std.proofs.Common.{◌≡◌, ◌<◌, Bor, length, sym, ap, ◌∙◌, arith}
use Rattle.flow_paths.specs.DualRows.{DualRows}
use Rattle.flow_paths.specs.Certificate.{upper_of}
use Rattle.cut_bound.specs.Search.{own_at, seen, IsDualOf}
use Rattle.cut_bound.proofs.Choosing.{own-divide, own-more}
use Rattle.cut_bound.proofs.Owning.{seen-all, seen-at, seen-length}
use Rattle.cut_bound.proofs.own.best_own.Goals as goal

pub loop-i-preserved : goal.loop-i-preserved
loop-i-preserved c =
    let net = c.args.net.now in
    let own = c.args.own.now in
    let i = c.loop-i.i in
    let here : i < length own = c.loop-i-test.true in
    let inside : i < length (seen own) = omega (arith, seen-length own) in
    let at : own_at (seen own) i ≡ c.index-own-i.result.now = seen-at own i c.index-own-i.result here ∙ ap (λ (x : Bor DualRows). x.now) (sym c.index-own-i.is) in
    own-more net (seen own) i c.in_ok-value.value c.loop-i.best c.consider_own.new.best c.loop-i.auto.i inside (own-divide net (seen own) (seen-all (IsDualOf net) own c.requires.duals))
    (c.in_ok-value.ensures ∙ ap (upper_of net) (sym at)) c.consider_own.ensures c.loop-i.invariant
