use Rattle.std.proofs.Common.{◌≡◌, ℕ, ◌+◌, ◌<◌, List, [], ◌∷◌, ◌++◌, length, get_or, sym, ap, subst, arith}
use Rattle.std.proofs.lemmas.List.{length-append}
use Rattle.phase_engine.specs.declared.hand.Hand.{Hand}
use Rattle.phase_engine.specs.Hands.{IsFresh}
use Rattle.flow_solver.proofs.Routing.{hands-more}
use Rattle.flow_solver.proofs.hands.new_hands.Goals as goal

pub loop-worker-preserved : goal.loop-worker-preserved
loop-worker-preserved c =
    let n = c.loop-worker.worker in
    let hs = c.loop-worker.hands.items in
    let h = c.in_ok-new_hand.field-0 in
    let items : c.push.new.self.items ≡ hs ++ h ∷ [] = c.in_ok-push.ensures.items in
    let count : length c.push.new.self.items ≡ n + 1 = omega (arith, ap (λ (xs : List Hand). length xs) items, length-append hs (h ∷ []), c.loop-worker.invariant.count) in
    record {
      count = count;
      fresh = subst (λ (xs : List Hand). (k : ℕ) (d : Hand) → k < n + 1 → IsFresh c.args.net.now k (get_or xs k d)) (sym items)
          (hands-more c.args.net.now n hs h c.loop-worker.invariant.count c.loop-worker.invariant.fresh c.in_ok-new_hand.ensures);
    }
