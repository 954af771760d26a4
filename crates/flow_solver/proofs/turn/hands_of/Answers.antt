use Rattle.std.proofs.Common.{List, ◌∷◌, [], ◌++◌, length, sym, ap, subst, arith}
use Rattle.std.proofs.lemmas.List.{length-append}
use Rattle.flow_solver.specs.Shares.{HasHand}
use Rattle.phase_engine.specs.declared.hand.Hand.{Hand}
use Rattle.flow_solver.proofs.Turning.{Each, each-more, left-with}
use Rattle.flow_solver.proofs.turn.hands_of.Goals as goal

pub loop-turn-preserved : goal.loop-turn-preserved
loop-turn-preserved g c =
    let inv = c.loop-turn.invariant in
    let items = c.in_ok-push.ensures.items in
    record {
      left = left-with c.loop-turn.yielded c.loop-turn.turn-iterator.rest.items c.args.turns.items c.in-Some.turn c.next.new.self.rest.items c.in-Some.ensures.steps.0 inv.left;
      count = (let a = ap (λ (hs : List Hand). length hs) items in let b = length-append c.loop-turn.yielded (c.in-Some.turn ∷ []) in let d = length-append c.loop-turn.hands.items (c.hand_of.result ∷ []) in let old = inv.count in omega arith);
      each = subst (λ (hs : List Hand). Each HasHand (c.loop-turn.yielded ++ c.in-Some.turn ∷ []) hs) (sym items) (each-more HasHand c.loop-turn.yielded c.loop-turn.hands.items c.in-Some.turn c.hand_of.result inv.count inv.each c.hand_of.ensures);
    }
