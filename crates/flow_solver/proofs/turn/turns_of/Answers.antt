use Rattle.std.proofs.Common.{List, ◌∷◌, [], ◌++◌, length, sym, ap, subst, arith}
use Rattle.std.proofs.lemmas.List.{length-append}
use Rattle.std.specs.Arc.{arc_value}
use Rattle.phase_engine.specs.declared.hand.Hand.{Hand}
use Rattle.flow_solver.specs.Shares.{IsTurnOf}
use Rattle.flow_solver.proofs.Turning.{Each, each-more, left-with, none-left}
use Rattle.flow_solver.proofs.turn.turns_of.Goals as goal

pub loop-hand-preserved : goal.loop-hand-preserved
loop-hand-preserved g c =
    let inv = c.loop-hand.invariant in
    let P = IsTurnOf (arc_value c.args.loads.now) in
    let items = c.in_ok-push.ensures.items in
    record {
      left = left-with c.loop-hand.yielded c.loop-hand.hand-iterator.rest.items c.args.hands.items c.in-Some.hand c.next.new.self.rest.items c.in-Some.ensures.steps.0 inv.left;
      count = (let a = ap (λ (ts : _). length ts) items in let b = length-append c.loop-hand.yielded (c.in-Some.hand ∷ []) in let d = length-append c.loop-hand.turns.items (c.in_ok-turn_of.field-0 ∷ []) in let old = inv.count in omega arith);
      each = subst (λ (ts : _). Each P (c.loop-hand.yielded ++ c.in-Some.hand ∷ []) ts) (sym items) (each-more P c.loop-hand.yielded c.loop-hand.turns.items c.in-Some.hand c.in_ok-turn_of.field-0 inv.count inv.each c.in_ok-turn_of.ensures);
    }

pub returns-clause-turns : goal.returns-clause-turns
returns-clause-turns g c =
    let inv = c.loop-hand.invariant in
    let P = IsTurnOf (arc_value c.args.loads.now) in
    subst (λ (hs : List Hand). Each P hs c.loop-hand.turns.items) (none-left c.loop-hand.yielded c.loop-hand.hand-iterator.rest.items c.args.hands.items inv.left (omega (arith, c.in-None.ensures.steps.0))) inv.each
