use Rattle.std.proofs.Common.{ℕ, [], ◌∷◌, None, get_or, subst, arith}
use Rattle.claimed_calls.specs.Answers.{IsPut}
use Rattle.claimed_calls.proofs.Claiming.{then_put, none_left, one_taken}
use Rattle.claimed_calls.proofs.slots.put.Goals as goal

pub loop-number-preserved : goal.loop-number-preserved
loop-number-preserved g c =
    let entry : ℕ × g.row.T.Denot = (c.in-Some.number, c.in-Some.answer) in
    record {
      left = one_taken c.loop-number.yielded c.loop-number.number-iterator.rest.items c.args.entries.items entry c.next.new.self.rest.items c.in-Some.ensures.steps.0 c.loop-number.invariant.left;
      each = λ i lt. then_put c.loop-number.yielded (entry ∷ []) i (get_or c.args.slots.now i None) (get_or c.loop-number.slots i None) (get_or c.put_one.new.slots i None)
          (c.loop-number.invariant.each i lt) (c.put_one.ensures i (omega arith));
    }

pub returns : goal.returns
returns g c i lt =
    let same = none_left c.loop-number.yielded c.loop-number.number-iterator.rest.items c.args.entries.items c.loop-number.invariant.left (omega (arith, c.in-None.ensures.steps.0)) in
    subst (λ entries. IsPut entries i (get_or c.args.slots.now i None) (get_or c.loop-number.slots i None)) same (c.loop-number.invariant.each i lt)
