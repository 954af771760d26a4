use Rattle.std.proofs.Common.{ℕ, ◌+◌, ◌-◌, ◌<◌, List, [], ◌∷◌, ◌++◌, length, ◌≡◌, true, false, arith, ap, sym, subst, ◌∙◌, slice_index_or, slice_set, length-append, length-set, get_or-set_other}
use Rattle.load_table.specs.declared.view.View.{View}
use Rattle.load_table.specs.declared.view.Hand as table
use Rattle.load_table.specs.Views.{hand}
use Rattle.phase_engine.specs.declared.hand.Hand.{Hand}
use Rattle.phase_engine.specs.Hands.{IsDone, IsWorkOf, SomeStopped, NoneStopped}
use Rattle.phase_engine.proofs.Joining.{turn_of, next_works, next_back, none-more, not_first, any_hand, stopped_before, stopped_last}
use Rattle.phase_engine.proofs.turns.gather.Goals as goal
use Rattle.phase_engine.proofs.turns.gather.Goals.{then-whole, else-whole}

pub loop-i-preserved : goal.loop-i-preserved
loop-i-preserved c =
    let l = c.args.loads.now in
    let i = c.loop-i.i in
    let d = c.index-hands-i.result in
    let h : Hand = slice_index_or c.loop-i.hands i d in
    let w = c.take-pass-in-loop-i.result in
    let inv = c.loop-i.invariant in
    let as_long = length-set c.args.hands.now 0 c.take-pass.new.hand in
    let inside : i < length c.loop-i.hands = omega arith in
    let is : h ≡ slice_index_or c.args.hands.now i d = inv.rest i d (omega arith) in
    let done = c.requires.done i d (omega arith) in
    let number : h.worker ≡ i = ap (λ (x : Hand). x.worker) is ∙ done.0 in
    let turn = turn_of l h w c.take-pass-in-loop-i.ensures.0 (subst (IsDone l) (sym is) done.1) in
    let worked = turn.1 in
    let joined = c.join.ensures.view in
    let works = c.loop-i.all.view.hands in
    let pass_made : w.pass.view.made ≡ 0 = worked.made ∙ not_first h.worker (l.terms.workers - 1) (omega arith) in
    let new_hands : c.join.new.pass.view.hands ≡ works ++ hand i worked.work ∷ [] =
    ap (λ (v : View). v.hands) joined ∙ ap (λ (xs : List table.Hand). works ++ xs) (worked.hands ∙ ap (λ (n : ℕ). hand n worked.work ∷ []) number) in
    let routes : c.take-pass-in-loop-i.new.hand.routes ≡ h.routes = ap (λ (x : Hand). x.routes) c.take-pass-in-loop-i.ensures.1 in
    let next = next_works l.terms c.loop-i.hands i h c.take-pass-in-loop-i.new.hand works worked.work inv.as_many inside inv.works worked.is_work.complete worked.is_work.routes_are routes in
    let stops : c.if-whole.whole ≡ true → SomeStopped (works ++ hand i worked.work ∷ []) = λ e. elim c.if-whole.branch [
      | then-whole b ↦ stopped_before works (hand i worked.work) (inv.stopped b.if-whole.true)
      | else-whole b ↦ stopped_last works i worked.work (worked.is_work.stopped ∙ (sym b.whole-is ∙ e))
    ] in
    record {
      of = c.join.ensures.of;
      left = (let a = ap (λ (v : View). v.left) joined in let b = worked.left in let old = inv.left in omega arith);
      made = (let a = ap (λ (v : View). v.made) joined in let old = inv.made in omega arith);
      as_many = (let a = ap length new_hands in let b = length-append works (hand i worked.work ∷ []) in let old = inv.as_many in omega arith);
      works = subst (λ (xs : List table.Hand). (k : ℕ) (d : Hand) → k < i + 1 → IsWorkOf l.terms xs k (slice_index_or (slice_set c.loop-i.hands i c.take-pass-in-loop-i.new.hand) k d)) (sym new_hands) next;
      stopped = λ e. subst SomeStopped (sym new_hands) (stops e);
      none = λ e. elim c.if-whole.branch [
        | then-whole b ↦ absurd (let z : true ≡ false = sym b.if-whole.true ∙ (sym b.whole-is ∙ e) in cc)
        | else-whole b ↦ subst NoneStopped (sym new_hands) (none-more works (hand i worked.work) (inv.none b.if-whole.false) (worked.is_work.stopped ∙ (sym b.whole-is ∙ e)))
      ];
      back = next_back c.args.hands.now c.loop-i.hands i c.take-pass-in-loop-i.new.hand inside inv.back
          (λ d'.
          let there : slice_index_or c.args.hands.now i d' ≡ h = sym (inv.rest i d' (omega arith)) ∙ any_hand c.loop-i.hands i d' d inside in
          let new = c.take-pass-in-loop-i.ensures.1 in (
            (ap (λ (x : Hand). x.worker) new ∙ ap (λ (x : Hand). x.worker) (sym there), ap (λ (x : Hand). x.scratch.nodes) new ∙ ap (λ (x : Hand). x.scratch.nodes) (sym there), ap (λ (x : Hand). x.scratch.cells) new ∙ ap (λ (x : Hand). x.scratch.cells) (sym there)),
            ap (λ (x : Hand). x.turn) new,
            ap (λ (x : Hand). x.routes) new ∙ ap (λ (x : Hand). x.routes) (sym there),
            ap (λ (x : Hand). x.room) new ∙ ap (λ (x : Hand). x.room) (sym there),
          ));
      rest = λ k d h. get_or-set_other c.loop-i.hands i k c.take-pass-in-loop-i.new.hand d (λ e. omega arith) ∙ inv.rest k d (omega arith);
    }

pub returns-clause-works : goal.returns-clause-works
returns-clause-works c = record {
  as_many = (let a = c.loop-i.invariant.as_many in let b = length-set c.args.hands.now 0 c.take-pass.new.hand in let some_hand = c.requires.some_hand in omega arith);
  each = λ k d h. c.loop-i.invariant.works k d (omega arith);
}
