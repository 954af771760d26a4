use Rattle.std.proofs.Common.{◌≡◌, ℕ, ◌<◌, List, length, get_or, ap, ◌∙◌, arith}
use Rattle.std.proofs.lemmas.List.{with_items_is}
use Rattle.std.proofs.lemmas.Result.{IfOk-weaker}
use Rattle.cut_bound.specs.Sums.{leaving, rank_front, AreSteps}
use Rattle.cut_bound.proofs.Leaving.{front-steps}
use Rattle.cut_bound.proofs.sums.front_sums.Goals as goal

pub running_sums-requires-clause-steps : goal.running_sums-requires-clause-steps
running_sums-requires-clause-steps c =
    let rank = λ (v : ℕ). get_or c.args.ranks.now v 0 in
    let starts : length c.add_spans.new.starts ≡ c.in_ok-starts.starts.len = omega arith in
    let ends : length c.add_spans.new.ends ≡ c.in_ok-ends.ends.len = omega arith in (
      λ j. leaving (rank_front rank j) c.args.cells.now,
      front-steps rank c.args.cells.now c.deref.result.now c.deref-2.result.now c.requires.total
          (λ p. ap (λ (xs : List ℕ). get_or xs p 0) (c.deref.ensures.value ∙ with_items_is c.in_ok-starts.starts c.add_spans.new.starts starts) ∙ c.add_spans.ensures.starts p)
          (λ p. ap (λ (xs : List ℕ). get_or xs p 0) (c.deref-2.ensures.value ∙ with_items_is c.in_ok-ends.ends c.add_spans.new.ends ends) ∙ c.add_spans.ensures.ends p),
    )

pub returns-clause-each : goal.returns-clause-each
returns-clause-each c =
    let rank = λ (v : ℕ). get_or c.args.ranks.now v 0 in
    let starts : length c.add_spans.new.starts ≡ c.in_ok-starts.starts.len = omega arith in
    let ends : length c.add_spans.new.ends ≡ c.in_ok-ends.ends.len = omega arith in
    let steps : AreSteps (λ j. leaving (rank_front rank j) c.args.cells.now) c.deref.result.now c.deref-2.result.now
    = front-steps rank c.args.cells.now c.deref.result.now c.deref-2.result.now c.requires.total
    (λ p. ap (λ (xs : List ℕ). get_or xs p 0) (c.deref.ensures.value ∙ with_items_is c.in_ok-starts.starts c.add_spans.new.starts starts) ∙ c.add_spans.ensures.starts p)
    (λ p. ap (λ (xs : List ℕ). get_or xs p 0) (c.deref-2.ensures.value ∙ with_items_is c.in_ok-ends.ends c.add_spans.new.ends ends) ∙ c.add_spans.ensures.ends p) in
    let count : length c.deref.result.now ≡ c.args.count = omega (arith, c.in_ok-starts.ensures.len, ap length (c.deref.ensures.value ∙ with_items_is c.in_ok-starts.starts c.add_spans.new.starts starts)) in
    IfOk-weaker c.running_sums.result
    (λ v. (level : ℕ → ℕ) → AreSteps level c.deref.result.now c.deref-2.result.now → (j : ℕ) → j < length c.deref.result.now → get_or v.items j 0 ≡ level j)
    (λ v. (j : ℕ) → j < c.args.count → get_or v.items j 0 ≡ leaving (rank_front rank j) c.args.cells.now)
    (λ v h j l. h (λ j. leaving (rank_front rank j) c.args.cells.now) steps j (omega arith)) c.running_sums.ensures.each
