use Rattle.std.proofs.Common.{arith, sym, subst, get_or, ◌∙◌, ◌≡◌, ◌<◌, length}
use Rattle.std.proofs.lemmas.List.{get_or_default}
use Rattle.dual_bound.specs.declared.rows.Row.{Row}
use Rattle.dual_bound.specs.Rows.{HasGiven}
use Rattle.dual_bound.proofs.Assembling.{rows-more}
use Rattle.dual_bound.proofs.Filling.{done-more, rest-more}
use Rattle.dual_bound.proofs.dual.assembled_from.Goals as goal

pub loop-row-preserved : goal.loop-row-preserved
loop-row-preserved c =
    let old = c.args.rows.now in
    let now = c.loop-row.rows in
    let i = c.loop-row.row-index in
    let x = c.give_row.new.row in
    let inside : i < length now = omega arith in
    let item = get_or now i c.row-item.result in
    let is : (d : Row) → item ≡ get_or old i d = λ d. get_or_default now i c.row-item.result d inside ∙ c.loop-row.invariant.rest i d (omega arith) in
    record {
      dual = rows-more c.args.lengths.now old i item c.loop-row.dual c.give_row.new.dual (omega arith) (sym (is item)) c.loop-row.invariant.dual c.in_ok-give_row.ensures.dual;
      done = done-more HasGiven old now i x inside c.loop-row.invariant.done (λ d. subst (λ (r : Row). HasGiven r x) (is d) c.in_ok-give_row.ensures.row);
      rest = rest-more old now i x c.loop-row.invariant.rest;
    }
