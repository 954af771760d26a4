use Rattle.std.proofs.Common.{arith, subst, get_or, ◌∙◌, ◌<◌, length}
use Rattle.std.proofs.lemmas.List.{get_or_default}
use Rattle.dual_bound.specs.declared.rows.Row.{Row}
use Rattle.dual_bound.specs.Rows.{IsMadeBlank}
use Rattle.dual_bound.proofs.Filling.{done-more, rest-more}
use Rattle.dual_bound.proofs.rows.blank_all.Goals as goal

pub loop-row-preserved : goal.loop-row-preserved
loop-row-preserved c =
    let old = c.args.rows.now in
    let now = c.loop-row.rows in
    let i = c.loop-row.row-index in
    let x = c.make_blank.new.row in
    let inside : i < length now = omega arith in
    let here : (d : Row) → IsMadeBlank (get_or old i d) x
    = λ d. subst (λ (r : Row). IsMadeBlank r x) (get_or_default now i c.row-item.result d inside ∙ c.loop-row.invariant.rest i d (omega arith)) c.make_blank.ensures in
    record {
      done = done-more IsMadeBlank old now i x inside c.loop-row.invariant.done here;
      rest = rest-more old now i x c.loop-row.invariant.rest;
    }
