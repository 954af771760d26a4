use Rattle.std.proofs.Common.{◌≡◌, ◌∙◌, length, arith, ap}
use Rattle.std.proofs.lemmas.List.{with_items_is}
use Rattle.dual_bound.specs.Rows.{demands_of}
use Rattle.dual_bound.proofs.Demands.{demands-kept}
use Rattle.dual_bound.proofs.bounds.cut_rows.Goals as goal

pub returns-clause-demands : goal.returns-clause-demands
returns-clause-demands c =
    let new = c.mark_all.new.rows in
    let whole : length new ≡ c.in_ok-rows.rows.len = omega arith in
    let kept : demands_of new ≡ demands_of c.deref_mut.result.now = demands-kept c.deref_mut.result.now new (omega arith) c.in_ok-mark_all.ensures.sources c.in_ok-mark_all.ensures.targets in
    ap demands_of (with_items_is c.in_ok-rows.rows new whole) ∙ (kept ∙ (ap demands_of c.deref_mut.ensures.value ∙ c.in_ok-rows.ensures.demands))
