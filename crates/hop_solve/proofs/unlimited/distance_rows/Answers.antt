use Rattle.std.proofs.Common.{◌≡◌, ◌∙◌, length, arith, ap}
use Rattle.std.proofs.lemmas.List.{with_items_is}
use Rattle.dual_bound.specs.Rows.{sources_of}
use Rattle.dual_bound.proofs.Bounding.{sources-kept}
use Rattle.hop_solve.proofs.unlimited.distance_rows.Goals as goal

pub returns-then-are_filled-clause-sources : goal.returns-then-are_filled-clause-sources
returns-then-are_filled-clause-sources c =
    let new = c.fill_rows.new.rows in
    let whole : length new ≡ c.in_ok-rows.rows.len = omega arith in
    let kept : sources_of new ≡ sources_of c.deref_mut.result.now = sources-kept c.deref_mut.result.now new (omega arith) (λ k d l. (c.fill_rows.ensures k d l).source) in
    ap sources_of (with_items_is c.in_ok-rows.rows new whole) ∙ (kept ∙ (ap sources_of c.deref_mut.ensures.value ∙ c.in_ok-rows.ensures.sources))
