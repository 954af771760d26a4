use Rattle.std.proofs.Common.{ℕ, List, ap, sym, subst, ◌∙◌, ◌==◌}
use Rattle.std.specs.Prelude.{position}
use Rattle.unit_scale.specs.ScaledFacts.{AreKeptRows}
use Rattle.unit_scale.specs.Scaling.{ScaledNet}
use Rattle.unit_scale.proofs.WholeScaling.{commodity_found, commodity_none}
use Rattle.unit_scale.proofs.scaled.Scaled.commodity_of.Goals as goal

pub returns-in-Ok : goal.returns-in-Ok
returns-in-Ok c =
    let xs = c.as_slice.result.now in
    let rows = subst AreKeptRows (sym c.as_slice.ensures.value) c.self.invariant.rows in
    commodity_found xs c.args.demand c.in-Ok.k rows c.in-Ok.ensures.position
    ∙ ap (λ (ks : List ℕ). position (λ row. row == c.args.demand) ks) (c.as_slice.ensures.value ∙ ap (λ (s : ScaledNet). s.kept) c.self.view_is)

pub returns-in-Err : goal.returns-in-Err
returns-in-Err c =
    let xs = c.as_slice.result.now in
    let rows = subst AreKeptRows (sym c.as_slice.ensures.value) c.self.invariant.rows in
    commodity_none xs c.args.demand c.in-Err.field-0 rows c.in-Err.ensures.position
    ∙ ap (λ (ks : List ℕ). position (λ row. row == c.args.demand) ks) (c.as_slice.ensures.value ∙ ap (λ (s : ScaledNet). s.kept) c.self.view_is)
