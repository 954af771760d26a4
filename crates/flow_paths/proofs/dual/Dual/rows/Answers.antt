use Rattle.std.proofs.Common.{List, ◌≤◌, All, subst, ap}
use Rattle.std.proofs.lemmas.List.Elements.{All-map}
use Rattle.mcf_limits.specs.declared.TheConstants.{MAX_LENGTH}
use Rattle.flow_paths.specs.DualRows.{DualRows, Potential}
use Rattle.flow_paths.specs.DualViews.{potential_of_row}
use Rattle.flow_paths.proofs.dual.Dual.rows.Goals as goal

pub returns-clause-limits : goal.returns-clause-limits
returns-clause-limits c =
    let small : (r : Potential) → Type 0 = λ r. All (λ p. p ≤ MAX_LENGTH) r.values in
    let rows = c.self.inside.potentials.items in
    subst (λ (ps : List Potential). All small ps) (ap (λ (d : DualRows). d.potentials) c.self.view_is) (All-map small potential_of_row rows c.self.invariant.potentials_limit)
