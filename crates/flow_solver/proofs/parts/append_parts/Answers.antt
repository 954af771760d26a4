use Rattle.std.proofs.Common.{◌++◌, List, sym, ap, ◌∙◌, append_assoc}
use Rattle.dual_bound.specs.declared.rows.Row.{Row}
use Rattle.flow_solver.specs.Shares.{rows_at, rows_in}
use Rattle.flow_solver.proofs.Parting.{rows-push}
use Rattle.flow_solver.proofs.parts.append_parts.Goals as goal

pub parts-preserved : goal.parts-preserved
parts-preserved g c =
    let rows = c.parts.rows.items in
    let rest = c.pop.new.self.items in
    let part = c.in-Some.part in
    ap (λ (rs : List Row). rs ++ rows_in rest) c.in_ok-append_part.ensures ∙ (append_assoc rows (rows_at part) (rows_in rest)
    ∙ (ap (λ (rs : List Row). rows ++ rs) (sym (rows-push rest part)) ∙ (ap (λ (ps : List _). rows ++ rows_in ps) (sym c.in-Some.ensures.items) ∙ c.parts.invariant)))
