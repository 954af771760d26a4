use Rattle.std.proofs.Common.{◌≡◌, ℕ, List, length, get_or, ap, ◌∙◌, arith}
use Rattle.std.proofs.lemmas.List.{with_items_is}
use Rattle.cut_bound.proofs.Leaving.{node-leaving}
use Rattle.cut_bound.proofs.sums.node_sums.Goals as goal

pub returns-clause-each : goal.returns-clause-each
returns-clause-each c = λ v l.
    let new = c.add_arcs.new.table in
    let whole : length new ≡ c.in_ok-sums.sums.len = omega arith in
    ap (λ (xs : List ℕ). get_or xs v 0) (with_items_is c.in_ok-sums.sums new whole) ∙ (c.add_arcs.ensures v ∙ node-leaving c.args.into v c.args.cells.now)
