use Rattle.std.proofs.Common.{◌≡◌, ℕ, ◌<◌, Bool, List, length, map, sym, ap, ◌∙◌}
use Rattle.std.specs.List.{range_with_len}
use Rattle.std.proofs.lemmas.List.FromFn.{length-map-range_with_len}
use Rattle.std.proofs.lemmas.Result.{IfOk-weaker}
use Rattle.cut_bound.specs.declared.choice.Place.{Place}
use Rattle.cut_bound.specs.Search.{marked, seen, side_at}
use Rattle.cut_bound.specs.Sums.{node_side}
use Rattle.cut_bound.proofs.Making.{marked-range}
use Rattle.cut_bound.proofs.best.marks_at.Goals as goal

pub returns-in-Node-clause-len : goal.returns-in-Node-clause-len
returns-in-Node-clause-len c =
    let f = node_side c.in-Node.into c.in-Node.node in
    IfOk-weaker c.node_marks.result (λ v. v.items ≡ map f (range_with_len 0 c.args.nodes)) (λ v. length v.items ≡ c.args.nodes) (λ v e. ap length e ∙ length-map-range_with_len f 0 c.args.nodes) c.node_marks.ensures

pub returns-in-Node-clause-each : goal.returns-in-Node-clause-each
returns-in-Node-clause-each c =
    let f = node_side c.in-Node.into c.in-Node.node in
    let own = seen c.args.own.now in
    IfOk-weaker c.node_marks.result (λ v. v.items ≡ map f (range_with_len 0 c.args.nodes)) (λ v. (w : ℕ) → w < c.args.nodes → marked v.items w ≡ side_at own c.args.place w)
    (λ v e w l. ap (λ (xs : List Bool). marked xs w) e ∙ (marked-range f c.args.nodes w l ∙ ap (λ (p : Place). side_at own p w) (sym c.in-Node.is))) c.node_marks.ensures
