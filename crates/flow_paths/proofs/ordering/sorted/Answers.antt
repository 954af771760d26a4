use Rattle.std.proofs.Common.{◌≡◌, ◌++◌, ◌∷◌, [], length, refl, sym, ap, ◌∙◌, subst, arith}
use Rattle.std.specs.Prelude.{All}
use Rattle.std.specs.List.{range_with_len}
use Rattle.std.proofs.lemmas.List.{length-map}
use Rattle.std.proofs.lemmas.List.Elements.{All-push}
use Rattle.flow_paths.specs.declared.ordering.OrderedRow.{OrderedRow}
use Rattle.flow_paths.specs.Sorted.{IsOrderedRow, numbers_of}
use Rattle.flow_paths.proofs.Ascending.{order_from, numbered_more}
use Rattle.flow_paths.proofs.ordering.sorted.Goals as goal

pub loop-row-preserved : goal.loop-row-preserved
loop-row-preserved c =
    let r : OrderedRow = record { commodity = c.commodity.result; path = c.path.result; row = c.loop-row.row } in
    let is : c.push.new.self.items ≡ c.loop-row.rows.items ++ r ∷ [] = c.in_ok-push.ensures.items in
    let fits : IsOrderedRow c.args.paths.now r = record { within = omega arith; commodity = c.commodity.ensures; path = c.path.ensures } in
    record {
      all = subst (All (IsOrderedRow c.args.paths.now)) (sym is) (All-push (IsOrderedRow c.args.paths.now) c.loop-row.rows.items r c.loop-row.invariant.all fits);
      numbered = ap numbers_of is ∙ numbered_more c.loop-row.rows.items r c.loop-row.row c.loop-row.invariant.numbered refl;
    }

pub returns-clause-order : goal.returns-clause-order
returns-clause-order c =
    let end : c.loop-row.row ≡ length c.args.paths.now = omega arith in
    order_from c.args.paths.now c.loop-row.rows.items c.sort_unstable.new.self.items (c.loop-row.invariant.numbered ∙ ap (range_with_len 0) end) c.loop-row.invariant.all c.sort_unstable.ensures.permutation c.sort_unstable.ensures.sorted

pub returns-clause-few : goal.returns-clause-few
returns-clause-few c =
    let order = returns-clause-order c in
    let long = order.count in
    let same = length-map c.sort_unstable.new.self.items (λ (r : OrderedRow). r.row) in
    let fits = c.rows-row-end.type_inv in
    let is = c.rows-row-end.ensures in
    omega (arith, long, same, fits, is)
