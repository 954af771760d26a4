use Rattle.std.proofs.Common.{◌≡◌, ◌<◌, length, sym, ap, ◌∙◌, subst, arith}
use Rattle.std.specs.Prelude.{All}
use Rattle.std.proofs.lemmas.List.Elements.{All-from_get_or}
use Rattle.flow_paths.proofs.Numbers.{below_of_all}
use Rattle.route_tally.specs.Tally.{IsCollected, IsTally}
use Rattle.route_tally.proofs.Reordered.{in_order, tally_in_order}
use Rattle.route_tally.proofs.tally.Tally.ordered.Goals as goal

pub stored-requires-clause-all : goal.stored-requires-clause-all
stored-requires-clause-all c =
    let rows = c.self.inside.paths in
    let order = c.in_ok-order.order.items in
    let is = c.in_ok-order.ensures.order in
    let count = is.count in
    let all : All (λ n. n < length rows) order = All-from_get_or (λ n. n < length rows) order 0 (λ i l. let b = below_of_all order i is.all l in omega (arith, b, count)) in
    subst (All (λ n. n < length rows)) (sym c.deref.ensures.value) all

pub returns : goal.returns
returns c = λ turns from.
    let rows = c.self.inside.paths in
    let order = c.in_ok-order.order.items in
    let new : c.in_ok-rows.rows ≡ in_order rows order = c.in_ok-rows.ensures ∙ ap (in_order rows) c.deref.ensures.value in
    subst (IsTally turns) (sym new) (tally_in_order turns rows order c.in_ok-order.ensures.order (subst (IsCollected turns) (sym c.self.view_is) from))
