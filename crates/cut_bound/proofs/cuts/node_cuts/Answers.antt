use Rattle.std.proofs.Common.{◌≡◌, ◌∙◌, List, false, map, ap}
use Rattle.std.specs.List.{flat_map, range_with_len}
use Rattle.std.proofs.lemmas.Result.{IfOk-weaker}
use Rattle.cut_bound.specs.declared.choice.SummedCut.{SummedCut}
use Rattle.cut_bound.specs.Search.{node_cut, node_cuts, woven}
use Rattle.cut_bound.proofs.Levelling.{nodes-both, nodes-woven}
use Rattle.cut_bound.proofs.cuts.node_cuts.Goals as goal

pub returns-then-both : goal.returns-then-both
returns-then-both c =
    let net = c.args.net.now in
    c.in_ok-out.ensures ∙ nodes-both net.cells c.args.demands.now c.args.both (range_with_len 0 net.nodes) c.if-both.true

pub returns : goal.returns
returns c =
    let net = c.args.net.now in
    let demands = c.args.demands.now in
    let vs = range_with_len 0 net.nodes in
    IfOk-weaker c.woven.result (λ v. v.items ≡ woven c.deref.result.now c.deref-2.result.now) (λ v. v.items ≡ flat_map (node_cuts net.cells demands c.args.both) vs)
    (λ v e. e ∙ (ap (λ (xs : List SummedCut). woven xs c.deref-2.result.now) (c.deref.ensures.value ∙ c.in_ok-out.ensures)
    ∙ (ap (λ (xs : List SummedCut). woven (map (node_cut net.cells demands false) vs) xs) (c.deref-2.ensures.value ∙ c.in_ok-into.ensures)
    ∙ nodes-woven net.cells demands c.args.both vs c.if-both.false))) c.woven.ensures
