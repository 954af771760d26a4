use Rattle.std.proofs.Common.{◌≡◌, ◌+◌, ap, sym, ◌∙◌, length, drop, set, List}
use Rattle.std.proofs.lemmas.List.{drop-set-add, with_items_is}
use Rattle.std.specs.Vec.{with_item}
use Rattle.whatif.specs.declared.ratio.Ratio.{Ratio}
use Rattle.whatif.proofs.tree.Tree.set.Goals as goal

pub returns : goal.returns
returns c =
    let leaves = c.self.inside.leaves in
    let nodes = c.self.inside.nodes in
    let v = with_item nodes (leaves + c.args.leaf) c.args.ratio in
    let new = c.mend.new.nodes in
    let whole : length new ≡ v.len = c.mend.ensures.tournament.count ∙ (sym c.self.invariant.0.count ∙ sym nodes.ok.0) in
    ap (drop leaves) (with_items_is v new whole) ∙ (c.mend.ensures.leaves ∙ (ap (drop leaves) c.deref_mut.ensures.value ∙ (drop-set-add leaves nodes.items c.args.leaf c.args.ratio ∙ ap (λ (l : List Ratio). set l c.args.leaf c.args.ratio) c.self.view_is)))
