use Rattle.std.proofs.Common.{sym, subst, length, drop, ◌<◌, arith, ap}
use Rattle.whatif.specs.declared.ratio.Ratio.{Ratio}
use Rattle.whatif.specs.Tournament.{no_ratio, node, IsFirstLeast}
use Rattle.whatif.proofs.Trees.{root_least}
use Rattle.std.proofs.Common.{List, ◌≡◌}
use Rattle.std.proofs.lemmas.List.{get_or_read, length-drop}
use Rattle.whatif.proofs.tree.Tree.top.Goals as goal

pub returns-clause-least : goal.returns-clause-least
returns-clause-least c =
    let leaves = c.self.inside.leaves in
    let nodes = c.self.inside.nodes.items in
    let some : 0 < length (drop leaves nodes) = omega (arith, c.requires, ap length c.self.view_is) in
    let inside : 1 < length nodes = omega (arith, length-drop leaves nodes, c.self.invariant.0.count) in
    let here : c.index.result.now ≡ node nodes 1 = get_or_read nodes 1 c.index.result.now inside c.index.ensures no_ratio in
    let least : IsFirstLeast (drop leaves nodes) (node nodes 1) = root_least leaves nodes c.self.invariant.0 some in
    subst (λ (l : List Ratio). IsFirstLeast l c.index.result.now) c.self.view_is (subst (IsFirstLeast (drop leaves nodes)) (sym here) least)
