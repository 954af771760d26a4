use Rattle.std.proofs.Common.{◌≡◌, ℕ, ◌<◌, List, get_or, sym, ◌∙◌, subst, arith}
use Rattle.flow_model.specs.Network.{Network}
use Rattle.hop_paths.specs.Allowed.{IsShortWalk, IsLeastOf}
use Rattle.hop_paths.specs.Searched.{layer_dist}
use Rattle.hop_solve.specs.Numbers.{AddsLayers, IsNumber, IsSearchedNumber, first_layers}
use Rattle.hop_solve.proofs.Appending.{adds-as, asked-first}
use Rattle.hop_solve.proofs.layering.node_layers.Goals as goal

pub returns-clause-layers : goal.returns-clause-layers
returns-clause-layers c =
    let on = c.args.on.now in
    let net = on.net.now in
    let v = c.args.node in
    let count = get_or on.counts.now v 0 in
    let s = c.search.new.self in
    let kind = c.args.kind in
    let lengths = c.args.lengths.now in
    let nodes : s.nodes ≡ net.nodes = c.search.ensures.nodes ∙ c.requires.finder.layered in
    let found : AddsLayers net.nodes (IsSearchedNumber kind s) (first_layers v count) c.args.layers.now c.push_layers.new.layers
    = subst (λ (n : ℕ). AddsLayers n (IsSearchedNumber kind s) (first_layers v count) c.args.layers.now c.push_layers.new.layers) nodes c.in_ok-push_layers.ensures.layers in
    let go : (i w n : ℕ) → i < count → w < net.nodes → IsSearchedNumber kind s v i w n → IsNumber kind net.cells lengths v i w n
    = λ i w n li lw e. (layer_dist s i w, subst (λ (x : Network). IsLeastOf (IsShortWalk x.cells v w i) lengths (layer_dist s i w)) on.graph_is (c.search.ensures.least i w (omega arith) (omega (arith, nodes, lw))), e) in
    let all = adds-as net.nodes v count (IsSearchedNumber kind s) (IsNumber kind net.cells lengths) c.args.layers.now c.push_layers.new.layers go found in
    subst (λ (ps : List (ℕ × ℕ)). AddsLayers net.nodes (IsNumber kind net.cells lengths) ps c.args.layers.now c.push_layers.new.layers) (sym (asked-first net on.limits.now on.counts.now v on.counts_are c.requires.node)) all
