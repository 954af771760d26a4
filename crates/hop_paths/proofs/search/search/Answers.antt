use Rattle.std.proofs.Common.{◌+◌, ◌*◌, ◌≡◌, ℕ, ap, sym, subst, ◌∙◌}
use Rattle.hop_paths.specs.Searching.{IsSettled, IsSameBelow, IsBehind}
use Rattle.hop_paths.proofs.Layering.{searched-more, settled-searched}
use Rattle.hop_paths.proofs.search.search.Goals as goal

pub rise-requires-clause-settled : goal.rise-requires-clause-settled
rise-requires-clause-settled c =
    let n = c.args.graph.now.nodes in
    let i = c.loop-layer.layer in
    let cells = c.args.graph.now.cells in
    let at : i * c.nodes-nodes.result ≡ i * n = ap (λ (k : ℕ). i * k) c.nodes-nodes.ensures.value in
    subst (λ (b : ℕ). IsSettled cells c.args.lengths.now n c.loop-layer.dist c.loop-layer.steps b) (sym at)
    (settled-searched cells c.args.lengths.now c.args.from n c.loop-layer.dist c.loop-layer.steps i c.loop-layer.invariant.searched)

pub loop-layer-preserved : goal.loop-layer-preserved
loop-layer-preserved c =
    let n = c.args.graph.now.nodes in
    let i = c.loop-layer.layer in
    let cells = c.args.graph.now.cells in
    let at : i * c.nodes-nodes.result ≡ i * n = ap (λ (k : ℕ). i * k) c.nodes-nodes.ensures.value in
    let behind : IsBehind cells c.args.lengths.now n c.rise.new.dist c.rise.new.steps (i * n) = subst (λ (b : ℕ). IsBehind cells c.args.lengths.now n c.rise.new.dist c.rise.new.steps b) at c.rise.ensures.behind in
    let front : IsSameBelow (i * n + n) c.loop-layer.dist c.rise.new.dist c.loop-layer.steps c.rise.new.steps =
    subst (λ (b : ℕ). IsSameBelow (b + n) c.loop-layer.dist c.rise.new.dist c.loop-layer.steps c.rise.new.steps) at c.rise.ensures.front in
    record {
      searched = searched-more cells c.args.lengths.now c.args.from n c.loop-layer.dist c.rise.new.dist c.loop-layer.steps c.rise.new.steps i c.requires.from c.loop-layer.invariant.searched front behind;
      size = front.len ∙ c.loop-layer.invariant.size;
      room = front.steps_len ∙ c.loop-layer.invariant.room ∙ sym front.len;
    }
