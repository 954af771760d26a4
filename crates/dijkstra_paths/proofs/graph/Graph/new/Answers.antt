use Rattle.std.proofs.Common.{arith, rules, ◌≤◌, ◌≡◌, ◌↔◌, ◌∙◌, List, length, ap, sym, subst, refl, length-append, [], ◌∷◌}
use Rattle.std.specs.Prelude.{IsTrue}
use Rattle.flow_model.specs.declared.net.Cell.{Cell}
use Rattle.flow_model.specs.Network.{Network}
use Rattle.dijkstra_paths.specs.Arcs.{arcs_below}
use Rattle.dijkstra_paths.specs.Tree.{GoBothWays}
use Rattle.dijkstra_paths.proofs.ArcLaws.{below-fits, below-suc, below-zero, begins-more}
use Rattle.dijkstra_paths.proofs.graph.Graph.new.Goals as goal
use Rattle.mcf_limits.specs.declared.TheConstants.{MAX_CELLS, MAX_NODES}

pub overflow_cast-len : goal.overflow_cast-len
overflow_cast-len c =
    let few : c.loop-from.from ≤ MAX_NODES = omega (arith, c.nodes-from-end.ensures.net.nodes) in
    let cells : length c.cells-cells.result.now ≤ MAX_CELLS = rw c.cells-cells.ensures.value c.cells-cells.ensures.net.cell_count in
    omega (arith, below-fits c.cells-cells.result.now c.loop-from.from cells few, ap length c.loop-from.invariant.all)

pub overflow_cast-len-2 : goal.overflow_cast-len-2
overflow_cast-len-2 c =
    let few : c.loop-from.from ≤ MAX_NODES = omega (arith, c.nodes-from-end.ensures.net.nodes) in
    let cells : length c.cells-cells.result.now ≤ MAX_CELLS = rw c.cells-cells.ensures.value c.cells-cells.ensures.net.cell_count in
    omega (arith, below-fits c.cells-cells.result.now c.loop-from.from cells few, ap length c.loop-from.invariant.all)

pub loop-from-init : goal.loop-from-init
loop-from-init c = record { all = rw (c.new-arcs.ensures.items, below-zero c.cells-cells.result.now) refl; count = rw c.new-first.ensures.items refl; first = λ u l. absurd (omega arith) }

pub loop-from-preserved : goal.loop-from-preserved
loop-from-preserved c =
    let cells = c.cells-cells.result.now in
    let u = c.loop-from.from in
    let x : c.len.result ≡ length (arcs_below cells u) = omega (arith, ap length c.loop-from.invariant.all) in
    record {
      all = rw (c.in_ok-append_arcs.ensures, c.loop-from.invariant.all) (sym (below-suc cells u));
      count = rw c.in_ok-push.ensures.items (omega (arith, length-append c.loop-from.first.items (c.len.result ∷ []), c.loop-from.invariant.count));
      first = rw c.in_ok-push.ensures.items (begins-more cells c.loop-from.first.items u c.len.result c.loop-from.invariant.count x c.loop-from.invariant.first);
    }

pub invariant_of-result : goal.invariant_of-result
invariant_of-result c =
    let cells : c.cells-cells.result.now ≡ c.of.result.value.cells = c.cells-cells.ensures.value ∙ ap (λ (n : Network). n.cells) (sym c.of.ensures) in (
      search rules,
      search rules,
      search rules,
      search rules,
      search rules,
      subst (λ (cs : List Cell). IsTrue c.go_both_ways.result ↔ GoBothWays cs) cells c.go_both_ways.ensures,
    )
