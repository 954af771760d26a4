use Rattle.std.proofs.Common.{◌≡◌, List, sym, subst, ◌∙◌}
use Rattle.std.specs.Prelude.{All, Contains}
use Rattle.flow_model.specs.Walk.{PassesOver}
use Rattle.dijkstra_paths.specs.declared.graph.Arc.{Arc}
use Rattle.dijkstra_paths.specs.Arcs.{arcs_from}
use Rattle.dijkstra_paths.proofs.ArcLaws.{out-facts, arcs-pass, arcs-each}
use Rattle.dijkstra_paths.proofs.graph.Graph.arcs_at.Goals as goal

pub part-requires-clause-start : goal.part-requires-clause-start
part-requires-clause-start c =
    let i = c.self.inside in
    (out-facts i.net.value c.args.self.now i.first.items c.as_slice-first.result.now i.arcs.items c.deref.result.now c.args.from c.self.invariant.2 c.self.view_is c.requires c.as_slice-first.ensures.value c.deref.ensures.value).0

pub part-requires-clause-end : goal.part-requires-clause-end
part-requires-clause-end c =
    let i = c.self.inside in
    (out-facts i.net.value c.args.self.now i.first.items c.as_slice-first.result.now i.arcs.items c.deref.result.now c.args.from c.self.invariant.2 c.self.view_is c.requires c.as_slice-first.ensures.value c.deref.ensures.value).1

pub returns-clause-value : goal.returns-clause-value
returns-clause-value c =
    let i = c.self.inside in
    c.part.ensures ∙ (out-facts i.net.value c.args.self.now i.first.items c.as_slice-first.result.now i.arcs.items c.deref.result.now c.args.from c.self.invariant.2 c.self.view_is c.requires c.as_slice-first.ensures.value c.deref.ensures.value).2

pub returns-clause-over : goal.returns-clause-over
returns-clause-over c =
    let i = c.self.inside in
    let net = c.args.self.now in
    let is : c.part.result.now ≡ arcs_from net.cells 0 c.args.from = c.part.ensures ∙ (out-facts i.net.value net i.first.items c.as_slice-first.result.now i.arcs.items c.deref.result.now c.args.from c.self.invariant.2 c.self.view_is c.requires c.as_slice-first.ensures.value c.deref.ensures.value).2 in
    subst (λ (xs : List Arc). All (λ arc. PassesOver net.cells arc.cell c.args.from arc.to) xs) (sym is) (arcs-pass net.cells c.args.from)

pub returns-clause-each : goal.returns-clause-each
returns-clause-each c =
    let i = c.self.inside in
    let net = c.args.self.now in
    let is : c.part.result.now ≡ arcs_from net.cells 0 c.args.from = c.part.ensures ∙ (out-facts i.net.value net i.first.items c.as_slice-first.result.now i.arcs.items c.deref.result.now c.args.from c.self.invariant.2 c.self.view_is c.requires c.as_slice-first.ensures.value c.deref.ensures.value).2 in
    λ d x p. subst (λ (xs : List Arc). Contains xs (record { cell = d; to = x })) (sym is) (arcs-each net.cells c.args.from d x p)
