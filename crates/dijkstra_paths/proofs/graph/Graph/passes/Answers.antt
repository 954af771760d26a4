use Rattle.std.proofs.Common.{◌≢◌, ◌<◌, arith, length}
use Rattle.std.proofs.lemmas.Bool.Decides.{nat_tests}
use Rattle.dijkstra_paths.proofs.Opened.{leads-all, leads-one}
use Rattle.dijkstra_paths.proofs.graph.Graph.passes.Goals as goal

pub returns-then-leads-clause-way : goal.returns-then-leads-clause-way
returns-then-leads-clause-way c lead =
    let i = c.self.inside in
    let inside : c.args.cell < length i.ends.items = omega arith in
    let apart : c.args.from ≢ c.args.to = grind (arith, nat_tests, c.if-from-to.true) in
    leads-all i.net.value c.args.self.now i.ends.items i.goes_back c.args.cell c.args.from c.args.to c.index-ends.result.now c.self.view_is c.self.invariant.4 c.self.invariant.5.0 inside c.index-ends.ensures apart (c.leads.ensures lead)

pub returns-else-leads-clause-way : goal.returns-else-leads-clause-way
returns-else-leads-clause-way c lead =
    let i = c.self.inside in
    let inside : c.args.cell < length i.ends.items = omega arith in
    let apart : c.args.from ≢ c.args.to = grind (arith, nat_tests, c.if-from-to.true) in
    leads-one i.net.value c.args.self.now i.ends.items i.cells.items c.args.cell c.args.from c.args.to c.index-ends.result.now c.index.result.now c.self.view_is c.self.invariant.4 c.self.invariant.3 inside c.index-ends.ensures c.index.ensures apart (c.leads-else-leads.ensures lead)
