use Rattle.std.proofs.Common.{◌≡◌, ◌+◌, arith, refl}
use Rattle.hop_paths.proofs.Layering.{next-put}
use Rattle.hop_paths.proofs.search.relax.Goals as goal

pub returns-clause-state : goal.returns-clause-state
returns-clause-state c =
    let nodes = c.args.graph.now.nodes in
    let at = c.args.base + c.nodes.result + c.args.arc.to in
    let is : at ≡ c.args.base + nodes + c.args.arc.to = omega (arith, c.nodes.ensures.value) in
    next-put c.args.graph.now.cells c.args.lengths.now nodes c.args.dist.now c.args.steps.now c.args.base at c.args.arc.to _ (record { cell = c.args.arc.cell; from = c.args.node })
    c.requires.nodes.0 c.requires.nodes.1 is (omega (arith, is, c.requires.nodes.1, c.requires.size)) c.requires.room c.requires.near c.requires.passes refl c.if-there-dist.false c.requires.state
