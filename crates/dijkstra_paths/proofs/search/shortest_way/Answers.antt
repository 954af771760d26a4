use Rattle.std.proofs.Common.{◌≡◌, ◌⊎◌, inr, ◌+◌, ◌<◌, ◌≤◌, length, get_or, subst, sym, refl, arith}
use Rattle.flow_model.specs.Walk.{PassesOver}
use Rattle.dijkstra_paths.specs.declared.search.Way.{Way}
use Rattle.dijkstra_paths.specs.Tree.{arc_at, IsWay}
use Rattle.dijkstra_paths.proofs.Relaxed.{pass-inside}
use Rattle.dijkstra_paths.proofs.Opened.{one-of}
use Rattle.dijkstra_paths.proofs.search.shortest_way.Goals as goal

pub bounds-dist-arc : goal.bounds-dist-arc
bounds-dist-arc c =
    let arcs = c.out-arcs.result.now in
    let i = c.loop-arc.arc-index in
    let within : i < length arcs = omega arith in
    let a = arc_at arcs i in
    let inside = pass-inside c.args.graph.now a.cell c.args.kept.node a.to c.out-arcs.ensures.net (c.out-arcs.ensures.over i (record { cell = 0; to = 0 }) within) in
    omega (arith, inside.0, c.requires.nodes)

pub bounds-lengths-arc : goal.bounds-lengths-arc
bounds-lengths-arc c =
    let arcs = c.out-arcs.result.now in
    let i = c.loop-arc.arc-index in
    let within : i < length arcs = omega arith in
    let a = arc_at arcs i in
    let inside = pass-inside c.args.graph.now a.cell c.args.kept.node a.to c.out-arcs.ensures.net (c.out-arcs.ensures.over i (record { cell = 0; to = 0 }) within) in
    omega (arith, inside.1, c.requires.lengths.count)

pub overflow_add-long : goal.overflow_add-long
overflow_add-long c =
    let arcs = c.out-arcs.result.now in
    let i = c.loop-arc.arc-index in
    let within : i < length arcs = omega arith in
    let a = arc_at arcs i in
    let over : PassesOver c.args.graph.now.cells a.cell c.args.kept.node a.to = c.out-arcs.ensures.over i (record { cell = 0; to = 0 }) within in
    let inside = pass-inside c.args.graph.now a.cell c.args.kept.node a.to c.out-arcs.ensures.net over in
    let near = c.requires.bound a.to (omega (arith, inside.0, c.requires.nodes)) in
    let long = c.requires.lengths.high a.cell over.0 over.1 over.2 in
    omega (arith, near, long)

pub loop-arc-preserved : goal.loop-arc-preserved
loop-arc-preserved c =
    let arcs = c.out-arcs.result.now in
    let i = c.loop-arc.arc-index in
    let within : i < length arcs = omega arith in
    let a = arc_at arcs i in
    let cells = c.args.graph.now.cells in
    let node = c.args.kept.node in
    let dist = c.args.dist.now in
    let lengths = c.args.lengths.now in
    let over : PassesOver cells a.cell node a.to = c.out-arcs.ensures.over i (record { cell = 0; to = 0 }) within in
    let other : Way = record { cell = a.cell; from = a.to; long = get_or dist a.to 0 + get_or lengths a.cell 0 } in
    let P : Way → Type 0 = λ way. (way.long ≡ get_or dist node 0) ⊎ IsWay cells lengths dist node way in
    subst P (sym c.either-way.ensures) (one-of P _ other c.loop-arc.way (inr (record { back = over; long = refl })) c.loop-arc.invariant)

pub overflow_sub-long : goal.overflow_sub-long
overflow_sub-long c =
    let arcs = c.out-arcs.result.now in
    let i = c.loop-arc.arc-index in
    let within : i < length arcs = omega arith in
    let a = arc_at arcs i in
    let over : PassesOver c.args.graph.now.cells a.cell c.args.kept.node a.to = c.out-arcs.ensures.over i (record { cell = 0; to = 0 }) within in
    let low : 1 ≤ get_or c.args.lengths.now a.cell 0 = c.requires.lengths.low a.cell over.0 over.1 over.2 in
    let few : c.from-lead.result ≤ 1 = grind (arith, c.from-lead.ensures) in
    omega (arith, low, few)
