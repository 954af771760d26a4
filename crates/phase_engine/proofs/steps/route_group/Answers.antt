use Rattle.std.proofs.Common.{arith, ℕ, ◌≡◌, ◌<◌, ◌+◌, ◌-◌, ◌*◌, ◌≤◌, length, subst}
use Rattle.phase_engine.proofs.Logs.{ready_next, group-more, routes-next, room-left}
use Rattle.phase_engine.proofs.steps.route_group.Goals as goal

pub route_member-requires-clause-ready : goal.route_member-requires-clause-ready
route_member-requires-clause-ready c =
    let l : c.loop-k.k-index < length c.args.members.now = omega arith in
    ready_next c.args.loads.now.terms c.args.net.now c.args.scratch.now c.args.members.now c.loop-k.k-index c.args.pass.now.view c.loop-k.pass.view l c.requires.ascending c.requires.ready c.loop-k.invariant.view

pub loop-k-preserved : goal.loop-k-preserved
loop-k-preserved c =
    let ms = c.args.members.now in
    let i = c.loop-k.k-index in
    let l : i < length ms = omega arith in
    let left : length ms - i ≡ length ms - (i + 1) + 1 = omega arith in
    let room : (length ms - (i + 1) + 1) * c.args.net.now.nodes ≤ c.loop-k.buffer.cells = subst (λ (n : ℕ). n * c.args.net.now.nodes ≤ c.loop-k.buffer.cells) left c.loop-k.invariant.cells in
    record {
      of = c.route_member.ensures.of;
      view = group-more c.args.net.now c.args.scratch.now ms i c.args.pass.now.view c.loop-k.pass.view c.route_member.new.pass.view l c.loop-k.invariant.view c.route_member.ensures.view;
      routes = routes-next c.args.net.now c.args.scratch.now ms i c.args.buffer.now.routes c.loop-k.buffer.routes c.route_member.new.buffer.routes l c.loop-k.invariant.routes c.route_member.ensures.routes;
      paths = omega (arith, c.route_member.ensures.paths, c.loop-k.invariant.paths);
      cells = room-left (length ms - (i + 1)) c.args.net.now.nodes c.loop-k.buffer.cells c.route_member.new.buffer.cells room c.route_member.ensures.cells;
    }
