use Rattle.std.proofs.Common.{◌≡◌, ap, ◌∙◌, ℕ, List, length, replicate, rules}
use Rattle.std.specs.Prelude.{vec_len}
use Rattle.std.proofs.lemmas.List.{length-replicate}
use Rattle.phase_engine.specs.Routes.{RouteRoom}
use Rattle.phase_engine.proofs.Spans.{rotated, routes-wider}
use Rattle.phase_engine.proofs.route_buffer.RouteBuffer.widen.Goals as goal

pub returns-clause-same : goal.returns-clause-same
returns-clause-same c =
    let i = c.self.inside in
    let more = c.min-more.result in
    let blank : List ℕ = replicate more 0 in
    let long : vec_len c.append_blank.new.cells ≡ length c.append_blank.new.cells.items = search rules in
    let front = rotated i.cells.items blank c.append_blank.new.cells.items c.rotate_right.new.self.items (vec_len c.append_blank.new.cells) more c.append_blank.ensures.items (length-replicate more 0) long c.rotate_right.ensures.items in
    routes-wider blank i.cells.items c.rotate_right.new.self.items i.free i.spans.items c.self.invariant front
    ∙ ap (λ (r : RouteRoom). r.routes) c.self.view_is
