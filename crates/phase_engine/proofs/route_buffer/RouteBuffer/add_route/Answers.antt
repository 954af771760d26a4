use Rattle.std.proofs.Common.{◌≡◌, ◌-◌, arith, ap, ◌∙◌, ◌++◌, [], ◌∷◌, ℕ, List, drop, length, map, rules}
use Rattle.std.proofs.lemmas.List.{with_items_is}
use Rattle.phase_engine.specs.Found.{known_path}
use Rattle.phase_engine.specs.Routes.{RouteRoom, route_of}
use Rattle.phase_engine.proofs.Spans.{routes-push, span}
use Rattle.phase_engine.proofs.route_buffer.RouteBuffer.add_route.Goals as goal

pub returns-clause-routes : goal.returns-clause-routes
returns-clause-routes c =
    let i = c.self.inside in
    let e = c.put_before-start.ensures in
    let path = known_path c.args.scratch.now c.args.to in
    let start = c.put_before-start.result in
    let cells = c.put_before-start.new.cells in
    let whole : length cells ≡ i.cells.len = omega (arith, c.deref_mut.ensures.len) in
    let long : length cells ≡ length i.cells.items = search rules in
    let is = with_items_is i.cells cells whole in
    let count : c.len.result ≡ length cells = search rules in
    let pushed = c.push_reserved.ensures.items ∙ ap (λ (n : ℕ). i.spans.items ++ span c.args.commodity (n - start) (i.free - start) ∷ []) count in
    let behind = e.behind ∙ ap (drop i.free) c.deref_mut.ensures.value in
    ap (λ (xs : List ℕ). map (route_of xs) c.push_reserved.new.self.items) is
    ∙ (routes-push i.cells.items cells path i.spans.items c.push_reserved.new.self.items c.args.commodity i.free start c.self.invariant long behind e.start e.path pushed
    ∙ ap (λ (r : RouteRoom). r.routes ++ record { commodity = c.args.commodity; path = path } ∷ []) c.self.view_is)
