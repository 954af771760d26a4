use Rattle.std.proofs.Common.{◌≡◌, ◌+◌, ◌<◌, List, length, refl, sym, ap, ◌∙◌, subst, Some}
use Rattle.std.specs.Prelude.{All, slice_get}
use Rattle.std.proofs.lemmas.List.{with_items_is}
use Rattle.std.proofs.lemmas.Option.{slice_get_read}
use Rattle.phase_engine.specs.Routes.{Route}
use Rattle.flow_solver.specs.declared.places.Place.{Place}
use Rattle.flow_solver.proofs.Placed.{AreKept, ArePlaced, routes_inside, placed_more, placed_all}
use Rattle.flow_solver.proofs.places.places_of.Goals as goal

pub note_routes-requires : goal.note_routes-requires
note_routes-requires c =
    let found : slice_get c.args.hands.now c.loop-w.w ≡ Some c.index-hands-w.result = slice_get_read c.args.hands.now (length c.args.hands.now) c.loop-w.w c.index-hands-w.result refl c.loop-w-test.true c.index-hands-w.is in
    let long : length c.deref_mut.result.now ≡ length c.args.net.now.commodities = ap (λ (t : List Place). length t) c.deref_mut.ensures.value ∙ c.loop-w.invariant.count in
    subst (λ n. All (λ (r : Route). r.commodity < n) c.index-hands-w.result.routes) (sym long) (routes_inside c.args.net.now c.args.hands.now c.loop-w.w c.index-hands-w.result c.requires.routes found)

pub loop-w-preserved : goal.loop-w-preserved
loop-w-preserved c =
    let found : slice_get c.args.hands.now c.loop-w.w ≡ Some c.index-hands-w.result = slice_get_read c.args.hands.now (length c.args.hands.now) c.loop-w.w c.index-hands-w.result refl c.loop-w-test.true c.index-hands-w.is in
    let now = c.note_routes.new.places in
    let v = c.deref_mut.ensures.value in
    let kept : AreKept c.loop-w.w c.index-hands-w.result c.loop-w.places.items now = subst (λ (t : List Place). AreKept c.loop-w.w c.index-hands-w.result t now) v c.note_routes.ensures.kept in
    let is = with_items_is c.loop-w.places now (c.note_routes.auto.places ∙ c.deref_mut.ensures.len) in
    record {
      count = ap (λ (t : List Place). length t) is ∙ c.note_routes.auto.places ∙ ap (λ (t : List Place). length t) v ∙ c.loop-w.invariant.count;
      placed = subst (λ (t : List Place). ArePlaced c.args.hands.now t (c.loop-w.w + 1)) (sym is)
          (placed_more c.args.net.now c.args.hands.now c.loop-w.w c.index-hands-w.result c.loop-w.places.items now c.requires.routes found c.loop-w.invariant.count kept c.note_routes.ensures.noted c.loop-w.invariant.placed);
    }

pub returns-clause-places : goal.returns-clause-places
returns-clause-places c = placed_all c.args.net.now c.args.hands.now c.loop-w.places.items c.loop-w.w c.requires.routes c.loop-w-test.false c.loop-w.invariant.placed
