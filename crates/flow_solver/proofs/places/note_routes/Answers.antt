use Rattle.std.proofs.Common.{◌≡◌, ◌<◌, ◌∙◌, ℕ, List, length, get_or, sym, ap, subst, arith}
use Rattle.std.specs.Prelude.{All}
use Rattle.std.proofs.lemmas.List.{take_all}
use Rattle.std.proofs.lemmas.List.Elements.{All-get_or}
use Rattle.phase_engine.specs.Routes.{Route}
use Rattle.flow_solver.proofs.Placed.{no_route, IsNoted, kept_more, noted_more}
use Rattle.flow_solver.proofs.places.note_routes.Goals as goal

pub loop-route-preserved : goal.loop-route-preserved
loop-route-preserved c =
    let hand = c.args.hand.now in
    let i = c.loop-route.route in
    let k = c.commodity-k.result in
    let in' : i < length hand.routes = omega arith in
    let path = c.path-path.result in
    let r = get_or hand.routes i no_route in
    let of : r.commodity ≡ k = sym c.commodity-k.ensures in
    let is : r ≡ record { commodity = k; path = path.now } = ap (λ n. record { commodity = n; path = r.path }) of ∙ ap (λ (p : List ℕ). record { commodity = k; path = p }) (sym c.path-path.ensures) in
    let all : (get_or hand.routes i no_route).commodity < length c.args.places.now = All-get_or (λ (r : Route). r.commodity < length c.args.places.now) hand.routes i no_route in' c.requires in
    let l : k < length c.loop-route.places = omega (arith, of, all) in
    record {
      kept = kept_more c.args.w i k hand path c.args.places.now c.loop-route.places l in' is c.loop-route.invariant.kept;
      noted = noted_more c.args.w i k hand path c.loop-route.places l in' is c.loop-route.invariant.noted;
    }

pub returns-clause-noted : goal.returns-clause-noted
returns-clause-noted c = subst (All (IsNoted c.args.w c.args.hand.now c.loop-route.places)) (take_all c.loop-route.route c.args.hand.now.routes (omega arith)) c.loop-route.invariant.noted
