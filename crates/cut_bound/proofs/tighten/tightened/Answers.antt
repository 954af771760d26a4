use Rattle.std.proofs.Common.{◌≡◌, ◌∙◌, ap, sym, subst}
use Rattle.std.specs.Prelude.{Option, option_to_list}
use Rattle.std.specs.Option.{option_map}
use Rattle.std.proofs.lemmas.Result.{IfOk-weaker}
use Rattle.flow_paths.specs.declared.certificate.Proof.{Proof}
use Rattle.flow_paths.specs.declared.certificate.Routing.{Routing}
use Rattle.flow_paths.specs.Certificate.{IsRoutingOf}
use Rattle.cut_bound.specs.Tightened.{greatest_routing, HasFraction, IsMadeOf, IsTightened}
use Rattle.cut_bound.proofs.Tightening.{best-of-given, given-all, given-routing, has-fraction, some-given, tightened-is}
use Rattle.cut_bound.proofs.tighten.tightened.Goals as goal

pub made_of-requires-clause-routing : goal.made_of-requires-clause-routing
made_of-requires-clause-routing g c =
    let net = c.args.net.now in
    let is : c.greatest-routing.result ≡ greatest_routing c.args.first.routing (option_to_list (option_map (λ (p : Proof). p.routing) c.args.second)) =
    c.greatest-routing.ensures ∙ ap (λ (o : Option Routing). greatest_routing c.args.first.routing (option_to_list o)) c.routing_of.ensures in
    subst (IsRoutingOf net) (sym is)
    (given-routing (IsRoutingOf net) c.args.first c.args.second c.requires.first.fits.routing (some-given net (IsRoutingOf net) (λ p g. g.fits.routing) c.args.second c.requires.second))

pub made_of-requires-clause-fraction : goal.made_of-requires-clause-fraction
made_of-requires-clause-fraction g c =
    let net = c.args.net.now in
    let first = c.requires.first in
    let is : c.greatest-routing.result ≡ greatest_routing c.args.first.routing (option_to_list (option_map (λ (p : Proof). p.routing) c.args.second)) =
    c.greatest-routing.ensures ∙ ap (λ (o : Option Routing). greatest_routing c.args.first.routing (option_to_list o)) c.routing_of.ensures in
    subst HasFraction (sym is)
    (given-routing HasFraction c.args.first c.args.second (has-fraction net c.args.first.routing first.fits.routing first.valid.routing)
    (some-given net HasFraction (λ p g. has-fraction net p.routing g.fits.routing g.valid.routing) c.args.second c.requires.second))

pub made_of-requires-clause-dual : goal.made_of-requires-clause-dual
made_of-requires-clause-dual g c =
    let net = c.args.net.now in
    (best-of-given net c.args.both (option_to_list c.args.second) c.args.first c.in_ok-dual.dual c.cells-cells.ensures.net c.requires.ways
    (given-all net c.args.first c.args.second c.requires.first c.requires.second) c.in_ok-dual.ensures).dual

pub returns : goal.returns
returns g c =
    let net = c.args.net.now in
    let is : c.greatest-routing.result ≡ greatest_routing c.args.first.routing (option_to_list (option_map (λ (p : Proof). p.routing) c.args.second)) =
    c.greatest-routing.ensures ∙ ap (λ (o : Option Routing). greatest_routing c.args.first.routing (option_to_list o)) c.routing_of.ensures in
    IfOk-weaker c.made_of.result (IsMadeOf net c.args.first.gap c.greatest-routing.result c.in_ok-dual.dual) (IsTightened net c.args.both c.args.first (option_to_list c.args.second))
    (λ p made. tightened-is net c.args.both c.args.first c.args.second c.greatest-routing.result c.in_ok-dual.dual p is c.in_ok-dual.ensures made) c.made_of.ensures
