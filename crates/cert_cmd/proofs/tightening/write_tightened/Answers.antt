use Rattle.std.proofs.Common.{◌≡◌, ◌∙◌, Bool, ap, sym, subst}
use Rattle.std.specs.Prelude.{option_to_list}
use Rattle.unit_scale.specs.declared.options.NetOptions.{NetOptions}
use Rattle.flow_model.specs.Network.{Network}
use Rattle.cut_bound.specs.Laws.{GoBothWays}
use Rattle.cut_bound.specs.Tightened.{IsTightened}
use Rattle.cert_cmd.specs.Tighten.{IsBestOf, go_both_ways}
use Rattle.cert_cmd.proofs.BestCertificates.{best_fits, given_all, ways_of}
use Rattle.cert_cmd.proofs.tightening.write_tightened.Goals as goal

pub tightened-requires-clause-ways : goal.tightened-requires-clause-ways
tightened-requires-clause-ways g c κs within =
    let net = c.args.net.now in
    let both : c.go_both_ways-both.result ≡ go_both_ways c.args.net.now.options.links = c.go_both_ways-both.ensures ∙ ap (λ (o : NetOptions). go_both_ways o.links) c.options.ensures in
    subst (λ (n : Network). GoBothWays n c.go_both_ways-both.result) (sym c.net.ensures.value)
    (subst (GoBothWays net.net) (sym both) (ways_of c.args.rows.now net c.requires.first.names))

pub write_best-requires-clause-fits : goal.write_best-requires-clause-fits
write_best-requires-clause-fits g c =
    let net = c.args.net.now in
    let others = option_to_list c.args.second in
    let both : c.go_both_ways-both.result ≡ go_both_ways c.args.net.now.options.links = c.go_both_ways-both.ensures ∙ ap (λ (o : NetOptions). go_both_ways o.links) c.options.ensures in
    let on_net = subst (λ (n : Network). IsTightened n c.go_both_ways-both.result c.args.first others c.in-Ok.best) c.net.ensures.value c.in-Ok.ensures in
    let best : IsBestOf net c.args.first others c.in-Ok.best = subst (λ (b : Bool). IsTightened net.net b c.args.first others c.in-Ok.best) both on_net in
    best_fits c.args.rows.now net c.args.first others c.in-Ok.best (given_all c.args.rows.now net c.args.first c.args.second c.requires.first c.requires.second) best
