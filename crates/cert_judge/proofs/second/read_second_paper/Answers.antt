use Rattle.std.proofs.Common.{rules, ◌≡◌, ◌≤◌, Ok, Err, subst}
use Rattle.text_lines.specs.Lines.{lines_of}
use Rattle.unit_scale.specs.declared.options.NetOptions.{NetOptions}
use Rattle.flow_model.specs.Network.{IsNetwork}
use Rattle.cert_lines.specs.declared.net_line.TheConstants.{MAX_COUNT}
use Rattle.cert_text.specs.declared.opening.Known.TheVariants.{Certificates}
use Rattle.cert_text.specs.Views.{opened_view}
use Rattle.cert_judge.specs.Second.{opened_under}
use Rattle.cert_judge.proofs.PaperFacts.{own_scaled}
use Rattle.cert_judge.proofs.Seconds.{own_of, read_value, says_own, second_refused}
use Rattle.cert_judge.proofs.second.read_second_paper.Goals as goal

pub returns-in-Err-clause-value : goal.returns-in-Err-clause-value
returns-in-Err-clause-value c =
    let lines = lines_of c.args.text.now in
    let exact = subst (λ (o : NetOptions). Err c.in-Err.refusal ≡ opened_under o lines) c.options.ensures c.in-Err.ensures.exact in
    second_refused c.args.rows.now c.args.net.now.options c.args.text.now c.in-Err.refusal exact

pub returns-clause-value : goal.returns-clause-value
returns-clause-value c =
    let rows = c.args.rows.now in
    let net = c.args.net.now in
    let lines = lines_of c.args.text.now in
    let o = opened_view c.in-Ok.opened in
    let exact = subst (λ (x : NetOptions). Ok o ≡ opened_under x lines) c.options.ensures c.in-Ok.ensures.exact in
    let says = says_own rows net lines o (own_scaled rows net c.requires.of) exact in
    read_value rows net.options c.args.text.now o exact net says.1 c.read_rest.result (c.read_rest.ensures Certificates lines says.2 says.0)

pub returns-clause-own : goal.returns-clause-own
returns-clause-own c =
    let rows = c.args.rows.now in
    let net = c.args.net.now in
    let lines = lines_of c.args.text.now in
    let o = opened_view c.in-Ok.opened in
    let exact = subst (λ (x : NetOptions). Ok o ≡ opened_under x lines) c.options.ensures c.in-Ok.ensures.exact in
    let says = says_own rows net lines o (own_scaled rows net c.requires.of) exact in
    let few : c.args.rows.now.skipped ≤ MAX_COUNT = search rules in
    let network : IsNetwork c.args.net.now.net = subst IsNetwork c.net.ensures.value c.cells-cells.ensures.net in
    own_of rows net c.args.text.now c.read_rest.result c.requires.of.well (own_scaled rows net c.requires.of) network few (c.read_rest.ensures Certificates lines says.2 says.0)
