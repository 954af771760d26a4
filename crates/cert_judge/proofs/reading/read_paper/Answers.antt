use Rattle.std.proofs.Common.{rules, ◌≡◌, ◌≤◌, Err, sym, subst}
use Rattle.text_lines.specs.Lines.{lines_of}
use Rattle.flow_model.specs.Network.{IsNetwork}
use Rattle.cert_lines.specs.declared.net_line.TheConstants.{MAX_COUNT}
use Rattle.unit_scale.specs.Scaling.{scaled_of}
use Rattle.cert_lines.specs.Sheet.{sheets_of}
use Rattle.cert_text.specs.Whole.{paper_in}
use Rattle.cert_text.specs.Views.{opened_view}
use Rattle.cert_judge.specs.Papers.{options_of}
use Rattle.cert_judge.proofs.PaperFacts.{head_refused, net_refused, paper_of, paper_read, rest_refused, says_modes}
use Rattle.cert_judge.proofs.reading.read_paper.Goals as goal

pub returns-in-Err-clause-value : goal.returns-in-Err-clause-value
returns-in-Err-clause-value c = head_refused c.args.known c.args.rows.now c.args.text.now _ c.in-Err.ensures.exact

pub returns-in-Err-Refused-clause-value : goal.returns-in-Err-Refused-clause-value
returns-in-Err-Refused-clause-value c =
    let scaled : scaled_of c.args.rows.now (options_of c.in-Ok.opened.head) ≡ Err c.in-Err-Refused.refusal = search rules in
    let said = net_refused c.args.known c.args.rows.now c.args.text.now (opened_view c.in-Ok.opened) c.in-Ok.ensures.exact c.in-Err-Refused.refusal scaled in
    search rules

pub returns-in-Ok-read_rest-clause-value : goal.returns-in-Ok-read_rest-clause-value
returns-in-Ok-read_rest-clause-value c =
    let rows = c.args.rows.now in
    let lines = lines_of c.args.text.now in
    let modes = says_modes rows c.in-Ok.opened.head c.in-Ok-scale.net c.in-Ok-scale.ensures in
    paper_read c.args.known rows c.args.text.now (opened_view c.in-Ok.opened) c.in-Ok.ensures.exact c.in-Ok-scale.net c.in-Ok-read_rest.paper c.in-Ok-scale.ensures
    (c.in-Ok-read_rest.ensures c.args.known lines (sym c.in-Ok.ensures.exact) modes)

pub returns-in-Ok-read_rest-clause-own : goal.returns-in-Ok-read_rest-clause-own
returns-in-Ok-read_rest-clause-own c =
    let rows = c.args.rows.now in
    let lines = lines_of c.args.text.now in
    let modes = says_modes rows c.in-Ok.opened.head c.in-Ok-scale.net c.in-Ok-scale.ensures in
    let few : c.args.rows.now.skipped ≤ MAX_COUNT = search rules in
    let network : IsNetwork c.in-Ok-scale.net.net = subst IsNetwork c.net-2.ensures.value c.cells-cells.ensures.net in
    paper_of rows (options_of c.in-Ok.opened.head) c.in-Ok-scale.net c.args.text.now c.in-Ok-read_rest.paper c.requires.rows c.in-Ok-scale.ensures network few
    (c.in-Ok-read_rest.ensures c.args.known lines (sym c.in-Ok.ensures.exact) modes)

pub returns-in-Err-Refused-read_rest-clause-value : goal.returns-in-Err-Refused-read_rest-clause-value
returns-in-Err-Refused-read_rest-clause-value c =
    let rows = c.args.rows.now in
    let lines = lines_of c.args.text.now in
    let modes = says_modes rows c.in-Ok.opened.head c.in-Ok-scale.net c.in-Ok-scale.ensures in
    let fails = c.in-Err-Refused-read_rest.ensures c.args.known lines (sym c.in-Ok.ensures.exact) modes in
    let read : paper_in (sheets_of rows c.in-Ok-scale.net) lines ≡ Err c.in-Err-Refused-read_rest.refusal = search rules in
    rest_refused c.args.known rows c.args.text.now (opened_view c.in-Ok.opened) c.in-Ok.ensures.exact c.in-Ok-scale.net c.in-Err-Refused-read_rest.refusal c.in-Ok-scale.ensures read
