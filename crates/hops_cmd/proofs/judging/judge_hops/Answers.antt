use Rattle.std.proofs.Common.{rules, ◌≡◌, ◌∙◌, Some, Err}
use Rattle.text_lines.specs.Lines.{lines_of}
use Rattle.unit_scale.specs.Scaling.{scaled_of}
use Rattle.cert_lines.specs.Sheet.{sheet_of}
use Rattle.hop_check.specs.Limits.{hop_refusal}
use Rattle.kind_texts.specs.HopsRead.{hops_in}
use Rattle.hops_cmd.specs.Check.{IsHopsJudgement, SaysRest}
use Rattle.hops_cmd.proofs.Judgements.{if_ok, head_refused, net_refused, limit_refused, rest_said}
use Rattle.hops_cmd.proofs.judging.judge_hops.Goals as goal

pub returns-in-Err : goal.returns-in-Err
returns-in-Err c = head_refused c.args.rows.now c.args.text.now c.in-Err.refusal c.in-Err.ensures

pub returns-in-Err-Refused : goal.returns-in-Err-Refused
returns-in-Err-Refused c =
    let refuses : scaled_of c.args.rows.now c.in-Ok.options ≡ Err c.in-Err-Refused.refusal = search rules in
    let said = net_refused c.args.rows.now c.args.text.now c.in-Ok.options c.in-Ok.ensures c.in-Err-Refused.refusal refuses in
    search rules

pub returns-in-Ok-hop_limits : goal.returns-in-Ok-hop_limits
returns-in-Ok-hop_limits c =
    let rows = c.args.rows.now in
    let text = c.args.text.now in
    let net = c.in-Ok-scale.net in
    let found = c.in-Ok-hop_limits.ensures in
    if_ok (SaysRest net c.deref.result.now (hops_in (sheet_of rows net) (lines_of text))) (IsHopsJudgement rows text)
    (rest_said rows text c.in-Ok.options c.in-Ok.ensures net c.in-Ok-scale.ensures c.deref.result.now (c.deref.ensures.value ∙ found.0) found.1) c.judge_rest.result c.judge_rest.ensures

pub returns-in-Err-Refused-hop_limits : goal.returns-in-Err-Refused-hop_limits
returns-in-Err-Refused-hop_limits c =
    let net = c.in-Ok-scale.net in
    let far : hop_refusal c.args.rows.now ≡ Some c.in-Err-Refused-hop_limits.refusal = search rules in
    let said = limit_refused c.args.rows.now c.args.text.now c.in-Ok.options c.in-Ok.ensures net c.in-Ok-scale.ensures c.in-Err-Refused-hop_limits.refusal far in
    search rules
