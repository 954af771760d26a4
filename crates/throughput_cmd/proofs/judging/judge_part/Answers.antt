use Rattle.std.proofs.Common.{rules, ◌≡◌, Err}
use Rattle.text_lines.specs.Lines.{lines_of}
use Rattle.unit_scale.specs.Scaling.{scaled_of}
use Rattle.cert_lines.specs.Sheet.{sheet_of}
use Rattle.kind_texts.specs.PartRead.{part_in}
use Rattle.throughput_cmd.specs.Check.{IsPartJudgement, SaysRest}
use Rattle.throughput_cmd.proofs.Judgements.{if_ok, head_refused, net_refused, rest_said}
use Rattle.throughput_cmd.proofs.judging.judge_part.Goals as goal

pub returns-in-Err : goal.returns-in-Err
returns-in-Err c = head_refused c.args.rows.now c.args.text.now c.in-Err.refusal c.in-Err.ensures

pub returns-in-Ok-scale : goal.returns-in-Ok-scale
returns-in-Ok-scale c =
    let rows = c.args.rows.now in
    let text = c.args.text.now in
    let net = c.in-Ok-scale.net in
    if_ok (SaysRest net (part_in (sheet_of rows net) (lines_of text))) (IsPartJudgement rows text)
    (rest_said rows text c.in-Ok.options c.in-Ok.ensures net c.in-Ok-scale.ensures) c.judge_rest.result c.judge_rest.ensures

pub returns-in-Err-Refused : goal.returns-in-Err-Refused
returns-in-Err-Refused c =
    let refuses : scaled_of c.args.rows.now c.in-Ok.options ≡ Err c.in-Err-Refused.refusal = search rules in
    let said = net_refused c.args.rows.now c.args.text.now c.in-Ok.options c.in-Ok.ensures c.in-Err-Refused.refusal refuses in
    search rules
