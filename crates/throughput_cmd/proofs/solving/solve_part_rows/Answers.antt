use Rattle.std.proofs.Common.{rules, ◌≡◌, Err}
use Rattle.unit_scale.specs.Scaling.{scaled_of}
use Rattle.throughput_cmd.specs.Parts.{IsPartSolving, OnRun}
use Rattle.throughput_cmd.proofs.Judgements.{if_ok}
use Rattle.throughput_cmd.proofs.Made.{net_refused, run_as}
use Rattle.throughput_cmd.proofs.solving.solve_part_rows.Goals as goal

pub returns-in-Ok : goal.returns-in-Ok
returns-in-Ok c =
    if_ok (OnRun c.in-Ok.net c.args.asked.now) (IsPartSolving c.args.rows.now c.args.options c.args.asked.now)
    (run_as c.args.rows.now c.args.options c.args.asked.now c.in-Ok.net c.in-Ok.ensures) c.solve_net.result c.solve_net.ensures

pub returns-in-Err-Refused : goal.returns-in-Err-Refused
returns-in-Err-Refused c =
    let refuses : scaled_of c.args.rows.now c.args.options ≡ Err c.in-Err-Refused.refusal = search rules in
    let said = net_refused c.args.rows.now c.args.options c.args.asked.now c.in-Err-Refused.refusal refuses in
    search rules
