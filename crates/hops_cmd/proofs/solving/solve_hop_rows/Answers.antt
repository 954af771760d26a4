use Rattle.std.proofs.Common.{rules, ◌≡◌, ◌∙◌, Some, Err}
use Rattle.unit_scale.specs.Scaling.{scaled_of}
use Rattle.hop_check.specs.Limits.{hop_refusal}
use Rattle.hops_cmd.specs.Hops.{IsHopSolving, OnRun}
use Rattle.hops_cmd.proofs.Judgements.{if_ok}
use Rattle.hops_cmd.proofs.Made.{net_refused, limit_refused, run_as}
use Rattle.hops_cmd.proofs.solving.solve_hop_rows.Goals as goal

pub returns-in-Err-Refused : goal.returns-in-Err-Refused
returns-in-Err-Refused c =
    let refuses : scaled_of c.args.rows.now c.args.options ≡ Err c.in-Err-Refused.refusal = search rules in
    let said = net_refused c.args.rows.now c.args.options c.args.asked.now c.in-Err-Refused.refusal refuses in
    search rules

pub returns-in-Ok-hop_limits : goal.returns-in-Ok-hop_limits
returns-in-Ok-hop_limits c =
    let found = c.in-Ok-hop_limits.ensures in
    if_ok (OnRun c.in-Ok.net c.deref.result.now c.args.asked.now) (IsHopSolving c.args.rows.now c.args.options c.args.asked.now)
    (run_as c.args.rows.now c.args.options c.args.asked.now c.in-Ok.net c.in-Ok.ensures c.deref.result.now (c.deref.ensures.value ∙ found.0) found.1) c.solve_within.result c.solve_within.ensures

pub returns-in-Err-Refused-hop_limits : goal.returns-in-Err-Refused-hop_limits
returns-in-Err-Refused-hop_limits c =
    let far : hop_refusal c.args.rows.now ≡ Some c.in-Err-Refused-hop_limits.refusal = search rules in
    let said = limit_refused c.args.rows.now c.args.options c.args.asked.now c.in-Ok.net c.in-Ok.ensures c.in-Err-Refused-hop_limits.refusal far in
    search rules
