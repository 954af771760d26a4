use Rattle.std.proofs.Common.{◌∙◌, ap}
use Rattle.std.specs.Prelude.{if◌then◌else◌}
use Rattle.flow_paths.specs.declared.certificate.Proof.{Proof}
use Rattle.base_cmd.proofs.Ending.{ends_as}
use Rattle.solve_cmd.specs.Drawn.{trial_line}
use Rattle.solve_cmd.proofs.drawn.tell_trial.Goals as goal

pub returns : goal.returns
returns g c =
    let answer = trial_line c.args.links c.args.net.now c.args.solved in
    let status = c.verdict_status-status.ensures ∙ ap (λ (p : Proof). if p.closed then 0 else 1) c.proof.ensures in
    ends_as _ _ _ c.write_trial-written.result c.verdict_status-status.result c.solve.result answer status c.solve.ensures c.end_of.ensures c.write_trial-written.ensures
