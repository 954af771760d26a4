use Rattle.std.proofs.Common.{◌∙◌, ap}
use Rattle.std.specs.Prelude.{if◌then◌else◌}
use Rattle.flow_paths.specs.declared.certificate.Proof.{Proof}
use Rattle.base_cmd.proofs.Ending.{ends_as}
use Rattle.solve_cmd.specs.Solve.{solve_answer}
use Rattle.solve_cmd.proofs.Certificates.{text_wrote}
use Rattle.solve_cmd.proofs.solve.write_solved.Goals as goal

pub returns : goal.returns
returns g c =
    let answer = solve_answer c.args.raw.now c.args.net.now c.args.solved in
    let wrote = text_wrote _ _ c.write_cert-written.result _ _ _ _ c.new.ensures c.proof-2.ensures c.write_cert-written.ensures in
    let status = c.verdict_status-status.ensures ∙ ap (λ (p : Proof). if p.closed then 0 else 1) c.proof.ensures in
    ends_as _ _ _ c.write_cert-written.result c.verdict_status-status.result c.solve.result answer status c.solve.ensures c.end_of.ensures wrote
