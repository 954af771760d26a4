use Rattle.cert_lines.specs.Sheet.{sheet_of}
use Rattle.base_cmd.proofs.Ending.{ends_as}
use Rattle.hops_cmd.specs.Hops.{hops_answer}
use Rattle.hops_cmd.proofs.Made.{text_wrote}
use Rattle.hops_cmd.proofs.writing.write_fitting.Goals as goal

pub returns : goal.returns
returns g c =
    let wrote = text_wrote _ _ c.write_hops-written.result _ (sheet_of c.args.rows.now c.args.net.now) c.args.h c.new.ensures c.write_hops-written.ensures in
    ends_as _ _ _ c.write_hops-written.result c.verdict_status-status.result c.hop_proof.result (hops_answer c.args.rows.now c.args.net.now c.args.h) c.verdict_status-status.ensures c.hop_proof.ensures c.end_of.ensures wrote
