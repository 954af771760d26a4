use Rattle.cert_lines.specs.Sheet.{sheet_of}
use Rattle.base_cmd.proofs.Ending.{ends_as}
use Rattle.throughput_cmd.specs.Parts.{part_answer}
use Rattle.throughput_cmd.proofs.Made.{text_wrote}
use Rattle.throughput_cmd.proofs.writing.write_fitting.Goals as goal

pub returns : goal.returns
returns g c =
    let wrote = text_wrote _ _ c.write_part-written.result _ (sheet_of c.args.rows.now c.args.net.now) c.args.p c.new.ensures c.write_part-written.ensures in
    ends_as _ _ _ c.write_part-written.result c.verdict_status-status.result c.part_proof.result (part_answer c.args.rows.now c.args.net.now c.args.p) c.verdict_status-status.ensures c.part_proof.ensures c.end_of.ensures wrote
