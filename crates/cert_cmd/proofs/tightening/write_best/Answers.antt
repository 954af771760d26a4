use Rattle.cert_lines.specs.Sheet.{sheet_of}
use Rattle.base_cmd.proofs.Ending.{ends_as}
use Rattle.cert_cmd.specs.Tighten.{best_answer}
use Rattle.cert_cmd.proofs.Certifying.{text_wrote}
use Rattle.cert_cmd.proofs.tightening.write_best.Goals as goal

pub returns : goal.returns
returns g c =
    let wrote = text_wrote _ _ c.write_cert-written.result _ (sheet_of c.args.rows.now c.args.net.now) c.args.best.now c.new.ensures c.write_cert-written.ensures in
    ends_as _ _ _ c.write_cert-written.result c.verdict_status.result c.nothing.result (best_answer c.args.rows.now c.args.net.now c.args.best.now) c.verdict_status.ensures c.nothing.ensures c.end_of.ensures wrote
