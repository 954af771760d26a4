use Rattle.std.proofs.Common.{refl}
use Rattle.cert_lines.specs.Sheet.{sheet_of}
use Rattle.base_cmd.proofs.Ending.{ends_as}
use Rattle.cert_cmd.specs.Upgrade.{upgraded}
use Rattle.cert_cmd.proofs.Certifying.{text_wrote}
use Rattle.cert_cmd.proofs.upgrading.write_upgraded.Goals as goal

pub returns : goal.returns
returns g c =
    let wrote = text_wrote _ _ c.write_cert-written.result _ (sheet_of c.args.rows.now c.args.net.now) c.args.proof.now c.new.ensures c.write_cert-written.ensures in
    ends_as _ _ _ c.write_cert-written.result 0 c.nothing.result (upgraded c.args.rows.now c.args.net.now c.args.proof.now) refl c.nothing.ensures c.end_of.ensures wrote
