use Rattle.std.proofs.Common.{inl, inr, refl}
use Rattle.cert_judge.specs.declared.certifying.Certified.TheVariants.{Valid, Said}
use Rattle.base_cmd.specs.Files.{Ends}
use Rattle.base_cmd.proofs.Chain.{certificate_told, no_certificate_told}
use Rattle.cert_cmd.specs.Upgrade.{OnUpgrade, upgraded}
use Rattle.cert_cmd.proofs.upgrading.upgrade_on.Goals as goal

pub returns-in-Err : goal.returns-in-Err
returns-in-Err g c =
    no_certificate_told c.args.rows.now c.args.cert.now (λ text. Ends (OnUpgrade c.args.rows.now text)) _ _ _ _ _ c.in-Err.outcome
    (λ text s. (refl, inl refl)) (λ text s judged said. (refl, inr (Said judged, said, refl))) c.in-Err.ensures.certificate c.tell.ensures

pub returns-in-Ok : goal.returns-in-Ok
returns-in-Ok g c =
    certificate_told c.args.rows.now c.args.cert.now (λ text. Ends (OnUpgrade c.args.rows.now text)) _ _ _ _ _ _ c.in-Ok.net c.in-Ok.proof c.in-Ok.ensures.certificate.0 c.in-Ok.ensures.certificate.1
    (λ text valid. (upgraded c.args.rows.now c.in-Ok.net c.in-Ok.proof, (refl, inr (Valid c.in-Ok.net c.in-Ok.proof, valid, refl)), c.write_upgraded.ensures))
