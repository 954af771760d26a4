use Rattle.std.proofs.Common.{inl, inr, refl}
use Rattle.cert_judge.specs.declared.certifying.Certified.TheVariants.{Said}
use Rattle.base_cmd.specs.Files.{Ends}
use Rattle.base_cmd.proofs.Chain.{no_certificate_told}
use Rattle.sweep_cmd.specs.Sweep.{OnSweep}
use Rattle.sweep_cmd.proofs.Told.{told_valid}
use Rattle.sweep_cmd.proofs.sweeping.sweep_on.Goals as goal

pub returns-in-Err : goal.returns-in-Err
returns-in-Err g c =
    no_certificate_told c.args.rows.now c.args.cert.now (λ text. Ends (OnSweep c.args.rows.now text)) _ _ _ _ _ c.in-Err.outcome
    (λ text s. (refl, inl refl)) (λ text s judged said. (refl, inr (Said judged, said, refl))) c.in-Err.ensures.certificate c.tell.ensures

pub returns-in-Ok : goal.returns-in-Ok
returns-in-Ok g c =
    let has = c.in-Ok.ensures.certificate.0 in
    told_valid c.args.rows.now c.args.cert.now _ _ has.text c.in-Ok.net c.in-Ok.proof _ _ _ has.held c.in-Ok.ensures.certificate.1 has.valid c.tell_swept.ensures
