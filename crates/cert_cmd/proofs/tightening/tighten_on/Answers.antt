use Rattle.std.proofs.Common.{inl, inr, refl}
use Rattle.std.specs.Option.{option_map}
use Rattle.cert_judge.specs.declared.certifying.Certified.TheVariants.{Valid, Said}
use Rattle.base_cmd.specs.Files.{OrMemory}
use Rattle.base_cmd.proofs.Chain.{certificate_told, no_certificate_told}
use Rattle.cert_cmd.specs.Tighten.{OnFirstText}
use Rattle.cert_cmd.proofs.tightening.tighten_on.Goals as goal

pub returns-in-Err : goal.returns-in-Err
returns-in-Err g c =
    let second = option_map (λ w. w.now) c.args.second in
    no_certificate_told c.args.rows.now c.args.cert.now (λ text. OrMemory (OnFirstText c.args.rows.now second text)) _ _ _ _ _ c.in-Err.outcome
    (λ text s. inl (refl, refl)) (λ text s judged said. inr (Said judged, said, (refl, refl))) c.in-Err.ensures.certificate c.tell.ensures

pub returns-in-Ok : goal.returns-in-Ok
returns-in-Ok g c =
    let second = option_map (λ w. w.now) c.args.second in
    let told = c.tighten_first.ensures in
    certificate_told c.args.rows.now c.args.cert.now (λ text. OrMemory (OnFirstText c.args.rows.now second text)) _ _ _ _ _ _ c.in-Ok.net c.in-Ok.proof c.in-Ok.ensures.certificate.0 c.in-Ok.ensures.certificate.1
    (λ text valid. (told.0, inr (Valid c.in-Ok.net c.in-Ok.proof, valid, told.1), told.2))
