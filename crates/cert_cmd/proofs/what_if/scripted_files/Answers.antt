use Rattle.std.proofs.Common.{inl, inr, refl}
use Rattle.mcf_limits.specs.declared.TheConstants.{MAX_CERT_BYTES, MAX_SCRIPT_BYTES}
use Rattle.cert_judge.specs.declared.certifying.Certified.TheVariants.{Valid, Said}
use Rattle.base_cmd.specs.declared.outcome.FileKind.TheVariants.{Certificate, Script}
use Rattle.base_cmd.specs.Answer.{answer_of}
use Rattle.base_cmd.specs.Files.{Ends, OfFile, OrMemory}
use Rattle.base_cmd.proofs.Chain.{certificate_found, found_too, no_certificate_found, no_net_found, rows_found}
use Rattle.cert_cmd.specs.WhatIf.{OnCertificate, OnScript, OfWhatIf, scripted_answer}
use Rattle.cert_cmd.proofs.what_if.scripted_files.Goals as goal

pub returns-in-Err-clause-finds : goal.returns-in-Err-clause-finds
returns-in-Err-clause-finds g c =
    no_net_found c.args.net.now (λ rows. OfFile MAX_CERT_BYTES Certificate c.args.cert.now (λ text. OrMemory (OnCertificate rows c.args.script.now text))) _ _ _ c.in-Err.ensures.rows

pub returns-clause-finds : goal.returns-clause-finds
returns-clause-finds g c =
    rows_found c.args.net.now (λ rows. OfFile MAX_CERT_BYTES Certificate c.args.cert.now (λ text. OrMemory (OnCertificate rows c.args.script.now text))) _ _ _ c.in-Ok.rows _
    c.in-Ok.ensures.rows.0 c.in-Ok.ensures.rows.1
    (no_certificate_found c.in-Ok.rows c.args.cert.now (λ text. OrMemory (OnCertificate c.in-Ok.rows c.args.script.now text)) _ _ (answer_of c.in-Err-certificate_in.outcome)
    (λ text s. inl (refl, refl)) (λ text s judged said. inr (Said judged, said, (refl, refl))) c.in-Err-certificate_in.ensures.certificate)

pub returns-in-Ok-certificate_in-clause-finds : goal.returns-in-Ok-certificate_in-clause-finds
returns-in-Ok-certificate_in-clause-finds g c =
    let rows = c.in-Ok.rows in
    let net = c.in-Ok-certificate_in.net in
    let proof = c.in-Ok-certificate_in.proof in
    found_too scripted_answer (OfFile MAX_SCRIPT_BYTES Script c.args.script.now (λ text. Ends (OnScript rows net proof text)))
    (OfWhatIf c.args.net.now c.args.cert.now c.args.script.now) _ _ _ c.scripted_file.result
    (λ answer of. rows_found c.args.net.now (λ rows. OfFile MAX_CERT_BYTES Certificate c.args.cert.now (λ text. OrMemory (OnCertificate rows c.args.script.now text))) _ _ _ rows answer
    c.in-Ok.ensures.rows.0 c.in-Ok.ensures.rows.1
    (certificate_found rows c.args.cert.now (λ text. OrMemory (OnCertificate rows c.args.script.now text)) _ _ _ net proof answer
    c.in-Ok-certificate_in.ensures.certificate.0 c.in-Ok-certificate_in.ensures.certificate.1 (λ text valid. inr (Valid net proof, valid, of))))
    c.scripted_file.ensures.finds
