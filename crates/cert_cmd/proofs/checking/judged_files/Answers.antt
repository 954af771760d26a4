use Rattle.std.proofs.Common.{inl, inr, refl}
use Rattle.mcf_limits.specs.declared.TheConstants.{MAX_CERT_BYTES}
use Rattle.base_cmd.specs.declared.outcome.FileKind.TheVariants.{Certificate}
use Rattle.base_cmd.specs.Files.{Ends, OfFile}
use Rattle.base_cmd.proofs.Chain.{file_came, no_net_found, rows_found}
use Rattle.cert_cmd.specs.Check.{OnTexts}
use Rattle.cert_cmd.proofs.checking.judged_files.Goals as goal

pub returns-in-Err : goal.returns-in-Err
returns-in-Err g c =
    no_net_found c.args.net.now (λ rows. OfFile MAX_CERT_BYTES Certificate c.args.cert.now (λ text. Ends (OnTexts rows text))) _ _ _ c.in-Err.ensures.rows

pub returns-in-Err-file_text : goal.returns-in-Err-file_text
returns-in-Err-file_text g c =
    rows_found c.args.net.now (λ rows. OfFile MAX_CERT_BYTES Certificate c.args.cert.now (λ text. Ends (OnTexts rows text))) _ _ _ c.in-Ok.rows _
    c.in-Ok.ensures.rows.0 c.in-Ok.ensures.rows.1 (inl c.in-Err-file_text.ensures)

pub returns-in-Ok-judge : goal.returns-in-Ok-judge
returns-in-Ok-judge g c =
    rows_found c.args.net.now (λ rows. OfFile MAX_CERT_BYTES Certificate c.args.cert.now (λ text. Ends (OnTexts rows text))) _ _ _ c.in-Ok.rows _
    c.in-Ok.ensures.rows.0 c.in-Ok.ensures.rows.1
    (file_came MAX_CERT_BYTES Certificate c.args.cert.now (λ text. Ends (OnTexts c.in-Ok.rows text)) _ _ _ _ _ c.in-Ok-file_text.ensures.0 c.in-Ok-file_text.ensures.1
    (refl, inr (c.in-Ok-judge.judged, rw c.deref.ensures.value at c.in-Ok-judge.ensures, refl)))

pub returns : goal.returns
returns g c =
    rows_found c.args.net.now (λ rows. OfFile MAX_CERT_BYTES Certificate c.args.cert.now (λ text. Ends (OnTexts rows text))) _ _ _ c.in-Ok.rows _
    c.in-Ok.ensures.rows.0 c.in-Ok.ensures.rows.1
    (file_came MAX_CERT_BYTES Certificate c.args.cert.now (λ text. Ends (OnTexts c.in-Ok.rows text)) _ _ _ _ _ c.in-Ok-file_text.ensures.0 c.in-Ok-file_text.ensures.1 (refl, inl refl))
