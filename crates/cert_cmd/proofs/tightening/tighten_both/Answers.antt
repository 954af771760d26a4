use Rattle.std.proofs.Common.{rules, inl, inr, refl}
use Rattle.cert_judge.specs.declared.second.Second.TheVariants.{Valid, Refused, Invalid}
use Rattle.cert_judge.specs.Second.{IsSecondText, with_net}
use Rattle.mcf_limits.specs.declared.TheConstants.{MAX_CERT_BYTES}
use Rattle.base_cmd.specs.declared.outcome.Outcome.TheVariants.{SecondRefused, SecondInvalid}
use Rattle.base_cmd.specs.declared.outcome.FileKind.TheVariants.{Second}
use Rattle.base_cmd.specs.Answer.{answer_of}
use Rattle.base_cmd.specs.Files.{Ends}
use Rattle.base_cmd.proofs.Chain.{file_came}
use Rattle.cert_cmd.specs.Tighten.{OnSecond}
use Rattle.cert_cmd.proofs.BestCertificates.{both_came}
use Rattle.cert_cmd.proofs.tightening.tighten_both.Goals as goal

pub returns-in-Err : goal.returns-in-Err
returns-in-Err g c = (answer_of c.in-Err.outcome, inl c.in-Err.ensures, c.tell.ensures)

pub returns-in-Ok-Refused : goal.returns-in-Ok-Refused
returns-in-Ok-Refused g c =
    let is : IsSecondText c.args.rows.now c.args.first.net.options c.in-Ok.text.items (with_net c.args.first.net (Refused c.in-Ok-Refused.refusal)) = search rules in
    let came = file_came MAX_CERT_BYTES Second c.args.second.now (λ text. Ends (OnSecond c.args.rows.now c.args.first.net c.args.first.proof text)) _ _ _ _ _ c.in-Ok.ensures.0 c.in-Ok.ensures.1
    (refl, inr (Refused c.in-Ok-Refused.refusal, is, refl)) in
    (answer_of (SecondRefused c.in-Ok-Refused.refusal), came, c.tell-in-Ok-Refused.ensures)

pub returns-in-Ok-Invalid : goal.returns-in-Ok-Invalid
returns-in-Ok-Invalid g c =
    let is : IsSecondText c.args.rows.now c.args.first.net.options c.in-Ok.text.items (with_net c.args.first.net (Invalid c.in-Ok-Invalid.fault)) = search rules in
    let came = file_came MAX_CERT_BYTES Second c.args.second.now (λ text. Ends (OnSecond c.args.rows.now c.args.first.net c.args.first.proof text)) _ _ _ _ _ c.in-Ok.ensures.0 c.in-Ok.ensures.1
    (refl, inr (Invalid c.in-Ok-Invalid.fault, is, refl)) in
    (answer_of (SecondInvalid c.in-Ok-Invalid.fault), came, c.tell-in-Ok-Invalid.ensures)

pub returns-in-Ok-Valid : goal.returns-in-Ok-Valid
returns-in-Ok-Valid g c =
    let is : IsSecondText c.args.rows.now c.args.first.net.options c.in-Ok.text.items (with_net c.args.first.net (Valid c.in-Ok-Valid.proof)) = search rules in
    let told = c.write_tightened.ensures in
    let came = file_came MAX_CERT_BYTES Second c.args.second.now (λ text. Ends (OnSecond c.args.rows.now c.args.first.net c.args.first.proof text)) _ _ _ _ _ c.in-Ok.ensures.0 c.in-Ok.ensures.1
    (refl, both_came c.args.rows.now c.args.first.net c.args.first.proof c.in-Ok-Valid.proof c.in-Ok.text.items told.0 is told.1) in
    (told.0, came, told.2)
