-- What `whatif` answers.
use Rattle.std.specs.Prelude.{◌≡◌, ℕ, List}
use Rattle.mcf_limits.specs.declared.TheConstants.{MAX_CERT_BYTES, MAX_SCRIPT_BYTES}
use Rattle.mcf_base.specs.Shelf.{ShelfView}
use Rattle.flow_paths.specs.declared.certificate.Proof.{Proof}
use Rattle.sndlib_grammar.specs.Rows.{NetRows}
use Rattle.unit_scale.specs.Scaling.{ScaledNet}
use Rattle.whatif.specs.Shown.{shown_text}
use Rattle.cert_judge.specs.declared.certifying.Certified.{Certified}
use Rattle.cert_judge.specs.declared.certifying.Certified.TheVariants.{Valid, Said}
use Rattle.net_whatif.specs.declared.scripting.Scripted.{Scripted}
use Rattle.net_whatif.specs.declared.scripting.Scripted.TheVariants.{Refused, Ready}
use Rattle.cert_judge.specs.Certified.{IsCertifiedText}
use Rattle.net_whatif.specs.Scripted.{IsScriptedText}
use Rattle.base_cmd.specs.declared.outcome.FileKind.TheVariants.{Certificate, Script}
use Rattle.base_cmd.specs.declared.outcome.Outcome.TheVariants.{ScriptRefused, Judged}
use Rattle.base_cmd.specs.Found.{nothing}
use Rattle.base_cmd.specs.Answer.{Answer, answer_of}
use Rattle.base_cmd.specs.Files.{Ends, OfFile, OfNet, OrMemory}

-- the script's first refusal, or a line for each `show`
abbrev pub scripted_answer : Scripted → Answer
scripted_answer (Refused r) = answer_of (ScriptRefused r)
scripted_answer (Ready plan script) = record { status = 0; text = shown_text script.mode plan script.steps; found = nothing }

-- the answer of the script's text on a valid certificate
abbrev pub OnScript : NetRows → ScaledNet → Proof → List ℕ → Answer → Type 0
OnScript rows net proof text answer = (scripted : Scripted) × IsScriptedText rows net proof text scripted × (answer ≡ scripted_answer scripted)

-- a certificate that is refused or invalid is told, and with a valid one, and no other, the script is asked for
abbrev pub OnCertified : NetRows → List ℕ → Certified → ShelfView → ShelfView → Answer → Type 0
OnCertified rows script (Said judged) old new answer = (answer ≡ answer_of (Judged judged)) × (new ≡ old)
OnCertified rows script (Valid net proof) old new answer = OfFile MAX_SCRIPT_BYTES Script script (λ text. Ends (OnScript rows net proof text)) old new answer

-- the answer of the certificate's text on the rows
abbrev pub OnCertificate : NetRows → List ℕ → List ℕ → ShelfView → ShelfView → Answer → Type 0
OnCertificate rows script text old new answer =
    (certified : Certified) × IsCertifiedText rows text certified × OnCertified rows script certified old new answer

-- the answer of all three files, in their order
abbrev pub OfWhatIf : List ℕ → List ℕ → List ℕ → ShelfView → ShelfView → Answer → Type 0
OfWhatIf net cert script old new answer =
    OfNet net (λ rows. OfFile MAX_CERT_BYTES Certificate cert (λ text. OrMemory (OnCertificate rows script text))) old new answer
