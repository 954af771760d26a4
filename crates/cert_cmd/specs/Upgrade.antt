-- What `upgrade` answers.
use Rattle.std.specs.Prelude.{◌≡◌, ℕ, List}
use Rattle.mcf_limits.specs.declared.TheConstants.{MAX_CERT_BYTES}
use Rattle.mcf_base.specs.Shelf.{ShelfView}
use Rattle.flow_paths.specs.declared.certificate.Proof.{Proof}
use Rattle.sndlib_grammar.specs.Rows.{NetRows}
use Rattle.unit_scale.specs.Scaling.{ScaledNet}
use Rattle.cert_lines.specs.Sheet.{sheet_of}
use Rattle.cert_writer.specs.Text.{certificate_text}
use Rattle.cert_judge.specs.declared.certifying.Certified.{Certified}
use Rattle.cert_judge.specs.declared.certifying.Certified.TheVariants.{Valid, Said}
use Rattle.cert_judge.specs.Certified.{IsCertifiedText}
use Rattle.base_cmd.specs.declared.outcome.FileKind.TheVariants.{Certificate}
use Rattle.base_cmd.specs.declared.outcome.Outcome.TheVariants.{Judged}
use Rattle.base_cmd.specs.Answer.{Answer, answer_of, text_answer}
use Rattle.base_cmd.specs.Files.{Ends, OfFile, OfNet}

-- the certificate in form 2, with status 0
abbrev pub upgraded : NetRows → ScaledNet → Proof → Answer
upgraded rows net proof = text_answer (certificate_text (sheet_of rows net) proof)

-- a certificate that is refused or invalid is told, and a valid one is written in form 2
abbrev pub upgrade_answer : NetRows → Certified → Answer
upgrade_answer rows (Said judged) = answer_of (Judged judged)
upgrade_answer rows (Valid net proof) = upgraded rows net proof

-- the answer of the certificate's text, in either form, on the rows
abbrev pub OnUpgrade : NetRows → List ℕ → Answer → Type 0
OnUpgrade rows text answer =
    (certified : Certified) × IsCertifiedText rows text certified × (answer ≡ upgrade_answer rows certified)

-- the answer of the certificate's file
abbrev pub OfUpgraded : NetRows → List ℕ → ShelfView → ShelfView → Answer → Type 0
OfUpgraded rows cert old new answer =
    OfFile MAX_CERT_BYTES Certificate cert (λ text. Ends (OnUpgrade rows text)) old new answer

-- the answer of both files, the network's before the certificate's
abbrev pub OfUpgrade : List ℕ → List ℕ → ShelfView → ShelfView → Answer → Type 0
OfUpgrade net cert old new answer = OfNet net (λ rows. OfUpgraded rows cert) old new answer
