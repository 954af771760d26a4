-- What `sweep` answers.
use Rattle.std.specs.Prelude.{◌≡◌, ℕ, List, length}
use Rattle.mcf_limits.specs.declared.TheConstants.{MAX_CERT_BYTES}
use Rattle.mcf_base.specs.Shelf.{ShelfView}
use Rattle.flow_paths.specs.declared.certificate.Proof.{Proof}
use Rattle.flow_paths.specs.Evaluation.{Evaluation}
use Rattle.sndlib_grammar.specs.Rows.{NetRows, names_of_links}
use Rattle.unit_scale.specs.Closed.{caps_of}
use Rattle.unit_scale.specs.Scaling.{ScaledNet}
use Rattle.sweep.specs.Sweep.{sweep_evaluations}
use Rattle.sweep.specs.Lines.{sweep_text}
use Rattle.cert_judge.specs.declared.certifying.Certified.{Certified}
use Rattle.cert_judge.specs.declared.certifying.Certified.TheVariants.{Valid, Said}
use Rattle.cert_judge.specs.Certified.{IsCertifiedText}
use Rattle.base_cmd.specs.declared.outcome.FileKind.TheVariants.{Certificate}
use Rattle.base_cmd.specs.declared.outcome.Outcome.TheVariants.{Judged}
use Rattle.base_cmd.specs.Answer.{Answer, answer_of, text_answer}
use Rattle.base_cmd.specs.Files.{Ends, OfFile, OfNet}

-- what the certificate is worth without each link, in link order, all other capacities being the network's own
abbrev pub worth_without : NetRows → ScaledNet → Proof → List Evaluation
worth_without rows net proof =
    sweep_evaluations net.options.links net.net proof (caps_of net.net) (length rows.links)

-- a line for each link, with its id and what the certificate is worth without it, and status 0
abbrev pub swept : NetRows → ScaledNet → Proof → Answer
swept rows net proof = text_answer (sweep_text (names_of_links rows) (worth_without rows net proof))

-- a certificate that is refused or invalid is told, and with a valid one each link is closed
abbrev pub sweep_answer : NetRows → Certified → Answer
sweep_answer rows (Said judged) = answer_of (Judged judged)
sweep_answer rows (Valid net proof) = swept rows net proof

-- the answer of the certificate's text on the rows
abbrev pub OnSweep : NetRows → List ℕ → Answer → Type 0
OnSweep rows text answer =
    (certified : Certified) × IsCertifiedText rows text certified × (answer ≡ sweep_answer rows certified)

-- the answer of the certificate's file
abbrev pub OfSwept : NetRows → List ℕ → ShelfView → ShelfView → Answer → Type 0
OfSwept rows cert old new answer =
    OfFile MAX_CERT_BYTES Certificate cert (λ text. Ends (OnSweep rows text)) old new answer

-- the answer of both files, the network's before the certificate's
abbrev pub OfSweep : List ℕ → List ℕ → ShelfView → ShelfView → Answer → Type 0
OfSweep net cert old new answer = OfNet net (λ rows. OfSwept rows cert) old new answer
