-- What a valid certificate is worth, told of it and of its file.
use Rattle.std.proofs.Common.{◌≡◌, List, ℕ, inl, inr, refl, subst}
use Rattle.mcf_limits.specs.declared.TheConstants.{MAX_CERT_BYTES}
use Rattle.mcf_base.specs.Shelf.{ShelfView, with_file}
use Rattle.mcf_base.specs.Reading.{IsText}
use Rattle.mcf_base.specs.Sink.{SinkView}
use Rattle.flow_paths.specs.declared.certificate.Proof.{Proof}
use Rattle.flow_paths.specs.Evaluation.{Evaluation}
use Rattle.sndlib_grammar.specs.Rows.{NetRows, names_of_links}
use Rattle.sweep.specs.Lines.{sweep_text}
use Rattle.unit_scale.specs.Scaling.{ScaledNet}
use Rattle.cert_judge.specs.declared.certifying.Certified.TheVariants.{Valid}
use Rattle.cert_judge.specs.Certified.{IsCertifiedText}
use Rattle.base_cmd.specs.declared.outcome.FileKind.TheVariants.{Certificate}
use Rattle.base_cmd.specs.declared.ended.Ended.{Ended}
use Rattle.base_cmd.specs.Answer.{IsTold, OrWant, Writes, text_answer}
use Rattle.base_cmd.specs.Files.{Ends}
use Rattle.base_cmd.proofs.Chain.{file_came}
use Rattle.sweep_cmd.specs.Sweep.{OfSwept, OnSweep, swept, worth_without}

-- the lines of the links' ids and of the certificate's worth
pub told_lines : (rows : NetRows) (net : ScaledNet) (proof : Proof) (ids : List (List ℕ)) (shown : List Evaluation) (old new : SinkView) (ended : Ended) → ids ≡ names_of_links rows → shown ≡ worth_without rows net proof
    → Writes old new ended (text_answer (sweep_text ids shown)) → IsTold (OrWant (λ answer. answer ≡ swept rows net proof)) old new ended
told_lines rows net proof ids shown old new ended named is written =
    let a = subst (λ (l : List (List ℕ)). Writes old new ended (text_answer (sweep_text l shown))) named written in
    (swept rows net proof, inr refl, subst (λ (es : List Evaluation). Writes old new ended (text_answer (sweep_text (names_of_links rows) es))) is a)

pub told_valid : (rows : NetRows) (cert : List ℕ) (old mid : ShelfView) (text : List ℕ) (net : ScaledNet) (proof : Proof) (before after : SinkView) (ended : Ended)
    → IsText MAX_CERT_BYTES old.holds cert text → mid ≡ with_file old cert → IsCertifiedText rows text (Valid net proof)
    → IsTold (OrWant (λ answer. answer ≡ swept rows net proof)) before after ended → IsTold (OfSwept rows cert old mid) before after ended
told_valid rows cert old mid text net proof before after ended is same certified (answer, of, written) =
    (answer, file_came MAX_CERT_BYTES Certificate cert (λ text. Ends (OnSweep rows text)) old mid mid text answer is same (refl, ends of), written)
  where
    ends : OrWant (λ answer. answer ≡ swept rows net proof) answer → OrWant (OnSweep rows text) answer
    ends (inl memory) = inl memory
    ends (inr e) = inr (Valid net proof, certified, e)
