-- What `check` answers.
use Rattle.std.specs.Prelude.{◌≡◌, ℕ, List}
use Rattle.mcf_limits.specs.declared.TheConstants.{MAX_CERT_BYTES}
use Rattle.mcf_base.specs.Shelf.{ShelfView}
use Rattle.sndlib_grammar.specs.Rows.{NetRows}
use Rattle.cert_judge.specs.declared.judged.Judged.{Judged as Judgement}
use Rattle.cert_judge.specs.Judgement.{IsJudgement}
use Rattle.base_cmd.specs.declared.outcome.FileKind.TheVariants.{Certificate}
use Rattle.base_cmd.specs.Answer.{Answer, judged_answer}
use Rattle.base_cmd.specs.Files.{Ends, OfFile, OfNet}

-- the answer is what is said of the certificate's text on the rows
abbrev pub OnTexts : NetRows → List ℕ → Answer → Type 0
OnTexts rows text answer = (judged : Judgement) × IsJudgement rows text judged × (answer ≡ judged_answer judged)

-- the answer of both files, the network's before the certificate's
abbrev pub OfCheck : List ℕ → List ℕ → ShelfView → ShelfView → Answer → Type 0
OfCheck net cert old new answer =
    OfNet net (λ rows. OfFile MAX_CERT_BYTES Certificate cert (λ text. Ends (OnTexts rows text))) old new answer
