-- How a run ends that has written its text.
use Rattle.std.proofs.Common.{◌≡◌, ℕ, List, Result, subst}
use Rattle.mcf_base.specs.Sink.{SinkView, Wrote}
use Rattle.base_cmd.specs.declared.ended.Ended.{Ended}
use Rattle.base_cmd.specs.declared.ended.Found.{Found}
use Rattle.base_cmd.specs.Answer.{Answer, Writes}

-- the text that was written is that of the answer, whose status and what it hands out are those of the end
pub ends_as : {E : Type 0} (old new : SinkView) (ended : Ended) (written : Result (Unit {0}) E) (status : ℕ) (found : Found) (answer : Answer)
    → status ≡ answer.status → found ≡ answer.found
    → ((old new : SinkView) (text : List ℕ) → Wrote old new written text → Writes old new ended (record { status = status; text = text; found = found }))
    → Wrote old new written answer.text → Writes old new ended answer
ends_as old new ended written status found answer same given ends wrote =
    subst (λ (n : ℕ). Writes old new ended (record { status = n; text = answer.text; found = answer.found })) same
    (subst (λ (f : Found). Writes old new ended (record { status = status; text = answer.text; found = f })) given (ends old new answer.text wrote))
