-- A run that answers in full.
use Rattle.std.specs.Prelude.{◌≡◌, ◌⊎◌, ℕ, ◌≤◌, List}
use Rattle.mcf_base.specs.Faults.{Rose}
use Rattle.mcf_base.specs.Shelf.{ShelfView}
use Rattle.mcf_base.specs.Sink.{SinkView}
use Rattle.mcf_words.specs.Request.{request_of}
use Rattle.base_cmd.specs.declared.ended.Ended.{Ended}
use Rattle.base_cmd.specs.declared.outcome.Outcome.TheVariants.{Memory}
use Rattle.base_cmd.specs.Answer.{Answer, IsGiven, answer_of}
use Rattle.mcf_cli.specs.Run.{OfRequest}

-- neither the shelf's nor the output's count of faults rose
pub record HasNoFault (old new : ShelfView) (before after : SinkView) : Type 0 where
  pub shelf : ¬ (Rose old.faults.count new.faults.count)
  pub output : ¬ (Rose before.faults.count after.faults.count)

-- the answer is one that the command's clause gives, and its status is 0 or 1
pub record IsResult (words : List (List ℕ)) (old new : ShelfView) (answer : Answer) : Type 0 where
  pub of : OfRequest (request_of words) old new answer
  pub status : answer.status ≤ 1

-- such an answer was written whole; or `memory`, with status 6
abbrev pub EndsWhole : List (List ℕ) → ShelfView → ShelfView → SinkView → SinkView → Ended → Type 0
EndsWhole words old new before after ended = (answer : Answer) × (IsResult words old new answer ⊎ (answer ≡ answer_of Memory)) × IsGiven before after ended answer
