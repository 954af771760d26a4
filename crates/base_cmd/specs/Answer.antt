-- What a run answers: a status, a text on standard output, and what it hands out.
use Rattle.std.specs.Prelude.{◌≡◌, ◌⊎◌, ℕ, ◌≤◌, List, [], ◌∷◌, codes}
use Rattle.std.specs.Io.KnownBytes.{Appends}
use Rattle.std.specs.Fmt.{decimal}
use Rattle.text_lines.specs.Lines.{Line, spelled}
use Rattle.mcf_base.specs.Faults.{FailedLast}
use Rattle.mcf_base.specs.Sink.{AppendsFront, SinkView}
use Rattle.cert_judge.specs.declared.judged.Judged.{Judged}
use Rattle.base_cmd.specs.declared.ended.Ended.{Ended}
use Rattle.base_cmd.specs.declared.ended.Found.{Found}
use Rattle.base_cmd.specs.Found.{nothing}
use Rattle.base_cmd.specs.declared.outcome.FileKind.{FileKind}
use Rattle.base_cmd.specs.declared.outcome.FileKind.TheVariants as kinds
use Rattle.base_cmd.specs.declared.outcome.Outcome.{Outcome}
use Rattle.base_cmd.specs.declared.outcome.Outcome.TheVariants as outcomes
use Rattle.base_cmd.specs.Judged.{net_refused, script_refused, list_refused, second_refused, second_invalid, judged_words, judged_status}

pub record Answer : Type 0 where
  pub status : ℕ
  pub text : List ℕ
  pub found : Found

-- how a kind of file is named in a line
abbrev pub file_word : FileKind → List ℕ
file_word kinds.Network = codes "net"
file_word kinds.Certificate = codes "cert"
file_word kinds.Second = codes "cert2"
file_word kinds.Script = codes "script"
file_word kinds.List = codes "list"

-- the line of work over its limit
abbrev pub work_refused : ℕ → Line
work_refused work = codes "refused" ∷ codes "work" ∷ decimal work ∷ []

-- the words of the line that tells the outcome
abbrev pub words_of : Outcome → Line
words_of outcomes.Usage = codes "usage" ∷ []
words_of outcomes.ReadFault = codes "read" ∷ codes "fault" ∷ []
words_of outcomes.Memory = codes "memory" ∷ []
words_of (outcomes.TooLong kind) = codes "refused" ∷ file_word kind ∷ codes "TooLong" ∷ []
words_of (outcomes.NetRefused r) = net_refused r
words_of (outcomes.TooMuch work) = work_refused work
words_of (outcomes.ScriptRefused r) = script_refused r
words_of (outcomes.ListRefused r) = list_refused r
words_of (outcomes.Judged judged) = judged_words judged
words_of (outcomes.SecondRefused r) = second_refused r
words_of (outcomes.SecondInvalid fault) = second_invalid fault

abbrev pub status_of : Outcome → ℕ
status_of outcomes.Usage = 2
status_of outcomes.ReadFault = 4
status_of outcomes.Memory = 6
status_of (outcomes.TooLong kind) = 3
status_of (outcomes.NetRefused r) = 3
status_of (outcomes.TooMuch work) = 3
status_of (outcomes.ScriptRefused r) = 3
status_of (outcomes.ListRefused r) = 3
status_of (outcomes.Judged judged) = judged_status judged
status_of (outcomes.SecondRefused r) = 3
status_of (outcomes.SecondInvalid fault) = 1

-- one line of words, with this status
abbrev pub line_answer : ℕ → Line → Answer
line_answer status words = record { status = status; text = spelled words; found = nothing }

-- a text, with status 0
abbrev pub text_answer : List ℕ → Answer
text_answer text = record { status = 0; text = text; found = nothing }

-- the outcome's line, with its status
abbrev pub answer_of : Outcome → Answer
answer_of outcome = line_answer (status_of outcome) (words_of outcome)

-- the line of what was said of a certificate
abbrev pub judged_answer : Judged → Answer
judged_answer judged = answer_of (outcomes.Judged judged)

-- out of memory, or such an answer
abbrev pub OrWant : (Answer → Type 0) → Answer → Type 0
OrWant Of answer = (answer ≡ answer_of outcomes.Memory) ⊎ Of answer

-- the end of a run that wrote the answer
abbrev pub ended_of : Answer → Ended
ended_of answer = record { status = answer.status; found = answer.found }

-- the end of a run whose output failed
abbrev pub cut_off : Ended
cut_off = record { status = 5; found = nothing }

-- the answer was written whole, with its status and what it hands out, and the output counted no fault
pub record IsGiven (old new : SinkView) (ended : Ended) (answer : Answer) : Type 0 where
  pub ends : ended ≡ ended_of answer
  pub text : Appends old.written new.written answer.text
  pub faults : new.faults.count ≡ old.faults.count

-- the output failed, a front of the answer was written, and nothing behind the fault
pub record IsCut (old new : SinkView) (ended : Ended) (answer : Answer) : Type 0 where
  pub ends : ended ≡ cut_off
  pub text : AppendsFront old.written new.written answer.text
  pub failed : FailedLast old.faults new.faults
  pub later : old.faults.count ≤ new.faults.count

abbrev pub Writes : SinkView → SinkView → Ended → Answer → Type 0
Writes old new ended answer = IsGiven old new ended answer ⊎ IsCut old new ended answer

-- such an answer was written
abbrev pub IsTold : (Answer → Type 0) → SinkView → SinkView → Ended → Type 0
IsTold Of old new ended = (answer : Answer) × Of answer × Writes old new ended answer
