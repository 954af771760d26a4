-- What a run answers to its words and to the files that they name.
use Rattle.std.specs.Prelude.{◌≡◌, ℕ, List, [], Option, Some, None, slice_get, slice_index_or}
use Rattle.mcf_base.specs.Shelf.{ShelfView}
use Rattle.mcf_base.specs.Sink.{SinkView}
use Rattle.mcf_words.specs.declared.request.Command.{Command}
use Rattle.mcf_words.specs.declared.request.Command.TheVariants.{Solve, Check, WhatIf, Upgrade, Tighten, Batch, Sweep, SweepSolve, CheckHops, CheckThroughput, Hops, Throughput, Print, Gen, Trial}
use Rattle.mcf_words.specs.declared.request.Request.{Request}
use Rattle.mcf_words.specs.Request.{request_of}
use Rattle.base_cmd.specs.declared.ended.Ended.{Ended}
use Rattle.base_cmd.specs.declared.outcome.Outcome.TheVariants.{Usage}
use Rattle.base_cmd.specs.Answer.{Answer, IsTold, answer_of}
use Rattle.base_cmd.specs.Files.{Ends, OrMemory}
use Rattle.solve_cmd.specs.Print.{OfPrint}
use Rattle.solve_cmd.specs.Solve.{OfSolve}
use Rattle.solve_cmd.specs.Drawn.{gen_answer, OfTrial}
use Rattle.cert_cmd.specs.Check.{OfCheck}
use Rattle.cert_cmd.specs.Tighten.{OfTighten}
use Rattle.batch_cmd.specs.Batch.{OfBatch}
use Rattle.cert_cmd.specs.Upgrade.{OfUpgrade}
use Rattle.cert_cmd.specs.WhatIf.{OfWhatIf}
use Rattle.hops_cmd.specs.Check.{OfCheckHops}
use Rattle.hops_cmd.specs.Hops.{OfHops}
use Rattle.throughput_cmd.specs.Check.{OfCheckThroughput}
use Rattle.throughput_cmd.specs.Parts.{OfThroughput}
use Rattle.sweep_cmd.specs.Sweep.{OfSweep}
use Rattle.sweep_cmd.specs.SweepSolve.{OfSweepSolve}

-- the file of that place among the words
abbrev pub file_at : Request → ℕ → List ℕ
file_at request i = slice_index_or request.names i []

-- the file of that place, if the words name one
abbrev pub file_if : Request → ℕ → Option (List ℕ)
file_if request i = slice_get request.names i

-- the answer of a command, with what the shelf has seen before and behind it: so the files that were started are those
-- which the command comes to, in their order
abbrev pub OfCommand : Command → Request → ShelfView → ShelfView → Answer → Type 0
OfCommand Solve request old new answer = OfSolve (file_at request 0) request old new answer
OfCommand Print request old new answer = OfPrint (file_at request 0) old new answer
OfCommand Check request old new answer = OfCheck (file_at request 0) (file_at request 1) old new answer
OfCommand Gen request old new answer = Ends (λ given. given ≡ gen_answer request.numbers) old new answer
OfCommand Trial request old new answer = Ends (OfTrial request) old new answer
OfCommand Upgrade request old new answer = OfUpgrade (file_at request 0) (file_at request 1) old new answer
OfCommand Tighten request old new answer =
    OfTighten (file_at request 0) (file_at request 1) (file_if request 2) old new answer
OfCommand Batch request old new answer = OfBatch (file_at request 0) (file_at request 1) request old new answer
OfCommand Sweep request old new answer = OfSweep (file_at request 0) (file_at request 1) old new answer
OfCommand SweepSolve request old new answer = OfSweepSolve (file_at request 0) request old new answer
OfCommand Hops request old new answer = OfHops (file_at request 0) request old new answer
OfCommand Throughput request old new answer = OfThroughput (file_at request 0) request old new answer
OfCommand CheckHops request old new answer = OfCheckHops (file_at request 0) (file_at request 1) old new answer
OfCommand CheckThroughput request old new answer =
    OfCheckThroughput (file_at request 0) (file_at request 1) old new answer
OfCommand WhatIf request old new answer =
    OfWhatIf (file_at request 0) (file_at request 1) (file_at request 2) old new answer

-- usage exactly where the words ask for nothing, and else the answer of the command; memory alone may run out at any time
abbrev pub OfRequest : Option Request → ShelfView → ShelfView → Answer → Type 0
OfRequest None old new answer = Ends (λ given. given ≡ answer_of Usage) old new answer
OfRequest (Some request) old new answer = OfCommand request.command request old new answer

-- the answer to the words, or out of memory before any file was started
abbrev pub IsAnswer : List (List ℕ) → ShelfView → ShelfView → Answer → Type 0
IsAnswer words old new answer = OrMemory (OfRequest (request_of words)) old new answer

-- the run wrote an answer to the words and to the contents of the files, and gave its status; or the output failed
abbrev pub RunEnds : List (List ℕ) → ShelfView → ShelfView → SinkView → SinkView → Ended → Type 0
RunEnds words old new before after ended = IsTold (IsAnswer words old new) before after ended
