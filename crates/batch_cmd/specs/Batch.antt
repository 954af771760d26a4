-- What `batch` answers.
use Rattle.std.specs.Prelude.{◌≡◌, ◌⊎◌, ℕ, List, Result, Ok, Err}
use Rattle.std.specs.Global.{Vec}
use Rattle.mcf_limits.specs.declared.TheConstants.{MAX_LIST_BYTES}
use Rattle.mcf_base.specs.Shelf.{ShelfView}
use Rattle.sndlib_grammar.specs.Rows.{NetRows}
use Rattle.unit_scale.specs.declared.options.NetOptions.{NetOptions}
use Rattle.matrix_batch.specs.Refusals.{BatchRefusal, InNet, InList}
use Rattle.matrix_batch.specs.Matrices.{Matrix}
use Rattle.matrix_batch.specs.Batch.{IsBatch, IsBatchTooMuch}
use Rattle.solver_run.specs.History.{SolvedView}
use Rattle.sndlib_grammar.specs.declared.refusal.NetRefusal.{NetRefusal}
use Rattle.matrix_batch.specs.declared.refusal.BatchEnd.{BatchEnd}
use Rattle.matrix_batch.specs.declared.refusal.BatchEnd.TheVariants.{Net, List as OfListEnd, Memory as NoMemory}
use Rattle.matrix_batch.specs.Answer.{AreOwn}
use Rattle.batch_cmd.specs.declared.asked.BatchAsked.{BatchAsked}
use Rattle.batch_cmd.specs.Asked.{batch_options}
use Rattle.batch_cmd.specs.Solves.{AreSolved, solved_status, solved_text}
use Rattle.mcf_words.specs.declared.request.Request.{Request}
use Rattle.base_cmd.specs.declared.outcome.FileKind.TheVariants.{List as OfListFile}
use Rattle.base_cmd.specs.declared.outcome.Outcome.{Outcome}
use Rattle.base_cmd.specs.declared.outcome.Outcome.TheVariants.{NetRefused, ListRefused, TooMuch, Memory}
use Rattle.base_cmd.specs.Found.{nothing}
use Rattle.base_cmd.specs.Answer.{Answer, answer_of}
use Rattle.base_cmd.specs.Files.{Ends, OfFile, OfNet}

-- what the words ask of the solves
abbrev pub batch_asked_of : Request → BatchAsked
batch_asked_of request = record { gap = request.gap; phases = request.phases; step = request.step }

-- each matrix's line and its certificate's text, with status 0 where each is closed and 1 where some is open
abbrev pub batch_answer : List Matrix → List SolvedView → Answer
batch_answer batch many = record { status = solved_status many; text = solved_text batch many; found = nothing }

-- it is the answer of these solves
abbrev pub IsBatchAnswer : List Matrix → List SolvedView → Answer → Type 0
IsBatchAnswer batch many answer = answer ≡ batch_answer batch many

-- each matrix's network is that of its own rows, the work of all is within its limit, and these are solves of them, in their order
pub record AreBatchSolves (o : NetOptions) (asked : BatchAsked) (batch : List Matrix) (many : List SolvedView) : Type 0 where
  pub own : AreOwn o batch
  pub work : (n : ℕ) → ¬ (IsBatchTooMuch batch asked.phases n)
  pub solved : AreSolved (batch_options batch asked) batch many

-- the work is refused, or each matrix is solved
abbrev pub SolvesBatch : NetOptions → BatchAsked → List Matrix → Answer → Type 0
SolvesBatch o asked batch answer =
    ((n : ℕ) × IsBatchTooMuch batch asked.phases n × (answer ≡ answer_of (TooMuch n)))
    ⊎ ((many : List SolvedView) × AreBatchSolves o asked batch many × (answer ≡ batch_answer batch many))

-- the list or a link of the network is refused, or its matrices are solved
abbrev pub OnBatch : NetOptions → BatchAsked → Result (List Matrix) BatchRefusal → Answer → Type 0
OnBatch o asked (Err (InNet r)) answer = answer ≡ answer_of (NetRefused r)
OnBatch o asked (Err (InList r)) answer = answer ≡ answer_of (ListRefused r)
OnBatch o asked (Ok batch) answer = SolvesBatch o asked batch answer

-- the answer of the list's text on the rows
abbrev pub OnList : Request → NetRows → List ℕ → Answer → Type 0
OnList request rows text answer =
    (found : Result (List Matrix) BatchRefusal) × IsBatch rows request.net text found × OnBatch request.net (batch_asked_of request) found answer

-- the network's text is refused, or the list's text answers on its rows
abbrev pub OnTexts : Request → Result NetRows NetRefusal → List ℕ → Answer → Type 0
OnTexts request (Err r) list answer = answer ≡ answer_of (NetRefused r)
OnTexts request (Ok rows) list answer = OnList request rows list answer

-- the answer of the list's file
abbrev pub OfList : Request → NetRows → List ℕ → ShelfView → ShelfView → Answer → Type 0
OfList request rows list old new answer =
    OfFile MAX_LIST_BYTES OfListFile list (λ text. Ends (OnList request rows text)) old new answer

-- the answer of both files, the network's before the list's
abbrev pub OfBatch : List ℕ → List ℕ → Request → ShelfView → ShelfView → Answer → Type 0
OfBatch net list request old new answer = OfNet net (λ rows. OfList request rows list) old new answer

-- the solves, or the outcome that ends the run: out of memory, or work over its limit
abbrev pub GivesSolves : NetOptions → BatchAsked → List Matrix → Result (Vec SolvedView) Outcome → Type 0
GivesSolves o asked batch (Ok many) = AreBatchSolves o asked batch many.items
GivesSolves o asked batch (Err outcome) =
    (outcome ≡ Memory) ⊎ ((n : ℕ) × IsBatchTooMuch batch asked.phases n × (outcome ≡ TooMuch n))

-- what one line tells of a list that gives no batch
abbrev pub outcome_of : BatchEnd → Outcome
outcome_of (Net r) = NetRefused r
outcome_of (OfListEnd r) = ListRefused r
outcome_of NoMemory = Memory
