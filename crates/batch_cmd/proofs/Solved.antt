-- From the matrices of a batch and their solves to what is written of them.
use Rattle.std.proofs.Common.{◌≡◌, ℕ, List, [], ◌∷◌, Result, Ok, Err, inl, inr, refl, ap, sym, subst}
use Rattle.std.specs.List.{AllZip, AllByRecursion}
use Rattle.std.proofs.lemmas.List.Elements.{recursion_from_All}
use Rattle.mcf_base.specs.Sink.{SinkView}
use Rattle.sndlib_grammar.specs.Rows.{NetRows, AreNetRows}
use Rattle.unit_scale.specs.declared.options.NetOptions.{NetOptions}
use Rattle.unit_scale.specs.Scaling.{scaled_of}
use Rattle.matrix_batch.specs.Matrices.{Matrix}
use Rattle.matrix_batch.specs.Batch.{IsBatch}
use Rattle.solver_run.specs.declared.options.SolveOptions.{SolveOptions}
use Rattle.solver_run.specs.History.{SolvedView}
use Rattle.sndlib_grammar.specs.declared.refusal.NetRefusal.{NetRefusal}
use Rattle.sndlib_grammar.specs.Net.{rows_of}
use Rattle.matrix_batch.specs.Refusals.{InNet, InList}
use Rattle.matrix_batch.specs.declared.refusal.BatchEnd.{BatchEnd}
use Rattle.matrix_batch.specs.declared.refusal.BatchEnd.TheVariants.{Net, List as OfListEnd, Memory as NoMemory}
use Rattle.matrix_batch.specs.Answer.{Answers, AreOwn}
use Rattle.batch_cmd.specs.Solves.{AreSolved, IsSolvedMatrix}
use Rattle.mcf_words.specs.declared.request.Request.{Request}
use Rattle.base_cmd.specs.declared.ended.Ended.{Ended}
use Rattle.base_cmd.specs.declared.outcome.Outcome.{Outcome}
use Rattle.base_cmd.specs.Answer.{Answer, IsTold, OrWant, Writes, answer_of}
use Rattle.base_cmd.specs.Files.{GivesRows}
use Rattle.batch_cmd.specs.declared.asked.BatchAsked.{BatchAsked}
use Rattle.batch_cmd.specs.Batch.{batch_asked_of, AreBatchSolves, IsBatchAnswer, SolvesBatch, OnList, OnTexts, outcome_of}

abbrev IsOwn : NetOptions → Matrix → Type 0
IsOwn o m = AreNetRows m.rows × (scaled_of m.rows o ≡ Ok m.net)

one_by_one : (o : NetOptions) (p : SolveOptions) (batch : List Matrix) (many : List SolvedView) → AllByRecursion (IsOwn o) batch → AreSolved p batch many → AllZip IsSolvedMatrix batch many
one_by_one o p [] [] own solved = tt
one_by_one o p [] (s ∷ ss) own solved = absurd solved
one_by_one o p (m ∷ ms) [] own solved = absurd solved
one_by_one o p (m ∷ ms) (s ∷ ss) own solved = (
  record { named = record { well = own.0.0; options = o; scaled = own.0.1 }; options = p; solved = solved.0 },
  one_by_one o p ms ss own.1 solved.1,
)

-- each matrix and its solve can be written
pub can_be_written : (o : NetOptions) (p : SolveOptions) (batch : List Matrix) (many : List SolvedView) → AreOwn o batch → AreSolved p batch many → AllZip IsSolvedMatrix batch many
can_be_written o p batch many own solved = one_by_one o p batch many (recursion_from_All (IsOwn o) batch own.each) solved

-- ---- what is told of the solves is told of the batch

pub told_solves : (o : NetOptions) (asked : BatchAsked) (batch : List Matrix) (many : List SolvedView) (old new : SinkView) (ended : Ended) → AreBatchSolves o asked batch many
    → IsTold (OrWant (IsBatchAnswer batch many)) old new ended → IsTold (OrWant (SolvesBatch o asked batch)) old new ended
told_solves o asked batch many old new ended solves (answer, inl memory, writes) = (answer, inl memory, writes)
told_solves o asked batch many old new ended solves (answer, inr is, writes) = (answer, inr (inr (many, solves, is)), writes)

-- ---- what is told of a batch is told of its list

pub told_batch : (request : Request) (rows : NetRows) (text : List ℕ) (batch : List Matrix) (old new : SinkView) (ended : Ended) → IsBatch rows request.net text (Ok batch)
    → IsTold (OrWant (SolvesBatch request.net (batch_asked_of request) batch)) old new ended → IsTold (OrWant (OnList request rows text)) old new ended
told_batch request rows text batch old new ended is (answer, inl memory, writes) = (answer, inl memory, writes)
told_batch request rows text batch old new ended is (answer, inr solves, writes) = (answer, inr (Ok batch, is, solves), writes)

pub told_end : (request : Request) (rows : NetRows) (text : List ℕ) (end : BatchEnd) (old new : SinkView) (ended : Ended) → Answers rows request.net text (Err end)
    → Writes old new ended (answer_of (outcome_of end)) → IsTold (OrWant (OnList request rows text)) old new ended
told_end request rows text (Net r) old new ended is writes = (answer_of (outcome_of (Net r)), inr (Err (InNet r), is, refl), writes)
told_end request rows text (OfListEnd r) old new ended is writes = (answer_of (outcome_of (OfListEnd r)), inr (Err (InList r), is, refl), writes)
told_end request rows text NoMemory old new ended is writes = (answer_of (outcome_of NoMemory), inl refl, writes)

-- ---- and of both texts

pub told_texts : (request : Request) (net list : List ℕ) (rows : NetRows) (old new : SinkView) (ended : Ended) → rows_of net ≡ Ok rows
    → IsTold (OrWant (OnList request rows list)) old new ended → IsTold (OrWant (OnTexts request (rows_of net) list)) old new ended
told_texts request net list rows old new ended read told =
    subst (λ (r : Result NetRows NetRefusal). IsTold (OrWant (OnTexts request r list)) old new ended) (sym read) told

pub told_no_rows : (request : Request) (net list : List ℕ) (outcome : Outcome) (old new : SinkView) (ended : Ended) → GivesRows net (Err outcome)
    → Writes old new ended (answer_of outcome) → IsTold (OrWant (OnTexts request (rows_of net) list)) old new ended
told_no_rows request net list outcome old new ended (inl memory) writes = (answer_of outcome, inl (ap answer_of memory), writes)
told_no_rows request net list outcome old new ended (inr (r, read, refused)) writes =
    (answer_of outcome, inr (subst (λ (x : Result NetRows NetRefusal). OnTexts request x list (answer_of outcome)) (sym read) (ap answer_of refused)), writes)

-- what is told of both texts is told of the list, where the network's rows are these
pub list_told : (request : Request) (net list : List ℕ) (rows : NetRows) (answer : Answer) → rows_of net ≡ Ok rows → OrWant (OnTexts request (rows_of net) list) answer → OrWant (OnList request rows list) answer
list_told request net list rows answer read told = subst (λ (r : Result NetRows NetRefusal). OrWant (OnTexts request r list) answer) read told
