-- What `solve` answers.
use Rattle.std.specs.Prelude.{◌≡◌, ℕ, List, Some, if◌then◌else◌}
use Rattle.mcf_base.specs.Shelf.{ShelfView}
use Rattle.sndlib_grammar.specs.Rows.{NetRows}
use Rattle.unit_scale.specs.Scaling.{ScaledNet}
use Rattle.cert_lines.specs.Sheet.{sheet_of}
use Rattle.cert_writer.specs.Text.{certificate_text}
use Rattle.solver_run.specs.History.{SolvedView}
use Rattle.net_solve.specs.declared.asked.Asked.{Asked}
use Rattle.net_solve.specs.declared.solving.Solving.{Solving}
use Rattle.net_solve.specs.declared.solving.Solving.TheVariants.{Refused, TooMuch, Done}
use Rattle.net_solve.specs.Solving.{IsSolving}
use Rattle.mcf_words.specs.declared.request.Request.{Request}
use Rattle.base_cmd.specs.declared.outcome.Outcome.TheVariants.{NetRefused, TooMuch as TooMuchWork}
use Rattle.base_cmd.specs.Found.{found_solve}
use Rattle.base_cmd.specs.Answer.{Answer, answer_of}
use Rattle.base_cmd.specs.Files.{Ends, OfNet}

-- what the words ask of a solve
abbrev pub asked_of : Request → Asked
asked_of request = record { gap = request.gap; phases = request.phases; workers = request.workers; step = request.step }

-- the certificate of a solve of these rows, with status 0 where it is closed and 1 where it is open
abbrev pub solve_answer : NetRows → ScaledNet → SolvedView → Answer
solve_answer rows net s = record { status = if s.proof.closed then 0 else 1; text = certificate_text (sheet_of rows net) s.proof; found = found_solve s }

-- the first refusal of the rows, the work where it is too much, or the certificate
abbrev pub solving_answer : NetRows → Solving → Answer
solving_answer rows (Refused r) = answer_of (NetRefused r)
solving_answer rows (TooMuch n) = answer_of (TooMuchWork n)
solving_answer rows (Done net s) = solve_answer rows net s

-- the answer is that of a solve of the rows
abbrev pub SolvesRows : Request → NetRows → Answer → Type 0
SolvesRows request rows answer = (solving : Solving) × IsSolving rows request.net (asked_of request) solving × (answer ≡ solving_answer rows solving)

-- the answer of the network's file
abbrev pub OfSolve : List ℕ → Request → ShelfView → ShelfView → Answer → Type 0
OfSolve name request old new answer = OfNet name (λ rows. Ends (SolvesRows request rows)) old new answer
