-- What `gen` and `trial` answer.
use Rattle.std.specs.Prelude.{◌≡◌, ◌⊎◌, ℕ, List, [], ◌∷◌, Some, Ok, length, slice_index, codes, if◌then◌else◌}
use Rattle.std.specs.Fmt.{decimal}
use Rattle.text_lines.specs.Lines.{Line, spelled}
use Rattle.flow_model.specs.Network.{Network}
use Rattle.sndlib_grammar.specs.Rows.{NetRows}
use Rattle.sndlib_grammar.specs.Net.{rows_of}
use Rattle.unit_scale.specs.Scaling.{ScaledNet}
use Rattle.solver_run.specs.History.{SolvedView}
use Rattle.net_gen.specs.Generated.{generated_text}
use Rattle.net_gen.specs.Drawn.{drawn_net}
use Rattle.net_solve.specs.Asked.{IsTooMuch}
use Rattle.net_solve.specs.Solving.{IsDone}
use Rattle.net_solve.specs.Tally.{total_of, routes_of, carried_of}
use Rattle.mcf_words.specs.declared.request.Request.{Request}
use Rattle.base_cmd.specs.declared.outcome.Outcome.TheVariants.{TooMuch as TooMuchWork}
use Rattle.base_cmd.specs.Found.{nothing, found_solve}
use Rattle.base_cmd.specs.Judged.{verdict_word}
use Rattle.base_cmd.specs.Answer.{Answer, answer_of}
use Rattle.solve_cmd.specs.Solve.{asked_of}

-- the text that is drawn from the seed, with these numbers of nodes, links and demands
abbrev pub text_drawn : List ℕ → List ℕ
text_drawn numbers = generated_text (slice_index numbers 0) (slice_index numbers 1) (slice_index numbers 2) (slice_index numbers 3)

abbrev pub gen_answer : List ℕ → Answer
gen_answer numbers = record { status = 0; text = text_drawn numbers; found = nothing }

-- the size of the network, whose number of links is given, the sum of its amounts, the phases, how often a commodity was routed,
-- the sum of all path weights, and the verdict
abbrev pub trial_words : ℕ → Network → SolvedView → Line
trial_words links net s =
    codes "trial" ∷ codes "nodes" ∷ decimal net.nodes ∷ codes "links" ∷ decimal links
    ∷ codes "commodities" ∷ decimal (length net.commodities) ∷ codes "total" ∷ decimal (total_of net)
    ∷ codes "phases" ∷ decimal s.proof.routing.phases ∷ codes "routes" ∷ decimal (routes_of s)
    ∷ codes "carried" ∷ decimal (carried_of s.proof.routing.paths) ∷ verdict_word s.proof.closed ∷ []

-- the line of a solve, with status 0 where it is closed and 1 where it is open
abbrev pub trial_line : ℕ → Network → SolvedView → Answer
trial_line links net s = record {
  status = if s.proof.closed then 0 else 1;
  text = spelled (trial_words links net s);
  found = found_solve s;
}

-- how many links the network that is drawn has
abbrev pub links_drawn : Request → ℕ
links_drawn request = slice_index request.numbers 2

-- the network that is drawn from the seed, under the options of the request
abbrev pub net_drawn : Request → ScaledNet
net_drawn request =
    drawn_net request.net (slice_index request.numbers 0) (slice_index request.numbers 1) (links_drawn request)
    (slice_index request.numbers 3)

-- the work where a given budget makes it too much, or the line of a solve of the rows, which stand for the network that was drawn
abbrev pub TriesRows : Request → NetRows → Answer → Type 0
TriesRows request rows answer =
    ((n : ℕ) × IsTooMuch (net_drawn request).net (asked_of request) n × (answer ≡ answer_of (TooMuchWork n)))
    ⊎ ((s : SolvedView) × IsDone rows request.net (asked_of request) (net_drawn request) s
    × (answer ≡ trial_line (links_drawn request) (net_drawn request).net s))

-- the answer of the rows of the text that is drawn
abbrev pub OfTrial : Request → Answer → Type 0
OfTrial request answer = (rows : NetRows) × (rows_of (text_drawn request.numbers) ≡ Ok rows) × TriesRows request rows answer
