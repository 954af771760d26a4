-- What `sweepsolve` answers.
use Rattle.std.specs.Prelude.{◌≡◌, ◌⊎◌, ℕ, List, length, Result, Ok, Err}
use Rattle.std.specs.Global.{Vec}
use Rattle.mcf_base.specs.Shelf.{ShelfView}
use Rattle.flow_model.specs.Network.{IsNetwork}
use Rattle.sndlib_grammar.specs.declared.refusal.NetRefusal.{NetRefusal}
use Rattle.sndlib_grammar.specs.Rows.{NetRows, names_of_links}
use Rattle.unit_scale.specs.Scaling.{ScaledNet, scaled_of}
use Rattle.cert_lines.specs.Sheet.{IsOf}
use Rattle.sweep_cmd.specs.declared.asked.SweepAsked.{SweepAsked}
use Rattle.sweep_cmd.specs.declared.swept.Swept.{Swept}
use Rattle.sweep_cmd.specs.Asked.{IsSweepTooMuch, sweep_options}
use Rattle.sweep_cmd.specs.Swept.{AreSwept}
use Rattle.sweep_cmd.specs.Lines.{swept_status, swept_text}
use Rattle.mcf_words.specs.declared.request.Request.{Request}
use Rattle.base_cmd.specs.declared.outcome.Outcome.{Outcome}
use Rattle.base_cmd.specs.declared.outcome.Outcome.TheVariants.{NetRefused, TooMuch, Memory}
use Rattle.base_cmd.specs.Found.{nothing}
use Rattle.base_cmd.specs.Answer.{Answer, answer_of}
use Rattle.base_cmd.specs.Files.{Ends, OfNet}

-- what the words ask of the solves
abbrev pub sweep_asked_of : Request → SweepAsked
sweep_asked_of request = record { gap = request.gap; phases = request.phases; step = request.step }

-- a line for each link and its solve, with status 0 where each is closed and 1 where some is open
abbrev pub solves_answer : NetRows → List Swept → Answer
solves_answer rows swept =
    record { status = swept_status swept; text = swept_text (names_of_links rows) swept; found = nothing }

-- the network is that of the rows, the work of all links is within its limit, and these are the solves without each link, in link order
pub record AreSolves (rows : NetRows) (asked : SweepAsked) (net : ScaledNet) (swept : List Swept) : Type 0 where
  pub named : IsOf rows net
  pub sound : IsNetwork net.net
  pub work : (n : ℕ) → ¬ (IsSweepTooMuch (length rows.links) (length net.net.commodities) asked.phases n)
  pub solved : AreSwept net.options.links net.net (sweep_options (length rows.links) net.net asked) (length rows.links) swept

-- the work is refused, or each link is closed and what is left is solved
abbrev pub SolvesLinks : NetRows → SweepAsked → ScaledNet → Answer → Type 0
SolvesLinks rows asked net answer =
    ((n : ℕ) × IsSweepTooMuch (length rows.links) (length net.net.commodities) asked.phases n × (answer ≡ answer_of (TooMuch n)))
    ⊎ ((swept : List Swept) × AreSolves rows asked net swept × (answer ≡ solves_answer rows swept))

-- the rows are refused under the options, or the links of their network are closed
abbrev pub OnScaled : NetRows → SweepAsked → Result ScaledNet NetRefusal → Answer → Type 0
OnScaled rows asked (Err r) answer = answer ≡ answer_of (NetRefused r)
OnScaled rows asked (Ok net) answer = SolvesLinks rows asked net answer

-- the answer of the rows
abbrev pub OnSweepSolve : Request → NetRows → Answer → Type 0
OnSweepSolve request rows answer = OnScaled rows (sweep_asked_of request) (scaled_of rows request.net) answer

-- the answer of the network's file
abbrev pub OfSweepSolve : List ℕ → Request → ShelfView → ShelfView → Answer → Type 0
OfSweepSolve name request old new answer = OfNet name (λ rows. Ends (OnSweepSolve request rows)) old new answer

-- the solves, or the outcome that ends the run: out of memory, or work over its limit
abbrev pub GivesSolves : NetRows → SweepAsked → ScaledNet → Result (Vec Swept) Outcome → Type 0
GivesSolves rows asked net (Ok swept) = AreSolves rows asked net swept.items
GivesSolves rows asked net (Err outcome) =
    (outcome ≡ Memory) ⊎ ((n : ℕ) × IsSweepTooMuch (length rows.links) (length net.net.commodities) asked.phases n × (outcome ≡ TooMuch n))
