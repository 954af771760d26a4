-- What `throughput` makes of rows, and what it answers.
use Rattle.std.specs.Prelude.{◌≡◌, ℕ, List, None, Result, Ok, Err, if◌then◌else◌}
use Rattle.mcf_base.specs.Shelf.{ShelfView}
use Rattle.flow_model.specs.Network.{Network, IsNetwork}
use Rattle.sndlib_grammar.specs.Rows.{NetRows}
use Rattle.sndlib_grammar.specs.declared.refusal.NetRefusal.{NetRefusal}
use Rattle.unit_scale.specs.declared.options.NetOptions.{NetOptions}
use Rattle.unit_scale.specs.Scaling.{ScaledNet, scaled_of}
use Rattle.cert_lines.specs.Sheet.{IsOf, sheet_of}
use Rattle.net_solve.specs.declared.asked.Asked.{Asked}
use Rattle.net_solve.specs.Asked.{turn_options_for, IsTooMuch}
use Rattle.route_tally.specs.declared.options.RunOptions.{RunOptions}
use Rattle.throughput.specs.declared.part_proof.PartProof.{PartProof}
use Rattle.throughput.specs.Conditions.{IsValidPart, IsPartProofOf, IsPartCertified}
use Rattle.throughput.specs.Run.{IsThroughputRun}
use Rattle.kind_texts.specs.PartText.{part_text, FitsPart}
use Rattle.mcf_words.specs.declared.request.Request.{Request}
use Rattle.base_cmd.specs.Found.{found_part}
use Rattle.base_cmd.specs.declared.outcome.Outcome.TheVariants.{NetRefused, TooMuch as TooMuchWork}
use Rattle.base_cmd.specs.Answer.{Answer, answer_of}
use Rattle.base_cmd.specs.Files.{AreTextRows, Ends, OfNet}
use Rattle.throughput_cmd.specs.declared.solving.PartSolving.{PartSolving}
use Rattle.throughput_cmd.specs.declared.solving.PartSolving.TheVariants.{Refused, TooMuch, Done}

-- ---- what is made of rows

-- what the words ask of a run; workers have no bearing on one
abbrev pub asked_of : Request → Asked
asked_of request = record { gap = request.gap; phases = request.phases; workers = None; step = request.step }

-- what was solved: a run on a network, whose proof is valid, certifies, and is of the network
pub record IsPartSolved (net : Network) (o : RunOptions) (p : PartProof) : Type 0 where
  pub sound : IsNetwork net
  pub run : IsThroughputRun net o p
  pub valid : IsValidPart net p
  pub certified : IsPartCertified net p
  pub fits : IsPartProofOf net p

-- on this network: work that is too much, or a run
abbrev pub OnRun : ScaledNet → Asked → PartSolving → Type 0
OnRun net asked (Refused r) = ⊥
OnRun net asked (TooMuch work) = IsTooMuch net.net asked work
OnRun net asked (Done solved p) =
    (solved ≡ net) × ((work : ℕ) → ¬ (IsTooMuch net.net asked work)) × IsPartSolved net.net (turn_options_for net.net asked) p

-- the network is refused, or a run on it
abbrev pub OnNet : Result ScaledNet NetRefusal → Asked → PartSolving → Type 0
OnNet (Err r) asked solving = solving ≡ Refused r
OnNet (Ok net) asked solving = OnRun net asked solving

-- what is made of the rows under the options
abbrev pub IsPartSolving : NetRows → NetOptions → Asked → PartSolving → Type 0
IsPartSolving rows o asked solving = OnNet (scaled_of rows o) asked solving

-- what was solved of a network of rows fits the text with their names
abbrev pub PartsCanBeWritten : Type 0
PartsCanBeWritten = (rows : NetRows) (net : ScaledNet) (o : RunOptions) (p : PartProof) → IsOf rows net
    → IsNetwork net.net → IsPartSolved net.net o p → FitsPart (sheet_of rows net) p

-- ---- what is answered

-- the certificate, with status 0 where it is closed and 1 where it is open
abbrev pub part_answer : NetRows → ScaledNet → PartProof → Answer
part_answer rows net p = record { status = if p.closed then 0 else 1; text = part_text (sheet_of rows net) p; found = found_part p }

-- the first refusal of the rows, the work where it is too much, or the certificate
abbrev pub solving_answer : NetRows → PartSolving → Answer
solving_answer rows (Refused r) = answer_of (NetRefused r)
solving_answer rows (TooMuch work) = answer_of (TooMuchWork work)
solving_answer rows (Done net p) = part_answer rows net p

-- the answer is that of what is made of the rows, which are those of a text
abbrev pub SolvesParts : Request → NetRows → Answer → Type 0
SolvesParts request rows answer =
    (solving : PartSolving) × IsPartSolving rows request.net (asked_of request) solving × (answer ≡ solving_answer rows solving)
    × AreTextRows rows

-- the answer of the network's file
abbrev pub OfThroughput : List ℕ → Request → ShelfView → ShelfView → Answer → Type 0
OfThroughput net request old new answer = OfNet net (λ rows. Ends (SolvesParts request rows)) old new answer
