-- What `hops` makes of rows, and what it answers.
use Rattle.std.specs.Prelude.{◌≡◌, ℕ, List, Option, Some, None, Result, Ok, Err, if◌then◌else◌}
use Rattle.mcf_base.specs.Shelf.{ShelfView}
use Rattle.flow_model.specs.Network.{Network, IsNetwork}
use Rattle.sndlib_grammar.specs.Rows.{NetRows}
use Rattle.sndlib_grammar.specs.declared.refusal.NetRefusal.{NetRefusal}
use Rattle.unit_scale.specs.declared.options.NetOptions.{NetOptions}
use Rattle.unit_scale.specs.Scaling.{ScaledNet, scaled_of}
use Rattle.cert_lines.specs.Sheet.{IsOf, sheet_of}
use Rattle.net_solve.specs.declared.asked.Asked.{Asked}
use Rattle.net_solve.specs.Asked.{turn_options_for, IsTooMuch}
use Rattle.route_tally.specs.declared.options.RunOptions.{RunOptions}
use Rattle.hop_check.specs.declared.hop_proof.HopProof.{HopProof}
use Rattle.hop_check.specs.Conditions.{IsValidHops, IsHopProofOf, IsHopCertified}
use Rattle.hop_check.specs.Limits.{limits_of, hop_refusal}
use Rattle.hop_solve.specs.Run.{IsHopRun}
use Rattle.kind_texts.specs.HopsText.{hops_text, FitsHops}
use Rattle.mcf_words.specs.declared.request.Request.{Request}
use Rattle.base_cmd.specs.Found.{found_hops}
use Rattle.base_cmd.specs.declared.outcome.Outcome.TheVariants.{NetRefused, TooMuch as TooMuchWork}
use Rattle.base_cmd.specs.Answer.{Answer, answer_of}
use Rattle.base_cmd.specs.Files.{AreTextRows, Ends, OfNet}
use Rattle.hops_cmd.specs.declared.solving.HopSolving.{HopSolving}
use Rattle.hops_cmd.specs.declared.solving.HopSolving.TheVariants.{Refused, TooMuch, Done}

-- ---- what is made of rows

-- what the words ask of a run; workers have no bearing on one
abbrev pub asked_of : Request → Asked
asked_of request = record { gap = request.gap; phases = request.phases; workers = None; step = request.step }

-- what was solved: a run within the limits on a network, whose proof is valid, certifies, and is of the network
pub record IsHopSolved (net : Network) (limits : List (Option ℕ)) (o : RunOptions) (h : HopProof) : Type 0 where
  pub sound : IsNetwork net
  pub run : IsHopRun net limits o h
  pub valid : IsValidHops net limits h
  pub certified : IsHopCertified net limits h
  pub fits : IsHopProofOf net h

-- within these limits: work that is too much, or a run on this network
abbrev pub OnRun : ScaledNet → List (Option ℕ) → Asked → HopSolving → Type 0
OnRun net limits asked (Refused r) = ⊥
OnRun net limits asked (TooMuch work) = IsTooMuch net.net asked work
OnRun net limits asked (Done solved h) =
    (solved ≡ net) × ((work : ℕ) → ¬ (IsTooMuch net.net asked work)) × IsHopSolved net.net limits (turn_options_for net.net asked) h

-- behind the network in units, in this order: a limit that is too far, work that is too much, a run
abbrev pub OnLimits : NetRows → ScaledNet → Asked → Option NetRefusal → HopSolving → Type 0
OnLimits rows net asked (Some r) solving = solving ≡ Refused r
OnLimits rows net asked None solving = OnRun net (limits_of rows net) asked solving

-- the network is refused, or what is behind it
abbrev pub OnNet : NetRows → Result ScaledNet NetRefusal → Asked → HopSolving → Type 0
OnNet rows (Err r) asked solving = solving ≡ Refused r
OnNet rows (Ok net) asked solving = OnLimits rows net asked (hop_refusal rows) solving

-- what is made of the rows under the options
abbrev pub IsHopSolving : NetRows → NetOptions → Asked → HopSolving → Type 0
IsHopSolving rows o asked solving = OnNet rows (scaled_of rows o) asked solving

-- what was solved of a network of rows fits the text with their names
abbrev pub HopsCanBeWritten : Type 0
HopsCanBeWritten = (rows : NetRows) (net : ScaledNet) (limits : List (Option ℕ)) (o : RunOptions) (h : HopProof) → IsOf rows net
    → IsNetwork net.net → IsHopSolved net.net limits o h → FitsHops (sheet_of rows net) h

-- ---- what is answered

-- the certificate, with status 0 where it is closed and 1 where it is open
abbrev pub hops_answer : NetRows → ScaledNet → HopProof → Answer
hops_answer rows net h = record { status = if h.proof.closed then 0 else 1; text = hops_text (sheet_of rows net) h; found = found_hops h }

-- the first refusal of the rows, the work where it is too much, or the certificate
abbrev pub solving_answer : NetRows → HopSolving → Answer
solving_answer rows (Refused r) = answer_of (NetRefused r)
solving_answer rows (TooMuch work) = answer_of (TooMuchWork work)
solving_answer rows (Done net h) = hops_answer rows net h

-- the answer is that of what is made of the rows, which are those of a text
abbrev pub SolvesHops : Request → NetRows → Answer → Type 0
SolvesHops request rows answer =
    (solving : HopSolving) × IsHopSolving rows request.net (asked_of request) solving × (answer ≡ solving_answer rows solving)
    × AreTextRows rows

-- the answer of the network's file
abbrev pub OfHops : List ℕ → Request → ShelfView → ShelfView → Answer → Type 0
OfHops net request old new answer = OfNet net (λ rows. Ends (SolvesHops request rows)) old new answer
