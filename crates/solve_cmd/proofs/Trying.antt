-- The line of a trial, and how a trial ends.
use Rattle.std.proofs.Common.{◌≡◌, ◌∙◌, ℕ, List, [], ◌∷◌, Result, Ok, inl, inr, refl, sym, ap, subst, length}
use Rattle.std.specs.Prelude.{codes, slice_index}
use Rattle.std.specs.Fmt.{decimal}
use Rattle.text_lines.specs.Lines.{Line}
use Rattle.mcf_base.specs.Sink.{SinkView}
use Rattle.flow_model.specs.Network.{Network}
use Rattle.sndlib_grammar.specs.Rows.{NetRows}
use Rattle.sndlib_grammar.specs.Net.{rows_of}
use Rattle.sndlib_grammar.specs.declared.refusal.NetRefusal.{NetRefusal}
use Rattle.unit_scale.specs.Scaling.{ScaledNet, scaled_of}
use Rattle.solver_run.specs.History.{SolvedView}
use Rattle.net_gen.specs.Generated.{AreCounts}
use Rattle.net_solve.specs.declared.solving.Solving.TheVariants.{TooMuch}
use Rattle.net_solve.specs.Asked.{IsTooMuch}
use Rattle.net_solve.specs.Solving.{IsSolving, IsDone}
use Rattle.net_solve.specs.Tally.{total_of, routes_of, carried_of}
use Rattle.mcf_words.specs.declared.request.Request.{Request}
use Rattle.mcf_words.specs.Request.{AreDrawn}
use Rattle.base_cmd.specs.declared.outcome.Outcome.TheVariants.{TooMuch as TooMuchWork}
use Rattle.base_cmd.specs.declared.ended.Ended.{Ended}
use Rattle.base_cmd.specs.Answer.{IsTold, OrWant, Writes, answer_of}
use Rattle.base_cmd.specs.Judged.{verdict_word}
use Rattle.solve_cmd.specs.Solve.{asked_of}
use Rattle.solve_cmd.specs.Drawn.{text_drawn, trial_words, trial_line, links_drawn, net_drawn, TriesRows, OfTrial}

-- the words that were written are those of the line
pub trial_line_is : (of_links : ℕ) (net : Network) (s : SolvedView) (nodes links commodities total phases routes carried verdict : List ℕ)
    → nodes ≡ decimal net.nodes → links ≡ decimal of_links → commodities ≡ decimal (length net.commodities) → total ≡ decimal (total_of net)
    → phases ≡ decimal s.proof.routing.phases → routes ≡ decimal (routes_of s) → carried ≡ decimal (carried_of s.proof.routing.paths) → verdict ≡ verdict_word s.proof.closed
    → codes "trial" ∷ codes "nodes" ∷ nodes ∷ codes "links" ∷ links ∷ codes "commodities" ∷ commodities ∷ codes "total" ∷ total ∷ codes "phases" ∷ phases
    ∷ codes "routes" ∷ routes ∷ codes "carried" ∷ carried ∷ verdict ∷ [] ≡ trial_words of_links net s
trial_line_is of_links net s nodes links commodities total phases routes carried verdict a b c d e f g h = rw (a, b, c, d, e, f, g, h) refl

pub counts_are : (numbers : List ℕ) → AreDrawn numbers → AreCounts (slice_index numbers 1) (slice_index numbers 2) (slice_index numbers 3)
counts_are numbers (a, b, c, d, e, f) = record { some_nodes = a; most_nodes = b; some_links = c; most_links = d; some_demands = e; most_demands = f }

abbrev scaled_to : ScaledNet → Result ScaledNet NetRefusal
scaled_to net = Ok net

scaled_is : (a b : ScaledNet) → scaled_to a ≡ scaled_to b → a ≡ b
scaled_is a b e = cc

-- a solve of the rows was told
pub told_done : (request : Request) (rows : NetRows) (net : ScaledNet) (s : SolvedView) (n : Network) (old new : SinkView) (ended : Ended)
    → scaled_of rows request.net ≡ Ok (net_drawn request) → IsDone rows request.net (asked_of request) net s → n ≡ net.net → Writes old new ended (trial_line (links_drawn request) n s)
    → IsTold (OrWant (TriesRows request rows)) old new ended
told_done request rows net s n old new ended drawn done same written =
    let is : net ≡ net_drawn request = scaled_is net (net_drawn request) (sym done.network ∙ drawn) in
    (trial_line (links_drawn request) (net_drawn request).net s, inr (inr (s, subst (λ m. IsDone rows request.net (asked_of request) m s) is done, refl)), subst (λ m. Writes old new ended (trial_line (links_drawn request) m s)) (same ∙ ap (λ (m : ScaledNet). m.net) is) written)

-- and so was the work
pub told_work : (request : Request) (rows : NetRows) (n : ℕ) (old new : SinkView) (ended : Ended)
    → scaled_of rows request.net ≡ Ok (net_drawn request) → IsSolving rows request.net (asked_of request) (TooMuch n) → Writes old new ended (answer_of (TooMuchWork n))
    → IsTold (OrWant (TriesRows request rows)) old new ended
told_work request rows n old new ended drawn (net, scaled, work) written =
    let is : net ≡ net_drawn request = scaled_is net (net_drawn request) (sym scaled ∙ drawn) in
    (answer_of (TooMuchWork n), inr (inl (n, subst (λ m. IsTooMuch m.net (asked_of request) n) is work, refl)), written)

-- and so was the trial, where the rows are those of the text that was drawn
pub told_text : (request : Request) (text : List ℕ) (rows : NetRows) (old new : SinkView) (ended : Ended)
    → text ≡ text_drawn request.numbers → rows_of text ≡ Ok rows → IsTold (OrWant (TriesRows request rows)) old new ended → IsTold (OrWant (OfTrial request)) old new ended
told_text request text rows old new ended drawn reads (answer, inl memory, written) = (answer, inl memory, written)
told_text request text rows old new ended drawn reads (answer, inr tries, written) =
    (answer, inr (rows, subst (λ t. rows_of t ≡ Ok rows) drawn reads, tries), written)
