-- What the last phase makes a run.
use Rattle.std.proofs.Common.{◌≡◌, ◌↔◌, ℕ, ◌≤◌, Bool, false, IsTrue, List, [], length, get_or, Option, inr, sym, ap, ◌∙◌, subst, arith}
use Rattle.std.proofs.lemmas.Option.{slice_get-get_or}
use Rattle.flow_model.specs.Network.{Network}
use Rattle.flow_model.specs.Routing.{Row}
use Rattle.gap_fraction.specs.Fraction.{Fraction}
use Rattle.flow_paths.specs.PathRows.{no_row}
use Rattle.route_tally.specs.declared.options.RunOptions.{RunOptions}
use Rattle.route_tally.specs.Tally.{IsCollected, IsTally}
use Rattle.hop_check.specs.declared.hop_proof.HopProof.{HopProof}
use Rattle.hop_check.specs.Layers.{dual_of}
use Rattle.hop_check.specs.Conditions.{HopFractionsArePrinted}
use Rattle.hop_solve.specs.declared.reached.HopReached.{HopReached}
use Rattle.hop_solve.specs.Run.{turns_after, HasNoHopCut, IsHopPhasedRun, IsHopRun}
use Rattle.hop_solve.specs.Numbers.{hop_dual_of}
use Rattle.hop_solve.specs.Reached.{IsHopReached, IsHopMet}
use Rattle.hop_solve.proofs.Reaching.{met-of, of-met}

-- each commodity had a turn, so it has a walk
pub no-cut : (net : Network) (limits : List (Option ℕ)) (counts : List ℕ) (o : RunOptions) (r : HopReached) → IsHopReached net limits counts o r → HasNoHopCut net limits
no-cut net limits counts o r is k l =
    let phase = (is.each 0 is.some).phase in
    let turns = get_or is.phases 0 [] in
    let turn = phase.each k (get_or turns k no_row) (slice_get-get_or turns k no_row (omega (arith, phase.count))) in
    ((get_or turns k no_row).walk, turn.least.allowed)

pub ended-run : (net : Network) (limits : List (Option ℕ)) (counts : List ℕ) (o : RunOptions) (r : HopReached) (closed : Bool) (h : HopProof) → (is : IsHopReached net limits counts o r) → r.phases ≤ o.phases → (IsTrue closed ↔ IsHopMet net limits o r)
    → (closed ≡ false → r.phases ≡ o.phases) → h.proof.closed ≡ closed → h.proof.gap ≡ o.gap → h.proof.routing.phases ≡ r.phases → h.proof.routing.scale_cap ≡ r.fill.cap → h.proof.routing.scale_load ≡ r.fill.load
    → ((turns : List Row) → IsCollected turns r.routed.tally → IsTally turns h.proof.routing.paths) → dual_of h ≡ hop_dual_of r.kept → HopFractionsArePrinted net limits h → IsHopRun net limits o h
ended-run net limits counts o r closed h is budget met spent closed_is gap phases cap load rows dual printed =
    let phased : IsHopPhasedRun net limits o h = record {
      phases = is.phases;
      bounds = is.bounds;
      some = is.some;
      budget = omega (arith, is.count, budget);
      count = is.bounds_count;
      each = is.each;
      goes_on = is.goes_on;
      closed = (
        λ t. of-met net limits counts o r is (met.0 (subst (λ (b : Bool). IsTrue b) closed_is t)),
        λ c. subst (λ (b : Bool). IsTrue b) (sym closed_is) (met.1 (met-of net limits counts o r is c)),
      );
      spent = λ e. sym is.count ∙ spent (sym closed_is ∙ e);
      proof = record {
        gap = gap;
        phases_are = phases ∙ is.count;
        scale_cap = cap ∙ ap (λ (f : Fraction). f.num) is.fill;
        scale_load = load ∙ ap (λ (f : Fraction). f.den) is.fill;
        paths = rows (turns_after is.phases (length is.phases)) is.routed.rows;
        dual = dual ∙ is.kept;
      };
    } in
    record { run = inr (no-cut net limits counts o r is, phased); printed = printed }
