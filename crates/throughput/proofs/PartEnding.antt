-- What the last phase makes a run.
use Rattle.std.proofs.Common.{◌≡◌, ℕ, ◌*◌, ◌≤◌, false, List, length, sym, ap, ◌∙◌, subst, arith, inr}
use Rattle.std.specs.Prelude.{IsTrue, ◌↔◌}
use Rattle.flow_model.specs.declared.net.Cell.{Cell}
use Rattle.flow_model.specs.Network.{Network}
use Rattle.flow_model.specs.Routing.{Row}
use Rattle.gap_fraction.specs.Fraction.{Fraction}
use Rattle.gap_fraction.specs.Decimals.{millionths_down, millionths_up}
use Rattle.flow_paths.specs.Certificate.{IsPrinted}
use Rattle.flow_paths.specs.Fullness.{fullness}
use Rattle.route_tally.specs.declared.options.RunOptions.{RunOptions}
use Rattle.route_tally.specs.Tally.{IsCollected, IsTally}
use Rattle.route_tally.proofs.TurnSums.{collected, same_total}
use Rattle.throughput.specs.declared.part_proof.PartProof.{PartProof}
use Rattle.throughput.specs.declared.reached.Reached.{Reached}
use Rattle.throughput.specs.Partial.{total_of, part_lower_of, part_upper_of}
use Rattle.gates.specs.Gates.{AreGates, IsLeastPrice}
use Rattle.throughput.specs.Run.{HasSomeWalk, IsPartClosedAfter, IsThroughputRun, part_fill_after, part_kept_after, turns_after}
use Rattle.throughput.specs.Reached.{IsMet, IsReached, carried_in}
use Rattle.throughput.proofs.PartReaching.{kept-all, met-of, of-met}

-- a least price is that of a commodity with a walk
pub priced-walk : (net : Network) (lengths : List ℕ) (price : ℕ) → IsLeastPrice net lengths price → HasSomeWalk net
priced-walk net lengths price is = let p = is.some.1 in (is.some.0, p.commodity, p.at, (p.least.0.0, p.least.0.1))

pub ended-run : (net : Network) (gates : List Cell) (o : RunOptions) (r : Reached) (p : PartProof) → AreGates net gates → HasSomeWalk net → IsReached net gates o r → r.phases ≤ o.phases
    → (IsTrue p.closed ↔ IsMet net o r) → (p.closed ≡ false → r.phases ≡ o.phases) → p.gap ≡ o.gap → p.routing.phases ≡ r.phases → p.routing.scale_cap ≡ r.fill.cap → p.routing.scale_load ≡ r.fill.load
    → ((turns : List Row) → IsCollected turns r.loaded.tally → IsTally turns p.routing.paths) → p.bound ≡ r.kept.bound
    → IsPrinted p.lower (carried_in r) (millionths_down (carried_in r)) → IsPrinted p.upper r.kept.value (millionths_up r.kept.value) → IsThroughputRun net o p
ended-run net gates o r p are walk is budget met spent gap phases_are cap load ordered bound lower upper =
    let count = is.count in
    let n = length is.phases in
    let some = is.some in
    let tally : IsTally (turns_after is.phases n) p.routing.paths = subst (λ (i : ℕ). IsTally (turns_after is.phases i) p.routing.paths) (sym count) (ordered (turns_after is.phases r.phases) is.loaded.tally) in
    let fill : fullness r.fill ≡ part_fill_after net gates is.phases n = is.fill ∙ ap (λ (i : ℕ). part_fill_after net gates is.phases i) (sym count) in
    let total : total_of p.routing.paths ≡ r.loaded.total =
    same_total (turns_after is.phases n) p.routing.paths (collected (turns_after is.phases n) p.routing.paths tally) ∙ (ap (λ (i : ℕ). total_of (turns_after is.phases i)) count ∙ sym is.loaded.total) in
    let same_lower : part_lower_of p.routing ≡ carried_in r =
    ap (λ (t : ℕ). record { num = t * p.routing.scale_cap; den = p.routing.scale_load }) total
    ∙ (ap (λ (x : ℕ). record { num = r.loaded.total * x; den = p.routing.scale_load }) cap ∙ ap (λ (x : ℕ). record { num = r.loaded.total * r.fill.cap; den = x }) load) in
    let same_upper : part_upper_of net p.bound ≡ r.kept.value = ap (part_upper_of net) bound ∙ sym is.value in
    record {
      run = inr (
        walk,
        record {
          gates = gates;
          are_gates = are;
          phases = is.phases;
          bounds = is.bounds;
          some = omega arith;
          budget = omega arith;
          count = is.are.count;
          each = is.are.each;
          goes_on = is.are.goes_on;
          closed = (
            λ yes. subst (λ (i : ℕ). IsPartClosedAfter net gates o is.phases is.bounds i) (sym count) (of-met net gates o r is (met.0 yes)),
            λ c. met.1 (met-of net gates o r is (subst (λ (i : ℕ). IsPartClosedAfter net gates o is.phases is.bounds i) count c)),
          );
          spent = λ not. count ∙ spent not;
          proof = record {
            gap = gap;
            phases_are = phases_are ∙ sym count;
            scale_cap = cap ∙ ap (λ (f : Fraction). f.num) fill;
            scale_load = load ∙ ap (λ (f : Fraction). f.den) fill;
            paths = tally;
            bound = bound ∙ (sym (kept-all net gates o r is) ∙ ap (λ (i : ℕ). part_kept_after net is.bounds i) (sym count));
          };
        },
      );
      printed = record {
        lower = subst (λ (f : Fraction). IsPrinted p.lower f (millionths_down f)) (sym same_lower) lower;
        upper = subst (λ (f : Fraction). IsPrinted p.upper f (millionths_up f)) (sym same_upper) upper;
      };
    }
