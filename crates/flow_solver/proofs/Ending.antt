-- What the last phase makes a run.
use Rattle.std.proofs.Common.{◌≡◌, ◌↔◌, ℕ, ◌≤◌, Bool, false, IsTrue, List, length, sym, ap, ◌∙◌, subst, arith}
use Rattle.std.proofs.lemmas.List.{length-map}
use Rattle.flow_model.specs.Network.{Network}
use Rattle.gap_fraction.specs.Fraction.{Fraction}
use Rattle.flow_core.specs.Phase.{Routed}
use Rattle.solver_run.specs.declared.options.SolveOptions.{SolveOptions}
use Rattle.solver_run.specs.History.{SolvedView, routed_in, phases_of, fill_after, AreRoutedBy, AreRowsOf}
use Rattle.solver_run.specs.Run.{IsClosedAfter, ArePhases, IsPhasedRun}
use Rattle.flow_solver.specs.declared.reached.Reached.{Reached}
use Rattle.flow_solver.specs.Search.{phase_count}
use Rattle.flow_solver.specs.Reached.{IsReached, IsMet}
use Rattle.flow_solver.proofs.Reaching.{count-made, met-of, of-met}

pub phased-run : (net : Network) (o : SolveOptions) (r : Reached) (closed : Bool) (s : SolvedView) → (is : IsReached net o r) → phase_count r.search ≤ o.phases → (IsTrue closed ↔ IsMet net o r)
    → (closed ≡ false → phase_count r.search ≡ o.phases) → phases_of s ≡ is.made → AreRowsOf net s.history s.proof.routing.paths → s.proof.closed ≡ closed → s.proof.gap ≡ o.gap
    → s.proof.routing.phases ≡ phase_count r.search → s.proof.routing.scale_cap ≡ r.fill.cap → s.proof.routing.scale_load ≡ r.fill.load → s.proof.dual ≡ r.kept.dual → IsPhasedRun net o s
phased-run net o r closed s is budget met spent phases rows closed_is gap phases_are cap load dual =
    let made = count-made net r.search is.made is.made_are in
    let named = length-map s.history (routed_in s.proof.routing.paths) in
    let same = ap (λ (ps : List (List Routed)). length ps) phases in
    let count : length s.history ≡ length is.made = omega arith in
    let fill : fill_after net (phases_of s) (length (phases_of s)) ≡ record { num = r.fill.cap; den = r.fill.load } =
    ap (λ (ps : List (List Routed)). fill_after net ps (length ps)) phases ∙ sym is.fill in
    let Closed : List (List Routed) → ℕ → Type 0 = λ ps n. IsClosedAfter net o ps is.duals n in
    record {
      some = omega arith;
      budget = omega arith;
      duals = is.duals;
      phases = subst (λ (ps : List (List Routed)). ArePhases net o ps is.duals) (sym phases) is.phases;
      workers = subst (AreRoutedBy o.workers) (sym phases) is.workers;
      closed = (
        λ yes. subst (λ (ps : List (List Routed)). Closed ps (length s.history)) (sym phases)
            (subst (λ (n : ℕ). Closed is.made n) (sym count) (of-met net o r is (met.0 (subst (λ (b : Bool). IsTrue b) closed_is yes)))),
        λ c. subst (λ (b : Bool). IsTrue b) (sym closed_is)
            (met.1 (met-of net o r is (subst (λ (n : ℕ). Closed is.made n) count (subst (λ (ps : List (List Routed)). Closed ps (length s.history)) phases c)))),
      );
      spent = λ not. count ∙ made ∙ spent (sym closed_is ∙ not);
      proof = record {
        gap = gap;
        phases_are = phases_are ∙ sym made ∙ sym same;
        scale_cap = cap ∙ ap (λ (f : Fraction). f.num) (sym fill);
        scale_load = load ∙ ap (λ (f : Fraction). f.den) (sym fill);
        dual = dual ∙ is.kept;
      };
      rows = rows;
    }
