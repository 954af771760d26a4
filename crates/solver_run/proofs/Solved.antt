-- What is a run of the solver is solved.
use Rattle.std.proofs.Common.{◌≡◌, ◌≢◌, ◌↔◌, inl, inr, ℕ, suc, ◌+◌, ◌*◌, ◌<◌, ◌≤◌, Bool, true, false, List, [], ◌∷◌, cond, length, get_or, refl, sym, ap, subst, ◌∙◌, arith}
use Rattle.std.specs.Prelude.{All, IsTrue}
use Rattle.std.proofs.lemmas.List.{length-map}
use Rattle.std.proofs.lemmas.List.FromFn.{length-map-range_with_len}
use Rattle.std.proofs.lemmas.List.Elements.{All-nil, All-from_get_or}
use Rattle.flow_model.specs.Network.{Network, IsNetwork}
use Rattle.flow_model.specs.Lengths.{greatest_exponent, least_capacity, lengths_of}
use Rattle.flow_model.specs.Routing.{Joins}
use Rattle.flow_model.specs.Bound.{volume}
use Rattle.flow_model.specs.Least.{HasCut}
use Rattle.fixed_exp.proofs.Passes.{lengths-fit, empty-far}
use Rattle.gap_fraction.specs.Fraction.{IsWithinGap}
use Rattle.flow_paths.specs.DualRows.{DualRows}
use Rattle.flow_paths.specs.declared.certificate.Proof.{Proof}
use Rattle.flow_paths.specs.declared.certificate.Routing.{Routing}
use Rattle.flow_paths.specs.Certificate.{FractionsArePrinted, IsValid, IsValidRouting, IsRoutingOf, IsRowOf, IsCertified, lengths_in, lower_of, upper_of}
use Rattle.flow_paths.specs.Evaluation.{fraction_le}
use Rattle.flow_paths.specs.Least.{IsFirstLeast}
use Rattle.flow_paths.proofs.Least.{least-first}
use Rattle.dual_bound.specs.Bounds.{ShowsBound, cut_lengths}
use Rattle.dual_bound.proofs.Distances.{cut-volume}
use Rattle.cert_check.proofs.Sound.{valid_certifies}
use Rattle.solver_run.specs.declared.options.SolveOptions.{SolveOptions}
use Rattle.solver_run.specs.Options.{AreOptions}
use Rattle.solver_run.specs.History.{SolvedView, phases_of, loads_after, later_setting}
use Rattle.solver_run.specs.Run.{IsSolverRun, IsPhasedRun, IsCutProof, no_dual, least_dual}
use Rattle.solver_run.specs.Headline.{IsSolved, IsTight}
use Rattle.solver_run.proofs.Carried.{run-valid, run-limits, run-tight, run-closed}
use Rattle.solver_run.proofs.Duals.{bound-shows, cut-shows}

-- the kept dual is one of them
least-in : (net : Network) (duals : List DualRows) → 1 ≤ length duals → (p : ℕ) × (p < length duals) × (least_dual net duals ≡ get_or duals p no_dual)
least-in net [] l = absurd (omega arith)
least-in net (d ∷ []) l = (0, omega arith, refl)
least-in net (d ∷ e ∷ ds) l = go (fraction_le (upper_of net d) (upper_of net (least_dual net (e ∷ ds)))) (least-in net (e ∷ ds) (omega arith))
  where
    go : (b : Bool) → (p : ℕ) × (p < length (e ∷ ds)) × (least_dual net (e ∷ ds) ≡ get_or (e ∷ ds) p no_dual)
        → (p : ℕ) × (p < length (d ∷ e ∷ ds)) × (cond b d (least_dual net (e ∷ ds)) ≡ get_or (d ∷ e ∷ ds) p no_dual)
    go true r = (0, omega arith, refl)
    go false r = (suc r.0, omega (arith, r.1), r.2)

-- under the name of its own lengths
own-lengths : (net : Network) (lengths : List ℕ) (dual : DualRows) → ShowsBound net lengths dual → ShowsBound net (lengths_in net dual) dual
own-lengths net lengths dual s = subst (λ (xs : List ℕ). ShowsBound net xs dual) (sym s.lengths_are) s

-- each dual shows its bound
dual-shows : (net : Network) (o : SolveOptions) (s : SolvedView) → IsNetwork net → (r : IsPhasedRun net o s) → (p : ℕ) → p < length r.duals
    → ShowsBound net (lengths_in net (get_or r.duals p no_dual)) (get_or r.duals p no_dual)
dual-shows net o s n r p l =
    let phases = phases_of s in
    let next = r.phases.each p (omega (arith, l, r.phases.count)) in
    let setting = later_setting net o phases in
    let loads = loads_after net phases (p + 1) in
    let count : length loads ≡ length net.cells = length-map-range_with_len _ 0 (length net.cells) in
    let lengths = lengths_of net setting loads in
    let long_is = lengths-fit setting (greatest_exponent setting net.cells loads) net.cells loads count in
    let far = empty-far setting (greatest_exponent setting net.cells loads) (least_capacity net.cells) net.cells loads count in
    own-lengths net lengths (get_or r.duals p no_dual) (bound-shows net lengths (get_or r.duals p no_dual) n long_is far next.bound)

some-dual : (net : Network) (o : SolveOptions) (s : SolvedView) → (r : IsPhasedRun net o s) → 1 ≤ length r.duals
some-dual net o s r = let long : length (phases_of s) ≡ length s.history = length-map s.history _ in omega (arith, r.phases.count, r.some)

-- the kept dual shows its bound
run-shows : (net : Network) (o : SolveOptions) (s : SolvedView) → IsNetwork net → IsPhasedRun net o s → ShowsBound net (lengths_in net s.proof.dual) s.proof.dual
run-shows net o s n r =
    let kept = least-in net r.duals (some-dual net o s r) in
    subst (λ (d : DualRows). ShowsBound net (lengths_in net d) d) (sym (r.proof.dual ∙ kept.2)) (dual-shows net o s n r kept.0 kept.1)

nonzero : (n : ℕ) → n ≢ 0 → 1 ≤ n
nonzero n h = omega arith

-- the kept bound is the first of the least
pub run-keeps : (net : Network) (o : SolveOptions) (s : SolvedView) → IsNetwork net → (r : IsPhasedRun net o s) → IsFirstLeast (upper_of net) r.duals s.proof.dual
run-keeps net o s n r =
    let divide : All (λ (d : DualRows). 1 ≤ (upper_of net d).den) r.duals =
    All-from_get_or (λ (d : DualRows). 1 ≤ (upper_of net d).den) r.duals no_dual (λ p l. nonzero (upper_of net (get_or r.duals p no_dual)).den (dual-shows net o s n r p l).distance.divides) in
    subst (λ (d : DualRows). IsFirstLeast (upper_of net) r.duals d) (sym r.proof.dual) (least-first (upper_of net) no_dual r.duals (some-dual net o s r) divide)

-- what a routing within the limits, a dual that shows its bound and the right words make
record Makes (net : Network) (o : SolveOptions) (proof : Proof) : Type 0 where
  gap : proof.gap ≡ o.gap
  routing : IsValidRouting net proof.routing
  limits : IsRoutingOf net proof.routing
  shows : ShowsBound net (lengths_in net proof.dual) proof.dual
  closed : IsTrue proof.closed ↔ IsWithinGap (lower_of proof.routing) (upper_of net proof.dual) o.gap
  spent : proof.closed ≡ false → proof.routing.phases ≡ o.phases
  tight : IsTight net proof.routing

valid : (net : Network) (o : SolveOptions) (proof : Proof) → Makes net o proof → FractionsArePrinted net proof → IsValid net proof
valid net o proof m printed = record {
  routing = m.routing;
  lengths = m.shows.cells;
  sources = m.shows.sources;
  potentials = m.shows.potentials;
  distance = m.shows.distance;
  printed = printed;
  verdict = record { closed = subst (λ (g : ℕ). IsTrue proof.closed ↔ IsWithinGap (lower_of proof.routing) (upper_of net proof.dual) g) (sym m.gap) m.closed };
}

solved : (net : Network) (o : SolveOptions) (s : SolvedView) → AreOptions net o → IsSolverRun net o s → Makes net o s.proof → FractionsArePrinted net s.proof → s.proof.lower.micro < 1000000 → s.proof.upper.micro < 1000000 → IsSolved net o s
solved net o s options run m printed low high =
    let v = valid net o s.proof m printed in
    let c : IsCertified net s.proof = valid_certifies net s.proof v in
    record {
      feasible = c.feasible;
      bounds_all = c.bounds_all;
      printed = record { fractions = printed; closed = m.closed };
      budget_spent = m.spent;
      history = run;
      tight = m.tight;
      valid = v;
      fits = record {
        routing = m.limits;
        gap = omega (arith, m.gap, options.gap);
        lower_micro = low;
        upper_micro = high;
        lengths = m.shows.numbers;
        potentials = m.shows.rows;
      };
    }

phased-makes : (net : Network) (o : SolveOptions) (s : SolvedView) → IsNetwork net → AreOptions net o → IsPhasedRun net o s → Makes net o s.proof
phased-makes net o s n options r = record {
  gap = r.proof.gap;
  routing = run-valid net o s n r;
  limits = run-limits net o s n options r;
  shows = run-shows net o s n r;
  closed = run-closed net o s r;
  spent = λ e. r.proof.phases_are ∙ (length-map s.history _ ∙ r.spent e);
  tight = run-tight net o s n r;
}

-- without phases

no_routing : Routing
no_routing = record { phases = 0; scale_cap = 0; scale_load = 1; paths = [] }

none-valid : (net : Network) → IsValidRouting net no_routing
unfolding no_routing
none-valid net = record {
  walks = All-nil (Joins net);
  carried = λ k commodity at. omega arith;
  loads = λ c cell at. omega arith;
  scale = λ e. absurd (omega arith);
}

none-limits : (net : Network) → IsRoutingOf net no_routing
unfolding no_routing
none-limits net = record { phases = omega arith; scale_cap = omega arith; scale_load = omega arith; rows = All-nil (IsRowOf net) }

cut-routing : (net : Network) (o : SolveOptions) (proof : Proof) → IsCutProof net o proof → no_routing ≡ proof.routing
unfolding no_routing
cut-routing net o proof c =
    let phases = c.phases in
    let cap = c.scale_cap in
    let load = c.scale_load in
    let paths = c.paths in
    λ i. record { phases = sym phases i; scale_cap = sym cap i; scale_load = sym load i; paths = sym paths i }

cut-makes : (net : Network) (o : SolveOptions) (proof : Proof) → IsNetwork net → HasCut net → IsCutProof net o proof → Makes net o proof
cut-makes net o proof n cut c =
    let shows = cut-shows net proof.dual n cut c.dual in
    let is = cut-routing net o proof c in
    let none : (upper_of net proof.dual).num ≡ 0 = ap (volume net.cells) shows.lengths_are ∙ cut-volume net.cells in
    let product : (upper_of net proof.dual).num * (lower_of proof.routing).den * 1000000 ≡ 0 * (lower_of proof.routing).den * 1000000 = ap (λ (m : ℕ). m * (lower_of proof.routing).den * 1000000) none in
    record {
      gap = c.gap;
      routing = subst (IsValidRouting net) is (none-valid net);
      limits = subst (IsRoutingOf net) is (none-limits net);
      shows = own-lengths net (cut_lengths net.cells) proof.dual shows;
      closed = ((λ _. omega arith), (λ _. c.closed));
      spent = λ e. let no : true ≡ false = sym c.closed ∙ e in absurd cc;
      tight = record { some = λ p. absurd (p c.phases) };
    }

-- a run with its printed fractions is solved
pub run-solved : (net : Network) (o : SolveOptions) (s : SolvedView) → IsNetwork net → AreOptions net o → IsSolverRun net o s → FractionsArePrinted net s.proof → s.proof.lower.micro < 1000000 → s.proof.upper.micro < 1000000 → IsSolved net o s
run-solved net o s n options (inl c) printed low high = solved net o s options (inl c) (cut-makes net o s.proof n c.0 c.2) printed low high
run-solved net o s n options (inr r) printed low high = solved net o s options (inr r) (phased-makes net o s n options r.1) printed low high
