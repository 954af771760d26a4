-- The run of a network of one cell: one phase of one worker.
use Rattle.std.proofs.Common.{◌≡◌, inl, inr, ℕ, zero, suc, ◌+◌, ◌-◌, ◌*◌, ◌/◌, ◌<◌, ◌≤◌, List, [], ◌∷◌, Some, true, length, get_or, refl, sym, ap, subst, ◌∙◌, arith}
use Rattle.std.specs.Prelude.{All, slice_get}
use Rattle.std.proofs.lemmas.Nat.{div-mul-add}
use Rattle.std.proofs.lemmas.List.Elements.{All-nil, All-cons}
use Rattle.flow_model.specs.declared.net.Cell.{Cell}
use Rattle.flow_model.specs.declared.net.Commodity.{Commodity}
use Rattle.flow_model.specs.Network.{IsNetwork, IsCell, IsCommodity}
use Rattle.flow_model.specs.Walk.{PassesOver, PositiveWalk}
use Rattle.flow_model.specs.Groups.{group_count, group_in}
use Rattle.flow_model.specs.Bound.{walk_length}
use Rattle.flow_model.specs.Lengths.{lengths_of, greatest_exponent}
use Rattle.flow_model.specs.Least.{IsLeastWalk, IsJoined, HasNoCut}
use Rattle.fixed_exp.proofs.Passes.{lengths-fit}
use Rattle.dijkstra_paths.proofs.Least.{length-first}
use Rattle.gap_fraction.specs.Fraction.{Fraction, IsWithinGap}
use Rattle.flow_model.specs.Routing.{Row}
use Rattle.flow_paths.specs.PathRows.{row_at}
use Rattle.flow_paths.specs.Certificate.{FractionsArePrinted, lower_of, upper_of}
use Rattle.dual_bound.specs.Bounds.{IsRowWith, IsDistance, IsBoundOf}
use Rattle.flow_core.specs.declared.state.Entry.{Entry}
use Rattle.flow_core.specs.declared.state.Worker.{Worker}
use Rattle.flow_core.specs.Core.{Terms, State, Event, claim, read, add, IsStart, IsComplete, IsRouted, AreLegal, start, after_schedule, entry, worker}
use Rattle.flow_core.specs.Phase.{Routed, IsPhase, EachIsComplete, HasStopped, IsFinished, terms_of}
use Rattle.flow_core.proofs.Whole.{whole}
use Rattle.solver_run.specs.declared.options.Entry as options
use Rattle.solver_run.specs.Options.{AreOptions}
use Rattle.solver_run.specs.History.{AreRowsOf, NamesRows, IsWeighed, first_setting, later_setting, phases_of, AreRoutedBy}
use Rattle.solver_run.specs.Run.{IsSolverRun, IsNext, no_dual}
use Rattle.solver_run.specs.Headline.{IsSolved}
use Rattle.solver_run.specs.Small.{small_options, one_link, link_phase, link_lengths, dual_over, link_solved}
use Rattle.solver_run.proofs.Solved.{run-solved}

pub link-network : IsNetwork one_link
link-network = record {
  nodes = omega arith;
  cell_count = omega arith;
  commodity_count = omega arith;
  some = omega arith;
  cells = All-cons (IsCell 2) (record { tail = 0; head = 1; both = _; cap = 1 }) [] (record { tail = omega arith; head = omega arith; cap = omega arith }) (All-nil (IsCell 2));
  commodities = All-cons (IsCommodity 2) (record { from = 0; to = 1; amount = 1 }) [] (record { from = omega arith; to = omega arith; apart = λ e. absurd (omega arith); positive = omega arith; amount = omega arith }) (All-nil (IsCommodity 2));
  total = omega arith;
}

-- the cell is the only one, and leads from node 0 to node 1

over : PassesOver one_link.cells 0 0 1
over = (record { tail = 0; head = 1; both = _; cap = 1 }, refl, omega arith, inl (refl, refl))

link-walk : PositiveWalk one_link.cells 0 1 (0 ∷ [])
link-walk = (1, over, refl)

no-cell : (c : ℕ) (cell : Cell) → slice_get one_link.cells (suc c) ≡ Some cell → ⊥
no-cell c cell at = cc

link-least : (lengths : List ℕ) → IsLeastWalk one_link.cells lengths 0 1 (0 ∷ [])
link-least lengths = record { walks = link-walk; least = least }
  where
    least : (other : List ℕ) → PositiveWalk one_link.cells 0 1 other → walk_length lengths (0 ∷ []) ≤ walk_length lengths other
    least [] w = absurd (omega (arith, w))
    least (zero ∷ other) w = omega (arith, length-first lengths 0 [], length-first lengths 0 other)
    least (suc c ∷ other) w = absurd (no-cell c w.1.0 w.1.1)

-- the phase

abbrev terms : Terms
terms = terms_of one_link (first_setting small_options) (0 ∷ []) 1

abbrev events : List Event
events = claim 0 ∷ read 0 ∷ add 0 0 0 ∷ claim 0 ∷ []

abbrev whole_entry : Entry
whole_entry = entry 0 (0 ∷ []) ((0, 0) ∷ [])

abbrev end : State
end = record { claims = 2; loads = 1 ∷ []; workers = worker (whole_entry ∷ []) true 1 (0 ∷ []) ∷ [] }

link-complete : IsComplete terms whole_entry
link-complete = record { all_read = refl; members = members }
  where
    members : (k : ℕ) (commodity : Commodity) → slice_get one_link.commodities k ≡ Some commodity → group_in one_link k ≡ 0 → IsRouted terms whole_entry k commodity
    members zero commodity at same =
        let is : record { from = 0; to = 1; amount = 1 } ≡ commodity = cc in
        subst (IsRouted terms whole_entry 0) is (record { least = link-least (lengths_of one_link (first_setting small_options) (0 ∷ [])); different = λ i j l m e. absurd (omega arith) })
    members (suc k) commodity at same = absurd cc

link-ends : after_schedule terms (start terms) events ≡ end
unfolding group_count
link-ends = refl

link-legal : AreLegal terms (start terms) events
unfolding group_count group_in
link-legal = ((omega arith, refl, tt), ((omega arith, (omega arith, refl)), ((omega arith, omega arith, (refl, omega arith, refl, tt, refl)), ((omega arith, refl, link-complete), tt))))

link-start : IsStart terms
link-start = record { net = link-network; base = refl; room = room; some_worker = omega arith; few_workers = omega arith }
  where
    room : (c : ℕ) → get_or (0 ∷ []) c 0 + 1 ≤ 4611686018427387904
    room zero = omega arith
    room (suc c) = omega arith

link-finished : IsFinished terms end
link-finished =
    let complete : EachIsComplete terms end = All-cons (λ (u : Worker). All (IsComplete terms) u.log) (worker (whole_entry ∷ []) true 1 (0 ∷ [])) [] (All-cons (IsComplete terms) whole_entry [] link-complete (All-nil (IsComplete terms))) (All-nil (λ (u : Worker). All (IsComplete terms) u.log)) in
    let stopped : HasStopped end = (0, refl) in
    subst (IsFinished terms) link-ends (whole terms events link-start link-legal (subst HasStopped (sym link-ends) stopped) (subst (EachIsComplete terms) (sym link-ends) complete))

one-item : (xs : List Routed) (x : Routed) → length xs ≡ 1 → slice_get xs 0 ≡ Some x → xs ≡ x ∷ []
one-item [] x l e = absurd (omega arith)
one-item (y ∷ []) x l e = let is : y ≡ x = cc in ap (λ (z : Routed). z ∷ []) is
one-item (y ∷ z ∷ xs) x l e = absurd (omega arith)

link-phase : IsPhase one_link (first_setting small_options) (0 ∷ []) (1 ∷ []) link_phase
link-phase =
    let f = link-finished in
    let at = (f.whole.entries_are 0 0 (0 ∷ [])).1 (no-list, (whole_entry, (0, omega arith, refl), refl)) in
    subst (IsPhase one_link (first_setting small_options) (0 ∷ []) (1 ∷ [])) (one-item f.entries (record { worker = 0; path = 0 ∷ [] }) f.count at) f.phase
  where
    no-list : ◌≡◌ {A = List ℕ} (0 ∷ []) [] → ⊥
    no-list e = let l = ap length e in absurd (omega arith)

-- the bound

link-bound : (lengths : List ℕ) → IsBoundOf one_link lengths (dual_over lengths)
link-bound lengths = record {
  lengths_are = refl;
  sources = refl;
  potentials = All-cons (IsRowWith 2 (IsDistance one_link.cells lengths)) (record { node = 0; values = 0 ∷ get_or lengths 0 0 ∷ [] }) [] (record { count = refl; each = each }) (All-nil (IsRowWith 2 (IsDistance one_link.cells lengths)));
}
  where
    each : (v : ℕ) → v < 2 → IsDistance one_link.cells lengths 0 v (get_or (0 ∷ get_or lengths 0 0 ∷ []) v 0)
    each zero l = (Some 0, (([], refl, refl), λ walk w. omega arith), refl)
    each (suc zero) l =
        let first : walk_length lengths (0 ∷ []) ≡ get_or lengths 0 0 = length-first lengths 0 [] ∙ omega arith in
        (Some (get_or lengths 0 0), ((0 ∷ [], link-walk, first), λ walk w. omega (arith, first, (link-least lengths).least walk w)), refl)
    each (suc (suc v)) l = absurd (omega arith)

-- the length over itself
link-value : (x : ℕ) → upper_of one_link (dual_over (x ∷ [])) ≡ record { num = x; den = x }
link-value x =
    let num : (upper_of one_link (dual_over (x ∷ []))).num ≡ x = omega arith in
    let den : (upper_of one_link (dual_over (x ∷ []))).den ≡ x = omega arith in
    λ i. record { num = num i; den = den i }

pub link-upper : upper_of one_link link_solved.proof.dual ≡ record { num = get_or link_lengths 0 0; den = get_or link_lengths 0 0 }
link-upper = link-value (get_or link_lengths 0 0)

long : 1 ≤ get_or link_lengths 0 0
long =
    let setting = later_setting one_link small_options (link_phase ∷ []) in
    (lengths-fit setting (greatest_exponent setting one_link.cells (1 ∷ [])) one_link.cells (1 ∷ []) refl).low 0 (record { tail = 0; head = 1; both = _; cap = 1 }) refl (omega arith)

-- the run

pub link-options : AreOptions one_link small_options
link-options = record { gap = omega arith; some_phase = omega arith; phases = omega arith; some_worker = omega arith; workers = omega arith; some_step = omega arith; step = omega arith; work = omega arith }

link-joined : HasNoCut one_link
link-joined = All-cons (λ (k : Commodity). IsJoined one_link.cells k.from k.to) (record { from = 0; to = 1; amount = 1 }) [] (0 ∷ [], link-walk) (All-nil (λ (k : Commodity). IsJoined one_link.cells k.from k.to))

link-next : (p : ℕ) → p < 1 → IsNext one_link small_options (phases_of link_solved) p (get_or (link_solved.proof.dual ∷ []) p no_dual)
link-next zero l = record { phase = link-phase; bound = link-bound link_lengths }
link-next (suc p) l = absurd (omega arith)

first_entry : options.Entry
first_entry = record { worker = 0; row = 0 }

link-names : NamesRows one_link link_solved.proof.routing.paths (record { worker = 0; row = 0 } ∷ [])
link-names = record { count = refl; each = each }
  where
    each : (k : ℕ) (e : options.Entry) → slice_get {X = options.Entry} (record { worker = 0; row = 0 } ∷ []) k ≡ Some e → (e.row < 1) × ((row_at link_solved.proof.routing.paths e.row).commodity ≡ k)
    each zero e at =
        let is : record { worker = 0; row = 0 } ≡ e = cc in
        subst (λ (x : options.Entry). (x.row < 1) × ((row_at link_solved.proof.routing.paths x.row).commodity ≡ 0)) is (omega arith, refl)
    each (suc k) e at = absurd cc

link-rows : AreRowsOf one_link link_solved.history link_solved.proof.routing.paths
link-rows = record {
  ascending = λ i j d l m. absurd (omega arith);
  entries = All-cons (NamesRows one_link link_solved.proof.routing.paths) (record { worker = 0; row = 0 } ∷ []) [] link-names (All-nil (NamesRows one_link link_solved.proof.routing.paths));
  weighed = weighed;
}
  where
    amount : (k : Commodity) → slice_get one_link.commodities 0 ≡ Some k → 1 ≡ k.amount * 1
    amount k at = let is : record { from = 0; to = 1; amount = 1 } ≡ k = cc in let one : 1 ≡ k.amount = ap (λ (x : Commodity). x.amount) is in omega arith

    weighed : (n : ℕ) (row : Row) → slice_get link_solved.proof.routing.paths n ≡ Some row → IsWeighed one_link link_solved.history n row
    weighed zero row at =
        let is : record { commodity = 0; walk = 0 ∷ []; weight = 1 } ≡ row = cc in
        subst (IsWeighed one_link link_solved.history 0) is (record { named = omega arith; weight = amount })
    weighed (suc n) row at = absurd cc

link-within : IsWithinGap (lower_of link_solved.proof.routing) (upper_of one_link link_solved.proof.dual) 0
link-within = subst (λ (f : Fraction). f.num * 1 * 1000000 ≤ f.den * 1 * (1000000 + 0)) (sym link-upper) (omega arith)

link-workers : AreRoutedBy 1 (phases_of link_solved)
link-workers =
    let one : All (λ (r : Routed). r.worker < 1) link_phase = All-cons (λ (r : Routed). r.worker < 1) (record { worker = 0; path = 0 ∷ [] }) [] (omega arith) (All-nil (λ (r : Routed). r.worker < 1)) in
    All-cons (λ (entries : List Routed). All (λ (r : Routed). r.worker < 1) entries) link_phase [] one (All-nil (λ (entries : List Routed). All (λ (r : Routed). r.worker < 1) entries))

pub link-run : IsSolverRun one_link small_options link_solved
link-run = inr (
  link-joined,
  record {
    some = omega arith;
    budget = omega arith;
    duals = link_solved.proof.dual ∷ [];
    phases = record { count = refl; each = link-next; goes_on = λ p l m. absurd (omega arith) };
    workers = link-workers;
    closed = ((λ _. link-within), (λ _. refl));
    spent = λ e. refl;
    proof = record { gap = refl; phases_are = refl; scale_cap = refl; scale_load = refl; dual = refl };
    rows = link-rows;
  },
)

link-printed : FractionsArePrinted one_link link_solved.proof
link-printed = record {
  lower = record { num = refl; den = refl; decimals = refl };
  upper = record {
    num = sym (ap (λ (f : Fraction). f.num) link-upper);
    den = sym (ap (λ (f : Fraction). f.den) link-upper);
    decimals = sym (ap (λ (f : Fraction). (f.num * 1000000 + (f.den - 1)) / f.den) link-upper ∙ rounds (get_or link_lengths 0 0) long);
  };
}
  where
    rounds : (x : ℕ) → 1 ≤ x → (x * 1000000 + (x - 1)) / x ≡ 1000000
    rounds x l = let e : x * 1000000 + (x - 1) ≡ 1000000 * x + (x - 1) = omega arith in ap (λ (n : ℕ). n / x) e ∙ div-mul-add 1000000 x (x - 1) (omega arith)

pub link-solved : IsSolved one_link small_options link_solved
link-solved = run-solved one_link small_options link_solved link-network link-options link-run link-printed (omega arith) (omega arith)
