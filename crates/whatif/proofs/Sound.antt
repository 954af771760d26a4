-- What is shown bounds the network with other capacities.
use Rattle.std.proofs.Common.{◌≡◌, ◌≢◌, ℕ, ◌*◌, ◌<◌, ◌≤◌, Bool, List, [], ◌∷◌, length, get_or, map, inl, inr, sym, ap, subst, ◌∙◌, arith, All, Some}
use Rattle.std.specs.Prelude.{slice_get, IsTrue}
use Rattle.std.specs.List.{range_with_len}
use Rattle.std.proofs.lemmas.Bool.Decides.{eqb_tells}
use Rattle.std.proofs.lemmas.List.Elements.{All-map}
use Rattle.std.proofs.lemmas.List.FromFn.{get_or-map-range_with_len, length-map-range_with_len}
use Rattle.std.proofs.lemmas.Option.{slice_get_within, get_or_from_slice_get}
use Rattle.flow_model.specs.declared.net.Cell.{Cell}
use Rattle.flow_model.specs.Network.{Network, IsNetwork}
use Rattle.flow_model.specs.Walk.{IsWalk, Goes}
use Rattle.flow_model.specs.Routing.{Row, load_of, Joins, IsFeasible, scaled}
use Rattle.flow_model.specs.Bound.{IsPotential}
use Rattle.flow_model.proofs.Duality.{duality}
use Rattle.gap_fraction.specs.Fraction.{Fraction}
use Rattle.flow_paths.specs.DualRows.{DualRows}
use Rattle.flow_paths.specs.declared.certificate.Proof.{Proof}
use Rattle.flow_paths.specs.Certificate.{IsValid, lengths_in, distances_in, length_of, upper_of}
use Rattle.flow_paths.specs.Evaluation.{edited, fill, loads_of, lower_under, with_caps}
use Rattle.cert_check.proofs.Carrying.{carried-scaled, load_of-scaled}
use Rattle.cert_check.proofs.Sound.{distances_below}
use Rattle.cert_check.proofs.WalkSteps.{no_cell}
use Rattle.whatif.specs.Planned.{Planned, IsPlanned, AreBounds, routing_under, shown_of}
use Rattle.whatif.proofs.Sums.{with_caps-length, edit_of, has_edit}
use Rattle.whatif.proofs.Filling.{cap_at, fill_below, fill_positive}
use Rattle.whatif.proofs.Limits.{some_load}

pub lengths_same : (net : Network) (caps : List ℕ) (dual : DualRows) → lengths_in (edited net caps) dual ≡ lengths_in net dual
lengths_same net caps dual = ap (λ n. map (length_of dual.lengths) (range_with_len 0 n)) (with_caps-length net.cells caps)

pub loads_same : (net : Network) (caps : List ℕ) (rows : List Row) → loads_of (edited net caps) rows ≡ loads_of net rows
loads_same net caps rows = ap (λ n. map (load_of rows) (range_with_len 0 n)) (with_caps-length net.cells caps)

-- ---- walks and potentials

goes_same : (a b : Cell) (u v : ℕ) → b.tail ≡ a.tail → b.head ≡ a.head → b.both ≡ a.both → Goes a u v → Goes b u v
goes_same a b u v t h e (inl (p, q)) = inl (p ∙ sym t, q ∙ sym h)
goes_same a b u v t h e (inr (both, p, q)) = inr (subst (λ (x : Bool). IsTrue x) (sym e) both, p ∙ sym h, q ∙ sym t)

walk_edited : (cells : List Cell) (caps : List ℕ) (u v : ℕ) (walk : List ℕ) → IsWalk cells u v walk → IsWalk (with_caps cells caps) u v walk
walk_edited cells caps u v [] w = w
walk_edited cells caps u v (c ∷ walk) (x, (cell, at, goes), rest) =
    let h = has_edit cells caps c cell at in
    (x, (h.new, h.here, goes_same cell h.new u x h.tail h.head h.both goes), walk_edited cells caps x v walk rest)

joins_edited : (net : Network) (caps : List ℕ) (r : Row) → Joins net r → Joins (edited net caps) r
joins_edited net caps r (k, at, walk) = (k, at, walk_edited net.cells caps k.from k.to r.walk walk)

potential_edited : (cells : List Cell) (caps lengths potential : List ℕ) → IsPotential cells lengths potential → IsPotential (with_caps cells caps) lengths potential
potential_edited cells caps lengths potential h = λ c new u v at goes.
    let e = edit_of cells caps c new at in
    h c e.old u v e.here (goes_same new e.old u v (sym e.tail) (sym e.head) (sym e.both) goes)

-- ---- the lower fraction

abbrev full : Network → Proof → Fraction
full net proof = fill net.cells (loads_of net proof.routing.paths)

scaled_feasible : (net : Network) (caps : List ℕ) (proof : Proof) → IsNetwork net → IsValid net proof → proof.routing.phases ≢ 0
    → IsFeasible (edited net caps) (scaled (full (edited net caps) proof).num proof.routing.paths) (proof.routing.phases * (full (edited net caps) proof).num) (full (edited net caps) proof).den
scaled_feasible net caps proof n v some =
    let f = full (edited net caps) proof in
    let rows = proof.routing.paths in
    let size = with_caps-length net.cells caps in
    let count = length-map-range_with_len (load_of rows) 0 (length (with_caps net.cells caps)) in
    let loaded = some_load net proof n v some in
    let same = loads_same net caps rows in
    record {
      parts = positive (some_load net proof n v some);
      walks = All-map (Joins (edited net caps)) (λ x. record { commodity = x.commodity; walk = x.walk; weight = f.num * x.weight }) rows (λ k d lt. joins_edited net caps (get_or rows k d) (v.routing.walks k d lt));
      carried = λ k commodity at. carried-scaled f.num k rows ∙ (ap (λ m. f.num * m) (v.routing.carried k commodity at) ∙ turned f.num proof.routing.phases commodity.amount);
      within = λ c cell at. fits c cell at;
    }
  where
    turned : (a b c : ℕ) → a * (b * c) ≡ b * a * c
    turned a b c = omega arith

    positive : (c : ℕ) × (c < length (loads_of net proof.routing.paths)) × (get_or (loads_of net proof.routing.paths) c 0 ≢ 0) → 1 ≤ (full (edited net caps) proof).den
    positive (c, lt, ne) =
        let rows = proof.routing.paths in
        let size = with_caps-length net.cells caps in
        let count = length-map-range_with_len (load_of rows) 0 (length net.cells) in
        let same = loads_same net caps rows in
        fill_positive (with_caps net.cells caps) (loads_of (edited net caps) rows) c (omega arith) (omega (arith, ap length same)) (subst (λ (l : List ℕ). get_or l c 0 ≢ 0) (sym same) ne)

    fits : (c : ℕ) (cell : Cell) → slice_get (with_caps net.cells caps) c ≡ Some cell → load_of (scaled (full (edited net caps) proof).num proof.routing.paths) c ≤ (full (edited net caps) proof).den * cell.cap
    fits c cell at =
        let rows = proof.routing.paths in
        let cells = with_caps net.cells caps in
        let f = full (edited net caps) proof in
        let inside = slice_get_within cells c cell at in
        let count = length-map-range_with_len (load_of rows) 0 (length cells) in
        let here : get_or (loads_of (edited net caps) rows) c 0 ≡ load_of rows c = get_or-map-range_with_len (load_of rows) 0 (length cells) c c 0 inside (omega arith) in
        let cap : cap_at cells c ≡ cell.cap = ap (λ (x : Cell). x.cap) (get_or_from_slice_get cells c cell no_cell at) in
        let below : f.num * get_or (loads_of (edited net caps) rows) c 0 ≤ cap_at cells c * f.den = fill_below cells (loads_of (edited net caps) rows) c inside (omega arith) in
        let left : f.num * get_or (loads_of (edited net caps) rows) c 0 ≡ f.num * load_of rows c = ap (λ m. f.num * m) here in
        let right : cap_at cells c * f.den ≡ cell.cap * f.den = ap (λ m. m * f.den) cap in
        omega (arith, load_of-scaled f.num c rows)

nothing_feasible : (net : Network) → IsFeasible net [] 0 1
nothing_feasible net = record {
  parts = omega arith;
  walks = λ k d lt. absurd (omega arith);
  carried = λ k commodity at. omega arith;
  within = λ c cell at. omega arith;
}

pub feasible_under : (net : Network) (caps : List ℕ) (proof : Proof) → IsNetwork net → IsValid net proof
    → IsFeasible (edited net caps) (routing_under (edited net caps) proof) (lower_under (edited net caps) proof.routing.phases proof.routing.paths).num (lower_under (edited net caps) proof.routing.phases proof.routing.paths).den
feasible_under net caps proof n v = elim (eqb_tells proof.routing.phases 0)
    as (λ _. IsFeasible (edited net caps) (routing_under (edited net caps) proof) (lower_under (edited net caps) proof.routing.phases proof.routing.paths).num (lower_under (edited net caps) proof.routing.phases proof.routing.paths).den) [
      | inl p ↦ rw p.0 (nothing_feasible (edited net caps))
      | inr p ↦ rw p.0 (scaled_feasible net caps proof n v p.1)
    ]

-- ---- the upper one

abbrev IsBoundUnder : Network → List ℕ → Proof → Type 0
IsBoundUnder net caps proof = (rows : List Row) (a q : ℕ) → IsFeasible (edited net caps) rows a q
    → a * (upper_of (edited net caps) proof.dual).den ≤ q * (upper_of (edited net caps) proof.dual).num

pub bound_under : (net : Network) (caps : List ℕ) (proof : Proof) → IsValid net proof → IsBoundUnder net caps proof
bound_under net caps proof v =
    let now = edited net caps in
    let dual = proof.dual in
    let potentials : All (λ r. IsPotential now.cells (lengths_in now dual) r.values) dual.potentials =
    subst (λ (l : List ℕ). All (λ r. IsPotential now.cells l r.values) dual.potentials) (sym (lengths_same net caps dual)) (λ k d lt. potential_edited net.cells caps (lengths_in net dual) (get_or dual.potentials k d).values (v.potentials.each k d lt)) in
    λ rows a q feasible. duality now rows a q (lengths_in now dual) (distances_in now dual) (length-map-range_with_len (length_of dual.lengths) 0 (length now.cells)) (distances_below now dual potentials) feasible

-- ---- both

pub are_bounds : (p : Planned) → IsPlanned p → AreBounds (edited p.net p.caps) p.proof (shown_of p)
are_bounds p h = record {
  feasible = feasible_under p.net p.caps p.proof h.net h.valid;
  positive = low (upper_of (edited p.net p.caps) p.proof.dual).den h.valid.distance.divides;
  bounds = bound_under p.net p.caps p.proof h.valid;
}
  where
    low : (n : ℕ) → n ≢ 0 → 1 ≤ n
    low n ne = omega arith
