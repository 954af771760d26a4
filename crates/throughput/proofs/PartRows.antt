-- The rows of a run: each is a least walk of its commodity.
use Rattle.std.proofs.Common.{◌≡◌, ℕ, suc, ◌+◌, ◌*◌, ◌<◌, ◌≤◌, Bool, true, false, eqb, cond, List, [], ◌∷◌, ◌++◌, length, get_or, take, map, Option, Some, None, refl, sym, ap, ◌∙◌, subst, arith, inl, inr, ne_eqb}
use Rattle.std.specs.Prelude.{All, IsTrue, flat_map, slice_get}
use Rattle.std.specs.List.{list_any, range_with_len}
use Rattle.std.proofs.lemmas.Bool.{cases_eq}
use Rattle.std.proofs.lemmas.List.{length-append, get_or_append_left, get_or-append-add}
use Rattle.std.proofs.lemmas.List.Elements.{All-append, All-cons, All-nil, All-head, All-tail}
use Rattle.std.proofs.lemmas.List.FromFn.{length-map-range_with_len, get_or-map-range_with_len}
use Rattle.std.proofs.lemmas.List.Sums.{sum_by-cons}
use Rattle.flow_model.specs.declared.net.Cell.{Cell}
use Rattle.flow_model.specs.declared.net.Commodity.{Commodity}
use Rattle.flow_model.specs.declared.setting.Setting.{Setting}
use Rattle.flow_model.specs.Network.{Network, IsNetwork}
use Rattle.flow_model.specs.Routing.{Row, carried, load_of, Joins}
use Rattle.flow_model.specs.Walk.{IsWalk, PositiveWalk}
use Rattle.flow_model.specs.Lengths.{AreLengths, greatest_exponent}
use Rattle.fixed_exp.proofs.Passes.{lengths-fit}
use Rattle.flow_paths.specs.Evaluation.{loads_of}
use Rattle.route_tally.specs.Tally.{IsTally, same_path}
use Rattle.route_tally.proofs.SamePaths.{same_parts}
use Rattle.solver_run.proofs.Short.{least-short}
use Rattle.gates.specs.Gates.{AreGates, gated_loads, gated_lengths}
use Rattle.throughput.specs.Run.{IsPartPhase, IsPartTurn, routed, turns_after}
use Rattle.throughput.proofs.FirstPhase.{loads-long}
use Rattle.throughput.proofs.Measuring.{front-at, named}

-- the row's walk leads over positive cells, fewer than there are nodes, from its commodity's from to its to
pub record IsRoute (net : Network) (row : Row) : Type 0 where
  pub commodity : Commodity
  pub at : slice_get net.commodities row.commodity ≡ Some commodity
  pub walks : PositiveWalk net.cells commodity.from commodity.to row.walk
  pub short : length row.walk < net.nodes

pub route-same : (net : Network) (a b : Row) → a.commodity ≡ b.commodity → a.walk ≡ b.walk → IsRoute net a → IsRoute net b
route-same net a b number walk is = record {
  commodity = is.commodity;
  at = subst (λ (k : ℕ). slice_get net.commodities k ≡ Some is.commodity) number is.at;
  walks = subst (λ (w : List ℕ). PositiveWalk net.cells is.commodity.from is.commodity.to w) walk is.walks;
  short = subst (λ (w : List ℕ). length w < net.nodes) walk is.short;
}

-- what holds of each turn's row holds of all that was routed

all-routed : (P : Row → Type 0) (turns : List (Option Row)) → ((j : ℕ) (row : Row) → j < length turns → get_or turns j None ≡ Some row → P row) → All P (routed turns)
all-routed P [] h = All-nil P
all-routed P (None ∷ turns) h = all-routed P turns (λ j row l e. h (suc j) row (omega arith) e)
all-routed P (Some r ∷ turns) h = All-cons P r (routed turns) (h 0 r (omega arith) refl) (all-routed P turns (λ j row l e. h (suc j) row (omega arith) e))

all-phases : (P : Row → Type 0) (phases : List (List (Option Row))) → ((i : ℕ) → i < length phases → All P (routed (get_or phases i []))) → All P (flat_map routed phases)
all-phases P [] h = All-nil P
all-phases P (t ∷ phases) h = All-append P (routed t) (flat_map routed phases) (h 0 (omega arith)) (all-phases P phases (λ i l. h (suc i) (omega arith)))

-- the rows of a phase
phase-routes : (net : Network) (gates : List Cell) (setting : Setting) (before : List Row) (turns : List (Option Row)) → IsNetwork net → AreGates net gates → IsPartPhase net gates setting before turns → All (IsRoute net) (routed turns)
phase-routes net gates setting before turns n are phase = all-routed (IsRoute net) turns each
  where
    each : (j : ℕ) (row : Row) → j < length turns → get_or turns j None ≡ Some row → IsRoute net row
    each j row l e =
        let count = phase.count in
        let behind = before ++ routed (take j turns) in
        let lengths = gated_lengths net gates setting behind in
        let loads = gated_loads net behind in
        let cells = net.cells ++ gates in
        let inside : j < length net.commodities = omega arith in
        let is : IsPartTurn net lengths (2 * phase.least) j (Some row) = subst (λ (t : Option Row). IsPartTurn net lengths (2 * phase.least) j t) e (phase.each j inside) in
        let gate_count = are.count in
        let fits : AreLengths cells lengths = lengths-fit setting (greatest_exponent setting cells loads) cells loads (loads-long net behind ∙ omega (arith, length-append net.cells gates)) in
        let commodity = named net j is.commodity n is.at in
        record {
          commodity = is.commodity;
          at = subst (λ (k : ℕ). slice_get net.commodities k ≡ Some is.commodity) (sym is.number) is.at;
          walks = is.least.walks;
          short = least-short net lengths is.commodity.from is.commodity.to row.walk n (λ d cell here cap. fits.low d cell (front-at net.cells gates d cell here) cap) commodity.from is.least;
        }

-- the rows of all phases
pub all-routes : (net : Network) (gates : List Cell) (phases : List (List (Option Row))) (setting : ℕ → Setting) → IsNetwork net → AreGates net gates
    → ((i : ℕ) → i < length phases → IsPartPhase net gates (setting i) (turns_after phases i) (get_or phases i [])) → All (IsRoute net) (flat_map routed phases)
all-routes net gates phases setting n are each = all-phases (IsRoute net) phases (λ i l. phase-routes net gates (setting i) (turns_after phases i) (get_or phases i []) n are (each i l))

-- so of the rows of their tally

any-route : (net : Network) (turns : List Row) (row : Row) → All (IsRoute net) turns → IsTrue (list_any (same_path row) turns) → IsRoute net row
any-route net [] row all some = absurd cc
any-route net (t ∷ turns) row all some = by_test (any-route net turns row (All-tail (IsRoute net) t turns all)) (same_path row t) refl some
  where
    by_test : (IsTrue (list_any (same_path row) turns) → IsRoute net row) → (b : Bool) → same_path row t ≡ b → IsTrue (list_any (same_path row) (t ∷ turns)) → IsRoute net row
    by_test rest true e h = let p = same_parts row t e in route-same net t row (sym p.0) (sym p.1) (All-head (IsRoute net) t turns all)
    by_test rest false e h = rest (rw e at h)

pub tally-routes : (net : Network) (turns rows : List Row) → All (IsRoute net) turns → IsTally turns rows → All (IsRoute net) rows
tally-routes net turns rows all is k d l = any-route net turns (get_or rows k d) all (is.no_other k d l)

walks : (cells : List Cell) (u v : ℕ) (walk : List ℕ) → PositiveWalk cells u v walk → IsWalk cells u v walk
walks cells u v [] w = w
walks cells u v (c ∷ walk) w = (w.0, (w.1.0, w.1.1, w.1.3), walks cells w.0 v walk w.2)

pub route-joins : (net : Network) (row : Row) → IsRoute net row → Joins net row
route-joins net row is = (is.commodity, is.at, walks net.cells is.commodity.from is.commodity.to row.walk is.walks)

-- a commodity of which something is carried has a route
pub carried-route : (net : Network) (rows : List Row) (k : ℕ) → All (IsRoute net) rows → 1 ≤ carried rows k → (row : Row) × IsRoute net row × (row.commodity ≡ k)
carried-route net [] k all some = absurd (omega arith)
carried-route net (r ∷ rows) k all some = elim (cases_eq r.commodity k) [
  | inl e ↦ (r, All-head (IsRoute net) r rows all, e)
  | inr ne ↦
      let none : cond {A = ℕ} (eqb r.commodity k) r.weight 0 ≡ 0 = ap (λ (b : Bool). cond {A = ℕ} b r.weight 0) (ne_eqb r.commodity k ne) in
      let cons = sum_by-cons (λ (s : Row). cond {A = ℕ} (eqb s.commodity k) s.weight 0) r rows in
      carried-route net rows k (All-tail (IsRoute net) r rows all) (omega arith)
]

-- the loads of cells and gates, one by one

pub cell-at : (net : Network) (rows : List Row) (c : ℕ) → c < length net.cells → get_or (gated_loads net rows) c 0 ≡ load_of rows c
cell-at net rows c l =
    get_or_append_left (loads_of net rows) (map (carried rows) (range_with_len 0 (length net.commodities))) 0 c (omega (arith, length-map-range_with_len (load_of rows) 0 (length net.cells)))
    ∙ get_or-map-range_with_len (load_of rows) 0 (length net.cells) c c 0 l (omega arith)

pub gate-at : (net : Network) (rows : List Row) (k : ℕ) → k < length net.commodities → get_or (gated_loads net rows) (length net.cells + k) 0 ≡ carried rows k
gate-at net rows k l =
    ap (λ (n : ℕ). get_or (gated_loads net rows) (n + k) 0) (sym (length-map-range_with_len (load_of rows) 0 (length net.cells)))
    ∙ (get_or-append-add (loads_of net rows) (map (carried rows) (range_with_len 0 (length net.commodities))) k 0
    ∙ get_or-map-range_with_len (carried rows) 0 (length net.commodities) k k 0 l (omega arith))
