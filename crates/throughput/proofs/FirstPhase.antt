-- The first phase routes something.
use Rattle.std.proofs.Common.{◌≡◌, ℕ, zero, suc, ◌+◌, ◌*◌, ◌<◌, ◌≤◌, Bool, eqb, cond, List, [], ◌∷◌, ◌++◌, length, get_or, take, map, Option, Some, None, sym, ap, subst, ◌∙◌, arith, refl, eq-eqb}
use Rattle.std.specs.Prelude.{flat_map}
use Rattle.std.specs.List.{range_with_len}
use Rattle.std.proofs.lemmas.List.{length-append}
use Rattle.std.proofs.lemmas.List.FromFn.{length-map-range_with_len}
use Rattle.std.proofs.lemmas.List.Sums.{sum_by-append, sum_by-cons}
use Rattle.std.proofs.lemmas.Option.{slice_get_within, get_or_from_slice_get}
use Rattle.flow_model.specs.declared.net.Cell.{Cell}
use Rattle.flow_model.specs.declared.net.Commodity.{Commodity}
use Rattle.flow_model.specs.Network.{Network, IsNetwork, IsCommodity}
use Rattle.flow_model.specs.Routing.{Row, carried, load_of}
use Rattle.flow_model.specs.Lengths.{greatest_exponent, least_capacity, length_at, lengths_at}
use Rattle.flow_model.proofs.Duality.{no_commodity}
use Rattle.flow_paths.specs.Evaluation.{loads_of}
use Rattle.route_tally.specs.Asked.{first_setting}
use Rattle.gates.specs.Gates.{gated_loads, gated_lengths, IsPrice}
use Rattle.throughput.specs.Run.{IsPartPhase, IsPartTurn, routed, turns_after}

-- in the first phase loads have no effect

greatest-first : (step : ℕ) (cells : List Cell) (xs ys : List ℕ) → length xs ≡ length ys → greatest_exponent (first_setting step) cells xs ≡ greatest_exponent (first_setting step) cells ys
greatest-first step [] xs ys e = refl
greatest-first step (cell ∷ cells) [] [] e = refl
greatest-first step (cell ∷ cells) [] (y ∷ ys) e = absurd (omega arith)
greatest-first step (cell ∷ cells) (x ∷ xs) [] e = absurd (omega arith)
greatest-first step (cell ∷ cells) (x ∷ xs) (y ∷ ys) e = let rest = greatest-first step cells xs ys (omega arith) in omega (arith, rest)

lengths-first : (step top least : ℕ) (cells : List Cell) (xs ys : List ℕ) → length xs ≡ length ys → lengths_at (first_setting step) top least cells xs ≡ lengths_at (first_setting step) top least cells ys
lengths-first step top least [] xs ys e = refl
lengths-first step top least (cell ∷ cells) [] [] e = refl
lengths-first step top least (cell ∷ cells) [] (y ∷ ys) e = absurd (omega arith)
lengths-first step top least (cell ∷ cells) (x ∷ xs) [] e = absurd (omega arith)
lengths-first step top least (cell ∷ cells) (x ∷ xs) (y ∷ ys) e = ap (λ (zs : List ℕ). length_at (first_setting step) top least cell x ∷ zs) (lengths-first step top least cells xs ys (omega arith))

pub loads-long : (net : Network) (rows : List Row) → length (gated_loads net rows) ≡ length net.cells + length net.commodities
loads-long net rows =
    length-append (loads_of net rows) (map (carried rows) (range_with_len 0 (length net.commodities)))
    ∙ omega (arith, length-map-range_with_len (load_of rows) 0 (length net.cells), length-map-range_with_len (carried rows) 0 (length net.commodities))

pub gated-first : (net : Network) (gates : List Cell) (step : ℕ) (rows others : List Row) → gated_lengths net gates (first_setting step) rows ≡ gated_lengths net gates (first_setting step) others
gated-first net gates step rows others =
    let cells = net.cells ++ gates in
    let s = first_setting step in
    let same : length (gated_loads net rows) ≡ length (gated_loads net others) = loads-long net rows ∙ sym (loads-long net others) in
    ap (λ (t : ℕ). lengths_at s t (least_capacity cells) cells (gated_loads net rows)) (greatest-first step cells (gated_loads net rows) (gated_loads net others) same)
    ∙ lengths-first step (greatest_exponent s cells (gated_loads net others)) (least_capacity cells) cells (gated_loads net rows) (gated_loads net others) same

-- what a turn routes is carried
turn-carried : (turns : List (Option Row)) (k : ℕ) (row : Row) → get_or turns k None ≡ Some row → row.weight ≤ carried (routed turns) row.commodity
turn-carried [] k row e = absurd (none_some e)
  where
    none_some : {X : Type 0} {x : X} → None ≡ Some x → ⊥
    none_some h = cc
turn-carried (None ∷ turns) zero row e = absurd (none_some e)
  where
    none_some : {X : Type 0} {x : X} → None ≡ Some x → ⊥
    none_some h = cc
turn-carried (Some r ∷ turns) zero row e =
    let same : r ≡ row = cc in
    let here : cond {A = ℕ} (eqb r.commodity row.commodity) r.weight 0 ≡ r.weight = ap (λ (b : Bool). cond {A = ℕ} b r.weight 0) (eq-eqb r.commodity row.commodity (ap (λ (x : Row). x.commodity) same)) in
    let weight : r.weight ≡ row.weight = ap (λ (x : Row). x.weight) same in
    omega (arith, sum_by-cons (λ (s : Row). cond {A = ℕ} (eqb s.commodity row.commodity) s.weight 0) r (routed turns))
turn-carried (None ∷ turns) (suc k) row e = turn-carried turns k row e
turn-carried (Some r ∷ turns) (suc k) row e =
    let rest = turn-carried turns k row e in
    omega (arith, rest, sum_by-cons (λ (s : Row). cond {A = ℕ} (eqb s.commodity row.commodity) s.weight 0) r (routed turns))

-- some commodity is carried in the first phase
pub carried-first : (net : Network) (gates : List Cell) (step : ℕ) (turns : List (Option Row)) → IsNetwork net → IsPartPhase net gates (first_setting step) [] turns → (k : ℕ) × (k < length net.commodities) × (1 ≤ carried (routed turns) k)
carried-first net gates step turns n phase = by_turn (get_or turns k None) refl (phase.each k inside)
  where
    k : ℕ
    k = phase.at_start.some.0

    p : IsPrice net (gated_lengths net gates (first_setting step) []) k phase.least
    p = phase.at_start.some.1

    inside : k < length net.commodities
    inside = slice_get_within net.commodities k p.commodity p.at

    by_turn : (t : Option Row) → get_or turns k None ≡ t → IsPartTurn net (gated_lengths net gates (first_setting step) ([] ++ routed (take k turns))) (2 * phase.least) k t
        → (k : ℕ) × (k < length net.commodities) × (1 ≤ carried (routed turns) k)
    by_turn None e is = absurd (let far = is phase.least (subst (λ (xs : List ℕ). IsPrice net xs k phase.least) (gated-first net gates step [] ([] ++ routed (take k turns))) p) in omega arith)
    by_turn (Some row) e is =
        let named : IsCommodity net.nodes is.commodity = subst (λ (x : Commodity). IsCommodity net.nodes x) (get_or_from_slice_get net.commodities k is.commodity no_commodity is.at) (n.commodities k no_commodity inside) in
        let some = named.positive in
        let weight = is.whole in
        (k, inside, subst (λ (j : ℕ). 1 ≤ carried (routed turns) j) is.number (omega (arith, turn-carried turns k row e)))

-- so it is after each later phase
pub first-loads : (net : Network) (gates : List Cell) (step n : ℕ) (phases : List (List (Option Row))) → IsNetwork net → 1 ≤ length phases → IsPartPhase net gates (first_setting step) [] (get_or phases 0 []) → 1 ≤ n
    → (k : ℕ) × (k < length net.commodities) × (1 ≤ carried (turns_after phases n) k)
first-loads net gates step n [] net_is long phase some = absurd (omega arith)
first-loads net gates step zero (turns ∷ phases) net_is long phase some = absurd (omega arith)
first-loads net gates step (suc n) (turns ∷ phases) net_is long phase some =
    let c = carried-first net gates step turns net_is phase in
    (c.0, c.1, omega (arith, c.2, sum_by-append (λ (s : Row). cond {A = ℕ} (eqb s.commodity c.0) s.weight 0) (routed turns) (flat_map routed (take n phases))))
