-- What is tightened stays as it is when it is tightened again.
use Rattle.std.proofs.Common.{◌≡◌, ℕ, ◌<◌, ◌≤◌, List, [], ◌∷◌, ◌++◌, Bool, true, false, cond, ltb, length, get_or, map, refl, sym, ap, subst, ◌∙◌, arith}
use Rattle.std.specs.Prelude.{◌&&◌, ◌||◌, not, All, Any, Contains, filter}
use Rattle.std.specs.List.{AllZip, flat_map, range_with_len, sum_by}
use Rattle.std.proofs.lemmas.List.{append-nil}
use Rattle.std.proofs.lemmas.List.Elements.{All-append, All-cons, All-filter, All-head, All-map, All-tail, Contains-get_or}
use Rattle.std.proofs.lemmas.List.FromFn.{length-map-range_with_len}
use Rattle.std.proofs.lemmas.Grind.{get_or_default_zero}
use Rattle.gap_fraction.specs.Fraction.{Fraction, FractionLe}
use Rattle.flow_model.specs.declared.net.Cell.{Cell}
use Rattle.flow_model.specs.declared.net.Commodity.{Commodity}
use Rattle.flow_model.specs.Groups.{group_sources, is_source}
use Rattle.flow_model.specs.Network.{Network, IsNetwork}
use Rattle.flow_paths.specs.DualRows.{Potential, DualRows}
use Rattle.flow_paths.specs.declared.certificate.Proof.{Proof}
use Rattle.flow_paths.specs.Certificate.{upper_of}
use Rattle.flow_paths.specs.Evaluation.{fraction_le}
use Rattle.flow_paths.specs.Least.{least_by}
use Rattle.cut_bound.specs.Cuts.{Side, crosses, cut_dual, cut_value, leaves, side_potential, side_row}
use Rattle.cut_bound.specs.Candidates.{candidates, front, fronts, is_crossed, node_sides, no_dual, rows_in, AreLevels, IsBestDual}
use Rattle.cut_bound.specs.Laws.{GoBothWays}
use Rattle.cut_bound.specs.Tightened.{duals, IsCertificateOf, IsMadeOf, IsTightened}
use Rattle.cut_bound.proofs.Bounding.{All-front, all-divide}
use Rattle.cut_bound.proofs.CutDuals.{at-node, cut-value}
use Rattle.cut_bound.proofs.Leasts.{le-test, least-below, least-one}
use Rattle.cut_bound.proofs.Making.{dual-same, range-below}
use Rattle.cut_bound.proofs.Tightening.{unmapped}
use Rattle.cut_bound.proofs.Unique.{levels-one, made-one}

-- ---- lists

All-back : {X : Type 0} (P : X → Type 0) (xs ys : List X) → All P (xs ++ ys) → All P ys
All-back P [] ys h = h
All-back P (x ∷ xs) ys h = All-back P xs ys (All-tail P x (xs ++ ys) h)

-- what those have that pass
unfiltered : {X : Type 0} (P : X → Type 0) (p : X → Bool) (xs : List X) → All P (filter p xs) → All (λ (x : X). p x ≡ true → P x) xs
unfiltered P p [] h = λ i d l. absurd (omega arith)
unfiltered {X} P p (x ∷ xs) h = by_test (λ k. unfiltered P p xs k) (p x) refl h
  where
    by_test : (All P (filter p xs) → All (λ (y : X). p y ≡ true → P y) xs) → (t : Bool) → p x ≡ t → All P (cond t (x ∷ filter p xs) (filter p xs)) → All (λ (y : X). p y ≡ true → P y) (x ∷ xs)
    by_test rest true is k = All-cons (λ (y : X). p y ≡ true → P y) x xs (λ e. All-head P x (filter p xs) k) (rest (All-tail P x (filter p xs) k))
    by_test rest false is k = All-cons (λ (y : X). p y ≡ true → P y) x xs (λ e. absurd (let no : true ≡ false = sym e ∙ is in cc)) (rest k)

filtered : {X : Type 0} (P : X → Type 0) (p : X → Bool) (xs : List X) → All (λ (x : X). p x ≡ true → P x) xs → All P (filter p xs)
filtered P p [] h = λ i d l. absurd (omega arith)
filtered {X} P p (x ∷ xs) h = by_test (p x) refl (filtered P p xs (All-tail (λ (y : X). p y ≡ true → P y) x xs h))
  where
    by_test : (t : Bool) → p x ≡ t → All P (filter p xs) → All P (cond t (x ∷ filter p xs) (filter p xs))
    by_test true is k = All-cons P x (filter p xs) (All-head (λ (y : X). p y ≡ true → P y) x xs h is) k
    by_test false is k = k

filter-same : {X : Type 0} (p q : X → Bool) (xs : List X) → All (λ (x : X). p x ≡ q x) xs → filter p xs ≡ filter q xs
filter-same p q [] h = refl
filter-same {X} p q (x ∷ xs) h =
    let here : p x ≡ q x = All-head (λ (y : X). p y ≡ q y) x xs h in
    let rest = filter-same p q xs (All-tail (λ (y : X). p y ≡ q y) x xs h) in
    ap (λ (b : Bool). cond b (x ∷ filter p xs) (filter p xs)) here ∙ ap (λ (ys : List X). cond (q x) (x ∷ ys) ys) rest

-- the least of a list that begins with it
first-least : (net : Network) (b : DualRows) (cs : List DualRows) → All (λ (d : DualRows). FractionLe (upper_of net b) (upper_of net d)) cs → least_by (upper_of net) no_dual (b ∷ cs) ≡ b
first-least net b [] h = refl
first-least net b (c ∷ cs) h =
    let le = least-one (upper_of net) no_dual (λ (d : DualRows). FractionLe (upper_of net b) (upper_of net d)) c cs h in
    let is : fraction_le (upper_of net b) (upper_of net (least_by (upper_of net) no_dual (c ∷ cs))) ≡ true = le-test (upper_of net b) (upper_of net (least_by (upper_of net) no_dual (c ∷ cs))) le in
    ap (λ (t : Bool). cond t b (least_by (upper_of net) no_dual (c ∷ cs))) is

-- ---- the other side of a cut, where cells go both ways

abbrev beyond : Side → Side
beyond side v = not (side v)

leaves-beyond : (a b : Bool) → (not a && not (not b)) || (true && (not b && not (not a))) ≡ (a && not b) || (true && (b && not a))
leaves-beyond true true = refl
leaves-beyond true false = refl
leaves-beyond false true = refl
leaves-beyond false false = refl

cell-beyond : (side : Side) (cell : Cell) → cell.both ≡ true → leaves (beyond side) cell ≡ leaves side cell
cell-beyond side cell is =
    ap (λ (x : Bool). (not (side cell.tail) && not (not (side cell.head))) || (x && (not (side cell.head) && not (not (side cell.tail))))) is
    ∙ leaves-beyond (side cell.tail) (side cell.head)
    ∙ ap (λ (x : Bool). (side cell.tail && not (side cell.head)) || (x && (side cell.head && not (side cell.tail)))) (sym is)

over-of : ℕ → ℕ → Fraction
over-of num den = record { num = num; den = den }

value-beyond : (net : Network) (side : Side) → GoBothWays net true → cut_value net true (beyond side) ≡ cut_value net true side
unfolding over-of
value-beyond net side go =
    let cells = filter-same (leaves (beyond side)) (leaves side) net.cells (λ i d l. cell-beyond side (get_or net.cells i d) (go refl i d l)) in
    let demands = filter-same (crosses true (beyond side)) (crosses true side) net.commodities (λ i d l. leaves-beyond (side (get_or net.commodities i d).from) (side (get_or net.commodities i d).to)) in
    let num : (cut_value net true (beyond side)).num ≡ (cut_value net true side).num = ap (sum_by (λ (cell : Cell). cell.cap)) cells in
    let den : (cut_value net true (beyond side)).den ≡ (cut_value net true side).den = ap (sum_by (λ (k : Commodity). k.amount)) demands in
    ap (λ (x : ℕ). over-of x (cut_value net true (beyond side)).den) num ∙ ap (over-of (cut_value net true side).num) den

-- ---- the fronts of a dual's rows bound no better than it

module _ (net : Network) (both : Bool) (best : DualRows) where
  -- a cut bounds no better, where some commodity crosses
  abbrev pub IsAbove : Side → Type 0
  IsAbove side = is_crossed net both side ≡ true → FractionLe (upper_of net best) (upper_of net (cut_dual net both side))

  -- so do the fronts of a row
  abbrev pub AreAbove : Potential → Type 0
  AreAbove r = (ts : List ℕ) → AreLevels r.values ts → All IsAbove (map (front r.values) ts)

  above-rows : (rows : List Potential) (levels : List (List ℕ)) → AllZip (λ (row : Potential) (ts : List ℕ). AreLevels row.values ts) rows levels
      → All IsAbove (fronts rows levels) → All AreAbove rows
  above-rows [] [] z h = λ i d l. absurd (omega arith)
  above-rows [] (t ∷ levels) z h = absurd z
  above-rows (r ∷ rows) [] z h = absurd z
  above-rows (r ∷ rows) (t ∷ levels) z h =
      All-cons AreAbove r rows
      (λ ts are. subst (λ (xs : List ℕ). All IsAbove (map (front r.values) xs)) (levels-one r.values t ts z.0 are) (All-front IsAbove (map (front r.values) t) (fronts rows levels) h))
      (above-rows rows levels z.1 (All-back IsAbove (map (front r.values) t) (fronts rows levels) h))

  above-fronts : (rows : List Potential) (levels : List (List ℕ)) → AllZip (λ (row : Potential) (ts : List ℕ). AreLevels row.values ts) rows levels
      → All AreAbove rows → All IsAbove (fronts rows levels)
  above-fronts [] [] z h = λ i d l. absurd (omega arith)
  above-fronts [] (t ∷ levels) z h = absurd z
  above-fronts (r ∷ rows) [] z h = absurd z
  above-fronts (r ∷ rows) (t ∷ levels) z h =
      All-append IsAbove (map (front r.values) t) (fronts rows levels) (All-head AreAbove r rows h t z.0) (above-fronts rows levels z.1 (All-tail AreAbove r rows h))

  above-own : (own : List DualRows) → All AreAbove (rows_in own) → All (λ (d : DualRows). All AreAbove d.potentials) own
  above-own [] h = λ i d l. absurd (omega arith)
  above-own (d ∷ own) h = All-cons (λ (x : DualRows). All AreAbove x.potentials) d own (All-front AreAbove d.potentials (rows_in own) h) (above-own own (All-back AreAbove d.potentials (rows_in own) h))

  -- the fronts of the rows of a cut are its sides
  front-above : IsNetwork net → GoBothWays net both → (side : Side) (s t : ℕ) → s < net.nodes → is_crossed net both side ≡ true → FractionLe (upper_of net best) (upper_of net (cut_dual net both side))
      → Contains (side_row net both side s).values t → Any (λ x. x < t) (side_row net both side s).values → IsAbove (front (side_row net both side s).values t)
  front-above n go side s t l crossed le (j, inside, e) low =
      by_side (side s) refl both refl
    where
      values : List ℕ
      values = (side_row net both side s).values

      count : length values ≡ net.nodes
      count = length-map-range_with_len (side_potential both side s) 0 net.nodes

      t-is : t ≡ side_potential both side s j
      t-is = sym e ∙ get_or_default_zero values j t inside ∙ at-node net both side s j (omega (arith, count, inside))

      some : 1 ≤ t
      some = omega (arith, low.4)

      at : (v : ℕ) → v < net.nodes → front values t v ≡ ltb (side_potential both side s v) t
      at v m = ap (λ (x : ℕ). ltb x t) (at-node net both side s v m)

      same-side : (v : ℕ) (b : Bool) → t ≡ 1 → side v ≡ b → ltb (cond {A = ℕ} (side v) 0 1) t ≡ side v
      same-side v true one is = rw (is, one) refl
      same-side v false one is = rw (is, one) refl

      other-side : (v : ℕ) (b : Bool) → t ≡ 1 → side v ≡ b → ltb (cond {A = ℕ} (true && side v) 1 0) t ≡ not (side v)
      other-side v true one is = rw (is, one) refl
      other-side v false one is = rw (is, one) refl

      low-one : (b : Bool) → cond {A = ℕ} b 0 1 ≤ 1
      low-one true = omega arith
      low-one false = omega arith

      high-one : (b : Bool) → cond {A = ℕ} b 1 0 ≤ 1
      high-one true = omega arith
      high-one false = omega arith

      by_side : (a : Bool) → side s ≡ a → (w : Bool) → both ≡ w → IsAbove (front values t)
      by_side true is w ways =
          let value : t ≡ cond {A = ℕ} (side j) 0 1 = t-is ∙ ap (λ (x : Bool). cond {A = ℕ} x (cond (side j) 0 1) (cond (both && side j) 1 0)) is in
          let one : t ≡ 1 = omega (arith, value, some, low-one (side j)) in
          let same : cut_dual net both (front values t) ≡ cut_dual net both side = dual-same net both (front values t) side n
          (λ v m. at v m ∙ ap (λ (x : Bool). ltb (cond {A = ℕ} x (cond (side v) 0 1) (cond (both && side v) 1 0)) t) is ∙ same-side v (side v) one refl) in
          λ c. subst (λ (d : DualRows). FractionLe (upper_of net best) (upper_of net d)) (sym same) le
      by_side false is false ways =
          let value : t ≡ 0 = t-is ∙ ap (λ (x : Bool). cond {A = ℕ} x (cond (side j) 0 1) (cond (both && side j) 1 0)) is ∙ ap (λ (x : Bool). cond {A = ℕ} (x && side j) 1 0) ways in
          absurd (omega (arith, value, some))
      by_side false is true ways =
          let value : t ≡ cond {A = ℕ} (true && side j) 1 0 = t-is ∙ ap (λ (x : Bool). cond {A = ℕ} x (cond (side j) 0 1) (cond (both && side j) 1 0)) is ∙ ap (λ (x : Bool). cond {A = ℕ} (x && side j) 1 0) ways in
          let one : t ≡ 1 = omega (arith, value, some, high-one (true && side j)) in
          let same : cut_dual net both (front values t) ≡ cut_dual net both (beyond side) = dual-same net both (front values t) (beyond side) n
          (λ v m. at v m ∙ ap (λ (x : Bool). ltb (cond {A = ℕ} x (cond (side v) 0 1) (cond (both && side v) 1 0)) t) is ∙ ap (λ (x : Bool). ltb (cond {A = ℕ} (x && side v) 1 0) t) ways ∙ other-side v (side v) one refl) in
          let go-true : GoBothWays net true = subst (GoBothWays net) ways go in
          let values-same : cut_value net both (beyond side) ≡ cut_value net both side =
          subst (λ (x : Bool). cut_value net x (beyond side) ≡ cut_value net x side) (sym ways) (value-beyond net side go-true) in
          let upper : upper_of net (cut_dual net both (front values t)) ≡ upper_of net (cut_dual net both side) =
          ap (upper_of net) same ∙ cut-value net both (beyond side) n ∙ values-same ∙ sym (cut-value net both side n) in
          λ c. subst (λ (f : Fraction). FractionLe (upper_of net best) f) (sym upper) le

  cut-above : IsNetwork net → GoBothWays net both → (side : Side) → is_crossed net both side ≡ true → FractionLe (upper_of net best) (upper_of net (cut_dual net both side))
      → All AreAbove (cut_dual net both side).potentials
  cut-above n go side crossed le =
      All-map AreAbove (side_row net both side) (group_sources net) (λ i d l.
      let s = get_or (group_sources net) i d in
      let inside : s < net.nodes = All-filter (is_source net.commodities) (λ v. v < net.nodes) (range_with_len 0 net.nodes) (range-below net.nodes) i d l in
      λ ts are. All-map IsAbove (front (side_row net both side s).values) ts (λ k e m.
      let level = (are.each (get_or ts k e)).0 (Contains-get_or ts k e m) in
      front-above n go side s (get_or ts k e) inside crossed le level.0 level.1))

-- ---- again

divides-of : (net : Network) (p : Proof) → IsCertificateOf net p → 1 ≤ (upper_of net p.dual).den
divides-of net p g = let some = g.valid.distance.divides in omega (arith, some)

stays-best : (net : Network) (both : Bool) (own : List DualRows) (best again : DualRows) → IsNetwork net → GoBothWays net both → 1 ≤ length own
    → All (λ (d : DualRows). 1 ≤ (upper_of net d).den) own → IsBestDual net both own best → IsBestDual net both (best ∷ []) again → again ≡ best
stays-best net both own best again n go some divide is next =
    next.best_is ∙ first-least net best (map (cut_dual net both) (filter (is_crossed net both) (nodes ++ fronts (rows_in (best ∷ [])) next.levels)))
    (All-map (λ (d : DualRows). FractionLe (upper_of net best) (upper_of net d)) (cut_dual net both) (filter (is_crossed net both) (nodes ++ fronts (rows_in (best ∷ [])) next.levels))
    (filtered (λ (side : Side). FractionLe (upper_of net best) (upper_of net (cut_dual net both side))) (is_crossed net both) (nodes ++ fronts (rows_in (best ∷ [])) next.levels)
    (All-append (IsAbove net both best) nodes (fronts (rows_in (best ∷ [])) next.levels) above-nodes
    (above-fronts net both best (rows_in (best ∷ [])) next.levels next.are_levels (subst (All (AreAbove net both best)) (sym (append-nil best.potentials)) above-best)))))
  where
    nodes : List Side
    nodes = flat_map (node_sides both) (range_with_len 0 net.nodes)

    sides : List Side
    sides = nodes ++ fronts (rows_in own) is.levels

    below : All (λ (d : DualRows). FractionLe (upper_of net best) (upper_of net d)) (candidates net both own is.levels)
    below = subst (λ (b : DualRows). All (λ (d : DualRows). FractionLe (upper_of net b) (upper_of net d)) (candidates net both own is.levels)) (sym is.best_is)
        (least-below (upper_of net) no_dual (candidates net both own is.levels) (all-divide net both own sides n divide))

    above-all : All (IsAbove net both best) sides
    above-all = unfiltered (λ (side : Side). FractionLe (upper_of net best) (upper_of net (cut_dual net both side))) (is_crossed net both) sides
        (unmapped (λ (d : DualRows). FractionLe (upper_of net best) (upper_of net d)) (cut_dual net both) (filter (is_crossed net both) sides)
        (All-back (λ (d : DualRows). FractionLe (upper_of net best) (upper_of net d)) own (map (cut_dual net both) (filter (is_crossed net both) sides)) below))

    above-nodes : All (IsAbove net both best) nodes
    above-nodes = All-front (IsAbove net both best) nodes (fronts (rows_in own) is.levels) above-all

    own-rows : All (λ (d : DualRows). All (AreAbove net both best) d.potentials) own
    own-rows = above-own net both best own (above-rows net both best (rows_in own) is.levels is.are_levels (All-back (IsAbove net both best) nodes (fronts (rows_in own) is.levels) above-all))

    cut-rows : All (λ (d : DualRows). All (AreAbove net both best) d.potentials) (map (cut_dual net both) (filter (is_crossed net both) sides))
    cut-rows = All-map (λ (d : DualRows). All (AreAbove net both best) d.potentials) (cut_dual net both) (filter (is_crossed net both) sides)
        (filtered (λ (side : Side). All (AreAbove net both best) (cut_dual net both side).potentials) (is_crossed net both) sides
        (λ i d l. λ c. cut-above net both best n go (get_or sides i d) c (above-all i d l c)))

    one-of : (own : List DualRows) (cuts : List DualRows) → 1 ≤ length own → All (λ (d : DualRows). All (AreAbove net both best) d.potentials) own
        → All (λ (d : DualRows). All (AreAbove net both best) d.potentials) cuts → All (AreAbove net both best) (least_by (upper_of net) no_dual (own ++ cuts)).potentials
    one-of [] cuts some a b = absurd (omega arith)
    one-of (d ∷ own) cuts some a b = least-one (upper_of net) no_dual (λ (x : DualRows). All (AreAbove net both best) x.potentials) d (own ++ cuts)
        (All-append (λ (x : DualRows). All (AreAbove net both best) x.potentials) (d ∷ own) cuts a b)

    above-best : All (AreAbove net both best) best.potentials
    above-best = subst (λ (d : DualRows). All (AreAbove net both best) d.potentials) (sym is.best_is)
        (one-of own (map (cut_dual net both) (filter (is_crossed net both) sides)) some own-rows cut-rows)

pub stays : (net : Network) (both : Bool) (first : Proof) (others : List Proof) (best again : Proof) → IsNetwork net → GoBothWays net both → All (IsCertificateOf net) (first ∷ others)
    → IsTightened net both first others best → IsTightened net both best [] again → again ≡ best
stays net both first others best again n go h t u =
    made-one net best.gap best.routing best.dual again best made
    (record { gap = refl; routing = refl; dual = refl; printed = t.made.printed; verdict = t.made.verdict; fits = t.made.fits })
  where
    dens : All (λ (d : DualRows). 1 ≤ (upper_of net d).den) (duals (first ∷ others))
    dens = All-map (λ (d : DualRows). 1 ≤ (upper_of net d).den) (λ (p : Proof). p.dual) (first ∷ others) (λ i d l. divides-of net (get_or (first ∷ others) i d) (h i d l))

    first-is : IsBestDual net both (duals (first ∷ others)) best.dual
    first-is = subst (IsBestDual net both (duals (first ∷ others))) (sym t.made.dual) t.best_dual

    dual-is : u.dual ≡ best.dual
    dual-is = stays-best net both (duals (first ∷ others)) best.dual u.dual n go (omega arith) dens first-is u.best_dual

    made : IsMadeOf net best.gap best.routing best.dual again
    made = subst (λ (d : DualRows). IsMadeOf net best.gap best.routing d again) dual-is u.made
