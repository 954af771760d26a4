-- The best of certificates is valid, no worse than any of them, and the only one.
use Rattle.std.proofs.Common.{◌≡◌, ◌≢◌, ℕ, zero, suc, ◌+◌, ◌<◌, ◌≤◌, List, [], ◌∷◌, ◌++◌, Bool, true, false, cond, length, get_or, map, refl, sym, ap, subst, ◌∙◌, arith}
use Rattle.std.specs.Prelude.{All, IfSome, Option, Some, None, filter, option_to_list, slice_get}
use Rattle.std.specs.Option.{option_map}
use Rattle.std.specs.List.{flat_map, range_with_len}
use Rattle.std.proofs.lemmas.List.{get_or-map, length-map}
use Rattle.std.proofs.lemmas.List.Elements.{All-append, All-cons, All-filter, All-head, All-map, All-tail, All-weaker, filter_passes}
use Rattle.std.proofs.lemmas.List.FromFn.{length-map-range_with_len}
use Rattle.std.proofs.lemmas.Bool.{ltb-true}
use Rattle.std.proofs.lemmas.Option.{same_Some}
use Rattle.gap_fraction.specs.Fraction.{FractionLe}
use Rattle.flow_model.specs.declared.net.Cell.{Cell}
use Rattle.flow_model.specs.Groups.{group_sources, is_source}
use Rattle.flow_model.specs.Network.{Network, IsNetwork}
use Rattle.flow_paths.specs.DualRows.{Length, DualRows}
use Rattle.flow_paths.specs.declared.certificate.Routing.{Routing}
use Rattle.flow_paths.specs.declared.certificate.Proof.{Proof}
use Rattle.flow_paths.specs.Certificate.{lower_of, upper_of, DistanceDivides, RowsArePotentials, IsPotentialOf, IsRoutingOf, IsValidRouting}
use Rattle.flow_paths.specs.Evaluation.{fraction_le}
use Rattle.flow_paths.specs.Least.{least_by}
use Rattle.cut_bound.specs.Cuts.{Side, cut_value, cut_dual, length_rows, leaves, side_lengths, side_potential, side_row}
use Rattle.cut_bound.specs.Candidates.{fronts, is_crossed, node_sides, no_dual, rows_in, IsBestDual}
use Rattle.cut_bound.specs.Laws.{GoBothWays, IsBetter, IsFirstCandidate}
use Rattle.cut_bound.specs.Least.{IsFirstGreatest}
use Rattle.cut_bound.specs.Search.{IsDualOf}
use Rattle.cut_bound.specs.Tightened.{duals, greatest_routing, routings, HasFraction, IsCertificateOf, IsMadeOf, IsTightened}
use Rattle.cut_bound.proofs.Leasts.{le-test, le-trans, least-one, test-gt, test-le}
use Rattle.cut_bound.proofs.Bounding.{best-first, best-not-above}
use Rattle.cut_bound.proofs.CutDuals.{cut-valid}
use Rattle.cut_bound.proofs.Making.{range-below}

-- what all of a mapped list have
pub unmapped : {X Y : Type 0} (P : X → Type 0) (f : Y → X) (ys : List Y) → All P (map f ys) → All (λ (y : Y). P (f y)) ys
unmapped P f ys h = λ i d l. subst P (get_or-map f ys i d (f d) l) (h i (f d) (omega (arith, length-map ys f)))

-- ---- the best dual

lengths-named : (a n : ℕ) (xs : List ℕ) → a + length xs ≤ n → All (λ (r : Length). r.cell < n) (length_rows a xs)
lengths-named a n [] le = λ i d l. absurd (omega arith)
lengths-named a n (x ∷ xs) le =
    All-cons (λ (r : Length). r.cell < n) (record { cell = a; value = x }) (length_rows (a + 1) xs) (omega arith) (lengths-named (a + 1) n xs (omega arith))

-- the dual of a cut that some commodity crosses names what the network has
cut-is-dual : (net : Network) (both : Bool) (side : Side) → IsNetwork net → GoBothWays net both → is_crossed net both side ≡ true → IsDualOf net (cut_dual net both side)
cut-is-dual net both side n go is =
    let some : 1 ≤ (cut_value net both side).den = ltb-true 0 (cut_value net both side).den is in
    let v = cut-valid net both side n go (λ e. absurd (omega arith)) in
    let count = length-map net.cells (λ (cell : Cell). cond {A = ℕ} (leaves side cell) 1 0) in
    record {
      cells = v.cells;
      sources = v.sources;
      distance = v.distance;
      numbers = lengths-named 0 (length net.cells) (side_lengths net side) (omega (arith, count));
      rows = All-map (IsPotentialOf net) (side_row net both side) (group_sources net) (λ i d l. record {
        node = All-filter (is_source net.commodities) (λ v. v < net.nodes) (range_with_len 0 net.nodes) (range-below net.nodes) i d l;
        values = length-map-range_with_len (side_potential both side (get_or (group_sources net) i d)) 0 net.nodes;
      });
    }

-- the dual of a valid certificate
pub record IsSound (net : Network) (d : DualRows) : Type 0 where
  pub dual : IsDualOf net d
  pub potentials : RowsArePotentials net d

pub least-has : (net : Network) (P : DualRows → Type 0) (own cuts : List DualRows) → 1 ≤ length own → All P own → All P cuts → P (least_by (upper_of net) no_dual (own ++ cuts))
least-has net P [] cuts some a b = absurd (omega arith)
least-has net P (d ∷ own) cuts some a b = least-one (upper_of net) no_dual P d (own ++ cuts) (All-append P (d ∷ own) cuts a b)

pub best-sound : (net : Network) (both : Bool) (own : List DualRows) (best : DualRows) → IsNetwork net → GoBothWays net both → 1 ≤ length own
    → All (IsSound net) own → IsBestDual net both own best → IsSound net best
best-sound net both own best n go some h is =
    subst (IsSound net) (sym is.best_is) (least-has net (IsSound net) own (map (cut_dual net both) (filter (is_crossed net both) sides)) some h cuts)
  where
    sides : List Side
    sides = flat_map (node_sides both) (range_with_len 0 net.nodes) ++ fronts (rows_in own) is.levels

    cuts : All (IsSound net) (map (cut_dual net both) (filter (is_crossed net both) sides))
    cuts = All-map (IsSound net) (cut_dual net both) (filter (is_crossed net both) sides)
        (All-weaker (λ (side : Side). is_crossed net both side ≡ true) (λ (side : Side). IsSound net (cut_dual net both side))
        (λ side e. let some : 1 ≤ (cut_value net both side).den = ltb-true 0 (cut_value net both side).den e in
        record { dual = cut-is-dual net both side n go e; potentials = (cut-valid net both side n go (λ z. absurd (omega arith))).potentials })
        (filter (is_crossed net both) sides) (filter_passes (is_crossed net both) sides))

-- ---- the greatest routing

pub greatest-has : (P : Routing → Type 0) (r : Routing) (qs : List Routing) → P r → All P qs → P (greatest_routing r qs)
greatest-has P r [] a b = a
greatest-has P r (q ∷ qs) a b =
    by_test (fraction_le (lower_of (greatest_routing q qs)) (lower_of r)) (greatest-has P q qs (All-head P q qs b) (All-tail P q qs b))
  where
    by_test : (t : Bool) → P (greatest_routing q qs) → P (cond t r (greatest_routing q qs))
    by_test true rest = a
    by_test false rest = rest

-- it carries no less than any
pub greatest-above : (r : Routing) (qs : List Routing) → All (λ (q : Routing). 1 ≤ (lower_of q).den) (r ∷ qs)
    → All (λ (q : Routing). FractionLe (lower_of q) (lower_of (greatest_routing r qs))) (r ∷ qs)
greatest-above r [] h = All-cons (λ (q : Routing). FractionLe (lower_of q) (lower_of r)) r [] (omega arith) (λ i d l. absurd (omega arith))
greatest-above r (q ∷ qs) h =
    let rest = All-tail (λ (q : Routing). 1 ≤ (lower_of q).den) r (q ∷ qs) h in
    let low : 1 ≤ (lower_of (greatest_routing q qs)).den = greatest-has (λ (q : Routing). 1 ≤ (lower_of q).den) q qs (All-head (λ (q : Routing). 1 ≤ (lower_of q).den) q qs rest) (All-tail (λ (q : Routing). 1 ≤ (lower_of q).den) q qs rest) in
    by_test (fraction_le (lower_of (greatest_routing q qs)) (lower_of r)) refl low (greatest-above q qs rest)
  where
    by_test : (t : Bool) → fraction_le (lower_of (greatest_routing q qs)) (lower_of r) ≡ t → 1 ≤ (lower_of (greatest_routing q qs)).den
        → All (λ (x : Routing). FractionLe (lower_of x) (lower_of (greatest_routing q qs))) (q ∷ qs)
        → All (λ (x : Routing). FractionLe (lower_of x) (lower_of (cond t r (greatest_routing q qs)))) (r ∷ q ∷ qs)
    by_test true is low above = All-cons (λ (x : Routing). FractionLe (lower_of x) (lower_of r)) r (q ∷ qs) (omega arith)
        (All-weaker (λ (x : Routing). FractionLe (lower_of x) (lower_of (greatest_routing q qs))) (λ (x : Routing). FractionLe (lower_of x) (lower_of r))
        (λ x le. le-trans (lower_of x) (lower_of (greatest_routing q qs)) (lower_of r) low le (test-le (lower_of (greatest_routing q qs)) (lower_of r) is)) (q ∷ qs) above)
    by_test false is low above = All-cons (λ (x : Routing). FractionLe (lower_of x) (lower_of (greatest_routing q qs))) r (q ∷ qs)
        (test-gt (lower_of (greatest_routing q qs)) (lower_of r) is) above

-- it is the first of those that carry the greatest fraction
greatest-first : (r : Routing) (qs : List Routing) → All (λ (q : Routing). 1 ≤ (lower_of q).den) (r ∷ qs) → IsFirstGreatest lower_of (r ∷ qs) (greatest_routing r qs)
greatest-first r [] h = record { place = 0; here = refl; greatest = greatest-above r [] h; before = λ i q l. absurd (omega arith) }
greatest-first r (q ∷ qs) h =
    by_test (fraction_le (lower_of (greatest_routing q qs)) (lower_of r)) refl (greatest-first q qs (All-tail (λ (x : Routing). 1 ≤ (lower_of x).den) r (q ∷ qs) h)) (greatest-above r (q ∷ qs) h)
  where
    below : fraction_le (lower_of (greatest_routing q qs)) (lower_of r) ≡ false → (x : Routing) → Some r ≡ Some x → FractionLe (lower_of (greatest_routing q qs)) (lower_of x) → ⊥
    below is x at le =
        let same : r ≡ x = same_Some r x at in
        let test : true ≡ false = sym (ap (λ (z : Routing). fraction_le (lower_of (greatest_routing q qs)) (lower_of z)) same ∙ le-test (lower_of (greatest_routing q qs)) (lower_of x) le) ∙ is in
        cc

    by_test : (t : Bool) → fraction_le (lower_of (greatest_routing q qs)) (lower_of r) ≡ t → IsFirstGreatest lower_of (q ∷ qs) (greatest_routing q qs)
        → All (λ (x : Routing). FractionLe (lower_of x) (lower_of (cond t r (greatest_routing q qs)))) (r ∷ q ∷ qs) → IsFirstGreatest lower_of (r ∷ q ∷ qs) (cond t r (greatest_routing q qs))
    by_test true is rest all = record { place = 0; here = refl; greatest = all; before = λ i x l. absurd (omega arith) }
    by_test false is rest all = record { place = suc rest.place; here = rest.here; greatest = all; before = earlier }
      where
        earlier : (i : ℕ) (x : Routing) → i < suc rest.place → slice_get (r ∷ q ∷ qs) i ≡ Some x → FractionLe (lower_of (greatest_routing q qs)) (lower_of x) → ⊥
        earlier zero x l at = below is x at
        earlier (suc i) x l at = rest.before i x (omega arith) at

-- ---- of one or two certificates

pub given-routing : (P : Routing → Type 0) (first : Proof) (second : Option Proof) → P first.routing → IfSome second (λ (p : Proof). P p.routing)
    → P (greatest_routing first.routing (option_to_list (option_map (λ (p : Proof). p.routing) second)))
given-routing P first None a b = a
given-routing P first (Some p) a b = greatest-has P first.routing (p.routing ∷ []) a (All-cons P p.routing [] b (λ i d l. absurd (omega arith)))

pub some-given : (net : Network) (P : Routing → Type 0) → ((p : Proof) → IsCertificateOf net p → P p.routing) → (second : Option Proof) → IfSome second (IsCertificateOf net) → IfSome second (λ (p : Proof). P p.routing)
some-given net P f None h = tt
some-given net P f (Some p) h = f p h

pub given-sound : (net : Network) (p : Proof) → IsCertificateOf net p → IsSound net p.dual
given-sound net p g = record {
  dual = record { cells = g.valid.lengths; sources = g.valid.sources; distance = g.valid.distance; numbers = g.fits.lengths; rows = g.fits.potentials };
  potentials = g.valid.potentials;
}

pub given-all : (net : Network) (first : Proof) (second : Option Proof) → IsCertificateOf net first → IfSome second (IsCertificateOf net) → All (IsCertificateOf net) (first ∷ option_to_list second)
given-all net first None a b = All-cons (IsCertificateOf net) first [] a (λ i d l. absurd (omega arith))
given-all net first (Some p) a b = All-cons (IsCertificateOf net) first (p ∷ []) a (All-cons (IsCertificateOf net) p [] b (λ i d l. absurd (omega arith)))

sound-all : (net : Network) (ps : List Proof) → All (IsCertificateOf net) ps → All (IsSound net) (duals ps)
sound-all net ps h = All-map (IsSound net) (λ (p : Proof). p.dual) ps (All-weaker (IsCertificateOf net) (λ (p : Proof). IsSound net p.dual) (λ p g. given-sound net p g) ps h)

pub has-fraction : (net : Network) (r : Routing) → IsRoutingOf net r → IsValidRouting net r → HasFraction r
has-fraction net r a b = record { phases = a.phases; scale_cap = a.scale_cap; scale_load = a.scale_load; divides = b.scale }

pub best-of-given : (net : Network) (both : Bool) (ps : List Proof) (p : Proof) (dual : DualRows) → IsNetwork net → GoBothWays net both → All (IsCertificateOf net) (p ∷ ps)
    → IsBestDual net both (duals (p ∷ ps)) dual → IsSound net dual
best-of-given net both ps p dual n go h is = best-sound net both (duals (p ∷ ps)) dual n go (omega arith) (sound-all net (p ∷ ps) h) is

routings-are : (second : Option Proof) → option_to_list (option_map (λ (p : Proof). p.routing) second) ≡ routings (option_to_list second)
routings-are None = refl
routings-are (Some p) = refl

pub tightened-is : (net : Network) (both : Bool) (first : Proof) (second : Option Proof) (r : Routing) (dual : DualRows) (p : Proof)
    → r ≡ greatest_routing first.routing (option_to_list (option_map (λ (p : Proof). p.routing) second)) → IsBestDual net both (duals (first ∷ option_to_list second)) dual
    → IsMadeOf net first.gap r dual p → IsTightened net both first (option_to_list second) p
tightened-is net both first second r dual p e best made = record {
  dual = dual;
  best_dual = best;
  made = subst (λ (x : Routing). IsMadeOf net first.gap x dual p) (e ∙ ap (greatest_routing first.routing) (routings-are second)) made;
}

-- ---- what is tightened

pub tightened-best : (net : Network) (both : Bool) (first : Proof) (others : List Proof) (best : Proof) → IsNetwork net → GoBothWays net both
    → All (IsCertificateOf net) (first ∷ others) → IsTightened net both first others best → IsBetter net first others best
tightened-best net both first others best n go h t = record {
  given = record {
    fits = t.made.fits;
    valid = record { routing = valid; lengths = sound.dual.cells; sources = sound.dual.sources; potentials = sound.potentials; distance = sound.dual.distance; printed = t.made.printed; verdict = t.made.verdict };
  };
  no_worse = λ i d l. record { lower = lower i d l; upper = upper i d l };
}
  where
    sound : IsSound net best.dual
    sound = subst (IsSound net) (sym t.made.dual) (best-of-given net both others first t.dual n go h t.best_dual)

    rows : All (λ (p : Proof). IsValidRouting net p.routing) (first ∷ others)
    rows = All-weaker (IsCertificateOf net) (λ (p : Proof). IsValidRouting net p.routing) (λ p g. g.valid.routing) (first ∷ others) h

    of-routings : (P : Routing → Type 0) → All (λ (p : Proof). P p.routing) (first ∷ others) → All P (first.routing ∷ routings others)
    of-routings P q = All-map P (λ (p : Proof). p.routing) (first ∷ others) q

    valid : IsValidRouting net best.routing
    valid = let all = of-routings (IsValidRouting net) rows in subst (IsValidRouting net) (sym t.made.routing)
        (greatest-has (IsValidRouting net) first.routing (routings others) (All-head (IsValidRouting net) first.routing (routings others) all) (All-tail (IsValidRouting net) first.routing (routings others) all))

    dens : All (λ (r : Routing). 1 ≤ (lower_of r).den) (first.routing ∷ routings others)
    dens = of-routings (λ (r : Routing). 1 ≤ (lower_of r).den) (All-weaker (λ (p : Proof). IsValidRouting net p.routing) (λ (p : Proof). 1 ≤ (lower_of p.routing).den) (λ p v. let some = v.scale in positive p.routing.scale_load some) (first ∷ others) rows)
      where
        positive : (m : ℕ) → m ≢ 0 → 1 ≤ m
        positive m h = omega arith

    lower : All (λ (p : Proof). FractionLe (lower_of p.routing) (lower_of best.routing)) (first ∷ others)
    lower = back (subst (λ (x : Routing). All (λ (q : Routing). FractionLe (lower_of q) (lower_of x)) (first.routing ∷ routings others)) (sym t.made.routing) (greatest-above first.routing (routings others) dens))
      where
        back : All (λ (q : Routing). FractionLe (lower_of q) (lower_of best.routing)) (map (λ (p : Proof). p.routing) (first ∷ others)) → All (λ (p : Proof). FractionLe (lower_of p.routing) (lower_of best.routing)) (first ∷ others)
        back q = unmapped (λ (q : Routing). FractionLe (lower_of q) (lower_of best.routing)) (λ (p : Proof). p.routing) (first ∷ others) q

    upper : All (λ (p : Proof). FractionLe (upper_of net best.dual) (upper_of net p.dual)) (first ∷ others)
    upper =
        let divide = All-map (λ (d : DualRows). DistanceDivides net d) (λ (p : Proof). p.dual) (first ∷ others) (All-weaker (IsCertificateOf net) (λ (p : Proof). DistanceDivides net p.dual) (λ p g. g.valid.distance) (first ∷ others) h) in
        let below = best-not-above net both (duals (first ∷ others)) t.dual n divide t.best_dual in
        unmapped (λ (d : DualRows). FractionLe (upper_of net best.dual) (upper_of net d)) (λ (p : Proof). p.dual) (first ∷ others)
        (subst (λ (b : DualRows). All (λ (d : DualRows). FractionLe (upper_of net b) (upper_of net d)) (duals (first ∷ others))) (sym t.made.dual) below)

-- the dual of what is tightened is the first of the least of the candidates
pub tightened-first : (net : Network) (both : Bool) (first : Proof) (others : List Proof) (best : Proof) → IsNetwork net → All (IsCertificateOf net) (first ∷ others) → IsTightened net both first others best
    → IsFirstCandidate net both (duals (first ∷ others)) best.dual
tightened-first net both first others best n h t =
    let divide = All-map (λ (d : DualRows). DistanceDivides net d) (λ (p : Proof). p.dual) (first ∷ others) (All-weaker (IsCertificateOf net) (λ (p : Proof). DistanceDivides net p.dual) (λ p g. g.valid.distance) (first ∷ others) h) in
    subst (λ (d : DualRows). IsFirstCandidate net both (duals (first ∷ others)) d) (sym t.made.dual) (best-first net both (duals (first ∷ others)) t.dual n (omega arith) divide t.best_dual)

-- the routings of valid certificates divide
routings-divide : (net : Network) (ps : List Proof) → All (IsCertificateOf net) ps → All (λ (r : Routing). 1 ≤ (lower_of r).den) (routings ps)
routings-divide net ps h = All-map (λ (r : Routing). 1 ≤ (lower_of r).den) (λ (p : Proof). p.routing) ps
    (All-weaker (IsCertificateOf net) (λ (p : Proof). 1 ≤ (lower_of p.routing).den) (λ p g. positive p.routing.scale_load g.valid.routing.scale) ps h)
  where
    positive : (m : ℕ) → m ≢ 0 → 1 ≤ m
    positive m h = omega arith

-- its routing is the first of those that carry the greatest fraction
pub tightened-routing : (net : Network) (both : Bool) (first : Proof) (others : List Proof) (best : Proof) → All (IsCertificateOf net) (first ∷ others) → IsTightened net both first others best
    → IsFirstGreatest lower_of (routings (first ∷ others)) best.routing
tightened-routing net both first others best h t =
    subst (IsFirstGreatest lower_of (routings (first ∷ others))) (sym t.made.routing) (greatest-first first.routing (routings others) (routings-divide net (first ∷ others) h))
