-- The best so far, with one cut more, and with all.
use Rattle.std.proofs.Common.{◌≡◌, ◌≢◌, ℕ, zero, suc, ◌+◌, ◌<◌, ◌≤◌, Bool, true, false, cond, ltb, List, [], ◌∷◌, ◌++◌, length, get_or, map, take, refl, sym, ap, subst, ◌∙◌, append_assoc, arith}
use Rattle.std.specs.Prelude.{All}
use Rattle.std.specs.List.{filter, flat_map, fold, range_with_len, sum_by, AllZip}
use Rattle.std.proofs.lemmas.List.{append-nil, length-append, length-take, map-append, take_all, take_more}
use Rattle.std.proofs.lemmas.List.Elements.{All-append, All-cons, All-head, All-map, All-tail, All-take, All-weaker, filter-append}
use Rattle.std.proofs.lemmas.List.Sums.{fold-append, sum_by-cons}
use Rattle.gap_fraction.specs.Fraction.{Fraction}
use Rattle.flow_model.specs.declared.net.Cell.{Cell}
use Rattle.flow_model.specs.declared.net.Commodity.{Commodity}
use Rattle.flow_model.specs.Network.{Network, IsCell, IsCommodity, IsNetwork}
use Rattle.flow_paths.specs.DualRows.{Potential, DualRows, no_potential}
use Rattle.flow_paths.specs.Certificate.{upper_of}
use Rattle.flow_paths.specs.Evaluation.{fraction_le}
use Rattle.cut_bound.specs.declared.choice.Best.{Best}
use Rattle.cut_bound.specs.declared.choice.Choice.TheVariants.{Own, Cut as ByCut}
use Rattle.cut_bound.specs.declared.choice.Choice.{Choice}
use Rattle.cut_bound.specs.declared.choice.Place.{Place}
use Rattle.cut_bound.specs.declared.choice.Place.TheVariants.{Node, Front}
use Rattle.cut_bound.specs.declared.choice.RowPlace.{RowPlace}
use Rattle.cut_bound.specs.declared.choice.SummedCut.{SummedCut}
use Rattle.cut_bound.specs.Cuts.{Side, crosses, leaves, cut_value, cut_dual}
use Rattle.cut_bound.specs.Candidates.{front, fronts, is_crossed, node_sides, no_dual, rows_in, with_cuts, AreLevels, IsBestDual}
use Rattle.flow_paths.specs.Least.{least_by}
use Rattle.cut_bound.specs.Search.{chosen, front_places, kept, level_cut, node_cut, node_cuts, node_places, own_at, row_at, side_at, summed, value_of, Considers, Went, IsBest, IsBestOwn, IsChoice, IsDualOf, IsPlace, IsRowPlace}
use Rattle.cut_bound.specs.Sums.{as_cell, leaving}
use Rattle.cut_bound.proofs.Bounding.{all-divide, crossed-divides}
use Rattle.cut_bound.proofs.CutDuals.{cut-value}
use Rattle.cut_bound.proofs.Leasts.{least-push}

-- who crosses is what leaves, with each commodity as a cell
pub demands-are : (both : Bool) (side : Side) (ks : List Commodity) → leaving side (map (as_cell both) ks) ≡ sum_by (λ (k : Commodity). k.amount) (filter (crosses both side) ks)
demands-are both side [] = refl
demands-are both side (k ∷ ks) = step (crosses both side k) (demands-are both side ks)
  where
    step : (b : Bool) → leaving side (map (as_cell both) ks) ≡ sum_by (λ (k : Commodity). k.amount) (filter (crosses both side) ks)
        → sum_by (λ (c : Cell). c.cap) (cond b (as_cell both k ∷ filter (leaves side) (map (as_cell both) ks)) (filter (leaves side) (map (as_cell both) ks)))
        ≡ sum_by (λ (k : Commodity). k.amount) (cond b (k ∷ filter (crosses both side) ks) (filter (crosses both side) ks))
    step true rest = sum_by-cons (λ (c : Cell). c.cap) (as_cell both k) (filter (leaves side) (map (as_cell both) ks))
        ∙ (ap (λ n. k.amount + n) rest ∙ sym (sum_by-cons (λ (j : Commodity). j.amount) k (filter (crosses both side) ks)))
    step false rest = rest

-- the commodities are cells of the network's nodes
pub demands-fit : (net : Network) (both : Bool) → IsNetwork net → All (IsCell net.nodes) (map (as_cell both) net.commodities)
demands-fit net both n = All-map (IsCell net.nodes) (as_cell both) net.commodities
    (All-weaker (IsCommodity net.nodes) (λ (k : Commodity). IsCell net.nodes (as_cell both k)) (λ k f. record { tail = f.from; head = f.to; cap = f.amount }) net.commodities n.commodities)

mk : ℕ → ℕ → Fraction
mk a b = record { num = a; den = b }

value-is : (net : Network) (both : Bool) (own : List DualRows) (place : Place) → value_of (summed net.cells (map (as_cell both) net.commodities) own place) ≡ cut_value net both (side_at own place)
unfolding mk
value-is net both own place = ap (mk (leaving (side_at own place) net.cells)) (demands-are both (side_at own place) net.commodities)

-- one side more
sides-more : (net : Network) (both : Bool) (own : List DualRows) (sides : List Side) (side : Side)
    → with_cuts net both own (sides ++ side ∷ []) ≡ with_cuts net both own sides ++ cond (is_crossed net both side) (cut_dual net both side ∷ []) []
sides-more net both own sides side =
    ap (λ (xs : List Side). own ++ map (cut_dual net both) xs) (filter-append (is_crossed net both) sides (side ∷ []))
    ∙ (ap (λ (ds : List DualRows). own ++ ds) (map-append (cut_dual net both) (filter (is_crossed net both) sides) (filter (is_crossed net both) (side ∷ []))
    ∙ ap (λ (ds : List DualRows). map (cut_dual net both) (filter (is_crossed net both) sides) ++ ds) (one (is_crossed net both side)))
    ∙ sym (append_assoc own (map (cut_dual net both) (filter (is_crossed net both) sides)) (cond (is_crossed net both side) (cut_dual net both side ∷ []) [])))
  where
    one : (b : Bool) → map (cut_dual net both) (cond b (side ∷ []) []) ≡ cond b (cut_dual net both side ∷ []) []
    one true = refl
    one false = refl

Is : Network → Bool → List DualRows → List DualRows → Best → Type 0
Is net both own xs b = (b.value ≡ upper_of net (chosen net both own b.choice)) × (chosen net both own b.choice ≡ least_by (upper_of net) no_dual xs)

-- the step, by the test whether some commodity crosses and by that of the order
step : (net : Network) (both : Bool) (own xs : List DualRows) (b : Best) (cut : SummedCut) (crossed below : Bool) → 1 ≤ length xs → All (λ (d : DualRows). 1 ≤ (upper_of net d).den) xs
    → Is net both own xs b → value_of cut ≡ upper_of net (cut_dual net both (side_at own cut.place)) → (crossed ≡ true → 1 ≤ (upper_of net (cut_dual net both (side_at own cut.place))).den)
    → fraction_le b.value (value_of cut) ≡ below
    → Is net both own (xs ++ cond crossed (cut_dual net both (side_at own cut.place) ∷ []) []) (cond crossed (cond below b (record { value = value_of cut; choice = ByCut cut.place })) b)
unfolding Is
step net both own xs b cut false below some divide is value low test = (is.0, is.1 ∙ ap (least_by (upper_of net) no_dual) (sym (append-nil xs)))
step net both own xs b cut true true some divide is value low test =
    let new = cut_dual net both (side_at own cut.place) in
    let push = least-push (upper_of net) no_dual xs new some divide (low refl) in
    let same : fraction_le (upper_of net (least_by (upper_of net) no_dual xs)) (upper_of net new) ≡ true
    = ap (λ (d : DualRows). fraction_le (upper_of net d) (upper_of net new)) (sym is.1) ∙ (ap (λ (f : Fraction). fraction_le f (upper_of net new)) (sym is.0) ∙ (ap (λ (f : Fraction). fraction_le b.value f) (sym value) ∙ test)) in
    (is.0, is.1 ∙ sym (push ∙ rw same refl))
step net both own xs b cut true false some divide is value low test =
    let new = cut_dual net both (side_at own cut.place) in
    let push = least-push (upper_of net) no_dual xs new some divide (low refl) in
    let same : fraction_le (upper_of net (least_by (upper_of net) no_dual xs)) (upper_of net new) ≡ false
    = ap (λ (d : DualRows). fraction_le (upper_of net d) (upper_of net new)) (sym is.1) ∙ (ap (λ (f : Fraction). fraction_le f (upper_of net new)) (sym is.0) ∙ (ap (λ (f : Fraction). fraction_le b.value f) (sym value) ∙ test)) in
    (value, sym (push ∙ rw same refl))

-- one cut more
pub best-more : (net : Network) (both : Bool) (own : List DualRows) (sides : List Side) (b : Best) (place : Place) → IsNetwork net → 1 ≤ length own → All (λ (d : DualRows). 1 ≤ (upper_of net d).den) own
    → IsPlace net.nodes own place → IsBest net both own sides b
    → IsBest net both own (sides ++ side_at own place ∷ []) (kept b (summed net.cells (map (as_cell both) net.commodities) own place))
unfolding Is
best-more net both own sides b place n some divide fits is =
    let cut = summed net.cells (map (as_cell both) net.commodities) own place in
    let side = side_at own place in
    let xs = with_cuts net both own sides in
    let value : value_of cut ≡ upper_of net (cut_dual net both side) = value-is net both own place ∙ sym (cut-value net both side n) in
    let crossed : ltb 0 cut.crossing ≡ is_crossed net both side = ap (λ (m : ℕ). ltb 0 m) (demands-are both side net.commodities) in
    let long : 1 ≤ length xs = omega (arith, length-append own (map (cut_dual net both) (filter (is_crossed net both) sides))) in
    let both-are = step net both own xs b cut (is_crossed net both side) (fraction_le b.value (value_of cut)) long (all-divide net both own sides n divide) (is.value, is.least) value
    (λ e. crossed-divides net both side n e) refl in
    let made : Is net both own (xs ++ cond (is_crossed net both side) (cut_dual net both side ∷ []) []) (kept b cut)
    = subst (λ (t : Bool). Is net both own (xs ++ cond (is_crossed net both side) (cut_dual net both side ∷ []) []) (cond t (cond (fraction_le b.value (value_of cut)) b (record { value = value_of cut; choice = ByCut cut.place })) b)) (sym crossed) both-are in
    record {
      value = made.0;
      least = made.1 ∙ ap (least_by (upper_of net) no_dual) (sym (sides-more net both own sides side));
      place = stays (ltb 0 cut.crossing) (fraction_le b.value (value_of cut));
    }
  where
    stays : (t u : Bool) → IsChoice net.nodes own (cond t (cond u b (record { value = value_of (summed net.cells (map (as_cell both) net.commodities) own place); choice = ByCut place })) b).choice
    stays true true = is.place
    stays true false = fits
    stays false u = is.place

-- all of these cuts more
pub best-all : (net : Network) (both : Bool) (own : List DualRows) (sides : List Side) (b : Best) (places : List Place) → IsNetwork net → 1 ≤ length own → All (λ (d : DualRows). 1 ≤ (upper_of net d).den) own
    → All (IsPlace net.nodes own) places → IsBest net both own sides b
    → IsBest net both own (sides ++ map (side_at own) places) (fold kept b (map (summed net.cells (map (as_cell both) net.commodities) own) places))
best-all net both own sides b [] n some divide fits is = subst (λ (xs : List Side). IsBest net both own xs b) (sym (append-nil sides)) is
best-all net both own sides b (p ∷ ps) n some divide fits is =
    let more = best-more net both own sides b p n some divide (All-head (IsPlace net.nodes own) p ps fits) is in
    let rest = best-all net both own (sides ++ side_at own p ∷ []) (kept b (summed net.cells (map (as_cell both) net.commodities) own p)) ps n some divide (All-tail (IsPlace net.nodes own) p ps fits) more in
    subst (λ (xs : List Side). IsBest net both own xs (fold kept b (map (summed net.cells (map (as_cell both) net.commodities) own) (p ∷ ps)))) (append_assoc sides (side_at own p ∷ []) (map (side_at own) ps)) rest

-- the own duals alone
pub best-own : (net : Network) (both : Bool) (own : List DualRows) (b : Best) → IsBestOwn net own (length own) b → IsBest net both own [] b
best-own net both own b is =
    let chose : chosen net both own b.choice ≡ own_at own is.at = ap (chosen net both own) is.is in
    record {
      value = is.value ∙ ap (upper_of net) (sym chose);
      least = chose ∙ (is.least ∙ (ap (least_by (upper_of net) no_dual) (take_all (length own) own (omega arith)) ∙ ap (least_by (upper_of net) no_dual) (sym (append-nil own))));
      place = subst (λ (c : Choice). IsChoice net.nodes own c) (sym is.is) is.inside;
    }

-- ---- the places round nodes

node-cuts-are : (cells demands : List Cell) (own : List DualRows) (both : Bool) (vs : List ℕ) → flat_map (node_cuts cells demands both) vs ≡ map (summed cells demands own) (flat_map (node_places both) vs)
node-cuts-are cells demands own both [] = refl
node-cuts-are cells demands own true (v ∷ vs) = ap (λ (xs : List SummedCut). node_cut cells demands false v ∷ xs) (node-cuts-are cells demands own true vs)
node-cuts-are cells demands own false (v ∷ vs) = ap (λ (xs : List SummedCut). node_cut cells demands false v ∷ node_cut cells demands true v ∷ xs) (node-cuts-are cells demands own false vs)

node-sides-are : (own : List DualRows) (both : Bool) (vs : List ℕ) → map (side_at own) (flat_map (node_places both) vs) ≡ flat_map (node_sides both) vs
node-sides-are own both [] = refl
node-sides-are own true (v ∷ vs) = ap (λ (xs : List Side). side_at own (Node v false) ∷ xs) (node-sides-are own true vs)
node-sides-are own false (v ∷ vs) = ap (λ (xs : List Side). side_at own (Node v false) ∷ side_at own (Node v true) ∷ xs) (node-sides-are own false vs)

nodes-fit : (nodes : ℕ) (own : List DualRows) (both : Bool) (a n : ℕ) → a + n ≤ nodes → All (IsPlace nodes own) (flat_map (node_places both) (range_with_len a n))
nodes-fit nodes own both a zero l = λ i d m. absurd (omega arith)
nodes-fit nodes own true a (suc n) l =
    All-cons (IsPlace nodes own) (Node a false) (flat_map (node_places true) (range_with_len (a + 1) n)) (omega arith) (nodes-fit nodes own true (a + 1) n (omega arith))
nodes-fit nodes own false a (suc n) l =
    All-cons (IsPlace nodes own) (Node a false) (Node a true ∷ flat_map (node_places false) (range_with_len (a + 1) n)) (omega arith)
    (All-cons (IsPlace nodes own) (Node a true) (flat_map (node_places false) (range_with_len (a + 1) n)) (omega arith) (nodes-fit nodes own false (a + 1) n (omega arith)))

-- ---- the places of fronts

sides-of-row : (own : List DualRows) (r : RowPlace) (ts : List ℕ) → map (side_at own) (map (Front r) ts) ≡ map (front (row_at own r).values) ts
sides-of-row own r [] = refl
sides-of-row own r (t ∷ ts) = ap (λ (xs : List Side). front (row_at own r).values t ∷ xs) (sides-of-row own r ts)

front-sides-are : (own : List DualRows) (rows : List RowPlace) (levels : List (List ℕ)) → map (side_at own) (front_places rows levels) ≡ fronts (map (row_at own) rows) levels
front-sides-are own [] levels = refl
front-sides-are own (r ∷ rows) [] = refl
front-sides-are own (r ∷ rows) (ts ∷ levels) =
    map-append (side_at own) (map (Front r) ts) (front_places rows levels)
    ∙ (ap (λ (xs : List Side). xs ++ map (side_at own) (front_places rows levels)) (sides-of-row own r ts)
    ∙ ap (λ (xs : List Side). map (front (row_at own r).values) ts ++ xs) (front-sides-are own rows levels))

row-fits : (nodes : ℕ) (own : List DualRows) (r : RowPlace) (ts : List ℕ) → IsRowPlace own r → length (row_at own r).values ≡ nodes → All (IsPlace nodes own) (map (Front r) ts)
row-fits nodes own r [] is wide = λ i d m. absurd (omega arith)
row-fits nodes own r (t ∷ ts) is wide = All-cons (IsPlace nodes own) (Front r t) (map (Front r) ts) (is, wide) (row-fits nodes own r ts is wide)

fronts-fit : (nodes : ℕ) (own : List DualRows) (rows : List RowPlace) (levels : List (List ℕ)) → All (IsRowPlace own) rows → ((r : RowPlace) → IsRowPlace own r → length (row_at own r).values ≡ nodes) → All (IsPlace nodes own) (front_places rows levels)
fronts-fit nodes own [] levels is wide = λ i d m. absurd (omega arith)
fronts-fit nodes own (r ∷ rows) [] is wide = λ i d m. absurd (omega arith)
fronts-fit nodes own (r ∷ rows) (ts ∷ levels) is wide =
    let here = All-head (IsRowPlace own) r rows is in
    All-append (IsPlace nodes own) (map (Front r) ts) (front_places rows levels) (row-fits nodes own r ts here (wide r here)) (fronts-fit nodes own rows levels (All-tail (IsRowPlace own) r rows is) wide)

levels-of-rows : (own : List DualRows) (rows : List RowPlace) (levels : List (List ℕ)) → AllZip (λ (row : RowPlace) (ts : List ℕ). AreLevels (row_at own row).values ts) rows levels
    → AllZip (λ (row : Potential) (ts : List ℕ). AreLevels row.values ts) (map (row_at own) rows) levels
levels-of-rows own [] [] h = h
levels-of-rows own [] (ts ∷ levels) h = h
levels-of-rows own (r ∷ rows) [] h = h
levels-of-rows own (r ∷ rows) (ts ∷ levels) h = (h.0, levels-of-rows own rows levels h.1)

-- ---- the whole search

pub best-found : (net : Network) (both : Bool) (own : List DualRows) (first last : Best) (demands : List Cell) (cuts : List SummedCut) (result : DualRows) → IsNetwork net → 1 ≤ length own
    → All (λ (d : DualRows). 1 ≤ (upper_of net d).den) own → ((r : RowPlace) → IsRowPlace own r → length (row_at own r).values ≡ net.nodes)
    → demands ≡ map (as_cell both) net.commodities → IsBestOwn net own (length own) first → cuts ≡ flat_map (node_cuts net.cells demands both) (range_with_len 0 net.nodes)
    → Considers net.cells demands own (fold kept first cuts) last → IsChoice net.nodes own last.choice × (result ≡ chosen net both own last.choice → IsBestDual net both own result)
best-found net both own first last demands cuts result n some divide wide demands-is is cuts-are goes =
    let D = map (as_cell both) net.commodities in
    let places = flat_map (node_places both) (range_with_len 0 net.nodes) in
    let cuts-is : cuts ≡ map (summed net.cells D own) places = cuts-are ∙ (ap (λ (ds : List Cell). flat_map (node_cuts net.cells ds both) (range_with_len 0 net.nodes)) demands-is ∙ node-cuts-are net.cells D own both (range_with_len 0 net.nodes)) in
    let nodes = best-all net both own [] first places n some divide (nodes-fit net.nodes own both 0 net.nodes (omega arith)) (best-own net both own first is) in
    let last-is : last ≡ fold kept (fold kept first (map (summed net.cells D own) places)) (map (summed net.cells D own) (front_places goes.rows goes.went.levels))
    = goes.went.new_is ∙ (ap (λ (xs : List SummedCut). fold kept (fold kept first xs) (map (summed net.cells demands own) (front_places goes.rows goes.went.levels))) cuts-is
    ∙ ap (λ (ds : List Cell). fold kept (fold kept first (map (summed net.cells D own) places)) (map (summed net.cells ds own) (front_places goes.rows goes.went.levels))) demands-is) in
    let all = best-all net both own (map (side_at own) places) (fold kept first (map (summed net.cells D own) places)) (front_places goes.rows goes.went.levels) n some divide
    (fronts-fit net.nodes own goes.rows goes.went.levels goes.places wide) nodes in
    let sides : map (side_at own) places ++ map (side_at own) (front_places goes.rows goes.went.levels) ≡ flat_map (node_sides both) (range_with_len 0 net.nodes) ++ fronts (rows_in own) goes.went.levels
    = ap (λ (xs : List Side). xs ++ map (side_at own) (front_places goes.rows goes.went.levels)) (node-sides-are own both (range_with_len 0 net.nodes))
    ∙ ap (λ (xs : List Side). flat_map (node_sides both) (range_with_len 0 net.nodes) ++ xs) (front-sides-are own goes.rows goes.went.levels ∙ ap (λ (rs : List Potential). fronts rs goes.went.levels) goes.are_rows) in
    let best : IsBest net both own (flat_map (node_sides both) (range_with_len 0 net.nodes) ++ fronts (rows_in own) goes.went.levels) last
    = subst (λ (b : Best). IsBest net both own (flat_map (node_sides both) (range_with_len 0 net.nodes) ++ fronts (rows_in own) goes.went.levels) b) (sym last-is)
    (subst (λ (xs : List Side). IsBest net both own xs (fold kept (fold kept first (map (summed net.cells D own) places)) (map (summed net.cells D own) (front_places goes.rows goes.went.levels)))) sides all) in (
      best.place,
      λ e. record {
        levels = goes.went.levels;
        are_levels = subst (λ (rs : List Potential). AllZip (λ (row : Potential) (ts : List ℕ). AreLevels row.values ts) rs goes.went.levels) goes.are_rows (levels-of-rows own goes.rows goes.went.levels goes.went.are_levels);
        best_is = e ∙ best.least;
      },
    )

-- ---- rows after rows

zip-push : {A B : Type 0} (R : A → B → Type 0) (xs : List A) (ys : List B) (x : A) (y : B) → AllZip R xs ys → R x y → AllZip R (xs ++ x ∷ []) (ys ++ y ∷ [])
zip-push R [] [] x y h r = (r, h)
zip-push R [] (b ∷ ys) x y h r = absurd h
zip-push R (a ∷ xs) [] x y h r = absurd h
zip-push R (a ∷ xs) (b ∷ ys) x y h r = (h.0, zip-push R xs ys x y h.1 r)

places-push : (own : List DualRows) (rows : List RowPlace) (levels : List (List ℕ)) (r : RowPlace) (ts : List ℕ) → AllZip (λ (row : RowPlace) (ts : List ℕ). AreLevels (row_at own row).values ts) rows levels
    → front_places (rows ++ r ∷ []) (levels ++ ts ∷ []) ≡ front_places rows levels ++ map (Front r) ts
places-push own [] [] r ts h = append-nil (map (Front r) ts)
places-push own [] (us ∷ levels) r ts h = absurd h
places-push own (q ∷ rows) [] r ts h = absurd h
places-push own (q ∷ rows) (us ∷ levels) r ts h =
    ap (λ (xs : List Place). map (Front q) us ++ xs) (places-push own rows levels r ts h.1) ∙ sym (append_assoc (map (Front q) us) (front_places rows levels) (map (Front r) ts))

levels-cuts : (cells demands : List Cell) (own : List DualRows) (r : RowPlace) (ts : List ℕ) → map (level_cut cells demands r (row_at own r).values) ts ≡ map (summed cells demands own) (map (Front r) ts)
levels-cuts cells demands own r [] = refl
levels-cuts cells demands own r (t ∷ ts) = ap (λ (xs : List SummedCut). level_cut cells demands r (row_at own r).values t ∷ xs) (levels-cuts cells demands own r ts)

pub went-none : (cells demands : List Cell) (own : List DualRows) (b : Best) → Went cells demands own [] b b
went-none cells demands own b = record { levels = []; are_levels = tt; new_is = refl }

-- one row more
pub went-more : (cells demands : List Cell) (own : List DualRows) (rows : List RowPlace) (i : ℕ) (old now new : Best) (cuts : List SummedCut) (r d : RowPlace) (levels values : List ℕ)
    → i < length rows → r ≡ get_or rows i d → values ≡ (row_at own r).values → AreLevels values levels → cuts ≡ map (level_cut cells demands r values) levels → new ≡ fold kept now cuts
    → Went cells demands own (take i rows) old now → Went cells demands own (take (i + 1) rows) old new
went-more cells demands own rows i old now new cuts r d levels values l r-is values-are are cuts-are new-is w =
    let here : AreLevels (row_at own r).values levels = subst (λ (vs : List ℕ). AreLevels vs levels) values-are are in
    let these : cuts ≡ map (summed cells demands own) (map (Front r) levels) = cuts-are ∙ (ap (λ (vs : List ℕ). map (level_cut cells demands r vs) levels) values-are ∙ levels-cuts cells demands own r levels) in
    let pushed = places-push own (take i rows) w.levels r levels w.are_levels in
    let whole : new ≡ fold kept old (map (summed cells demands own) (front_places (take i rows ++ r ∷ []) (w.levels ++ levels ∷ [])))
    = new-is ∙ (ap (λ (xs : List SummedCut). fold kept now xs) these ∙ (ap (λ (b : Best). fold kept b (map (summed cells demands own) (map (Front r) levels))) w.new_is
    ∙ (sym (fold-append kept old (map (summed cells demands own) (front_places (take i rows) w.levels)) (map (summed cells demands own) (map (Front r) levels)))
    ∙ (ap (fold kept old) (sym (map-append (summed cells demands own) (front_places (take i rows) w.levels) (map (Front r) levels)))
    ∙ ap (λ (ps : List Place). fold kept old (map (summed cells demands own) ps)) (sym pushed))))) in
    let rows-are : take i rows ++ r ∷ [] ≡ take (i + 1) rows = ap (λ (x : RowPlace). take i rows ++ x ∷ []) r-is ∙ sym (take_more rows i d l) in
    subst (λ (rs : List RowPlace). Went cells demands own rs old new) rows-are (record {
      levels = w.levels ++ levels ∷ [];
      are_levels = zip-push (λ (row : RowPlace) (ts : List ℕ). AreLevels (row_at own row).values ts) (take i rows) w.levels r levels w.are_levels here;
      new_is = whole;
    })

-- ---- the own duals

-- one dual more
pub own-more : (net : Network) (own : List DualRows) (i : ℕ) (value : Fraction) (old new : Best) → 1 ≤ i → i < length own → All (λ (d : DualRows). 1 ≤ (upper_of net d).den) own
    → value ≡ upper_of net (own_at own i) → new ≡ cond (fraction_le old.value value) old (record { value = value; choice = Own i }) → IsBestOwn net own i old → IsBestOwn net own (i + 1) new
own-more net own i value old new some l divide value-is new-is is =
    let xs = take i own in
    let long : 1 ≤ length xs = omega (arith, length-take i own) in
    let push = least-push (upper_of net) no_dual xs (own_at own i) long (All-take (λ (d : DualRows). 1 ≤ (upper_of net d).den) i own divide) (divide i no_dual l) in
    let more : take (i + 1) own ≡ xs ++ own_at own i ∷ [] = take_more own i no_dual l in
    let test : fraction_le (upper_of net (least_by (upper_of net) no_dual xs)) (upper_of net (own_at own i)) ≡ fraction_le old.value value
    = ap (λ (d : DualRows). fraction_le (upper_of net d) (upper_of net (own_at own i))) (sym is.least) ∙ (ap (λ (f : Fraction). fraction_le f (upper_of net (own_at own i))) (sym is.value) ∙ ap (fraction_le old.value) (sym value-is)) in
    let least : least_by (upper_of net) no_dual (take (i + 1) own) ≡ cond (fraction_le old.value value) (least_by (upper_of net) no_dual xs) (own_at own i)
    = ap (least_by (upper_of net) no_dual) more ∙ (push ∙ ap (λ (t : Bool). cond t (least_by (upper_of net) no_dual xs) (own_at own i)) test) in
    subst (λ (b : Best). IsBestOwn net own (i + 1) b) (sym new-is) (by_test (fraction_le old.value value) least)
  where
    by_test : (t : Bool) → least_by (upper_of net) no_dual (take (i + 1) own) ≡ cond t (least_by (upper_of net) no_dual (take i own)) (own_at own i)
        → IsBestOwn net own (i + 1) (cond t old (record { value = value; choice = Own i }))
    by_test true e = record { at = is.at; is = is.is; inside = is.inside; value = is.value; least = is.least ∙ sym e }
    by_test false e = record { at = i; is = refl; inside = l; value = value-is; least = sym e }

-- the first of them
pub own-first : (net : Network) (own : List DualRows) (value : Fraction) → 1 ≤ length own → value ≡ upper_of net (own_at own 0) → IsBestOwn net own 1 (record { value = value; choice = Own 0 })
own-first net [] value some is = absurd (omega arith)
own-first net (d ∷ own) value some is = record { at = 0; is = refl; inside = omega arith; value = is; least = refl }

-- a row has a potential for each node
pub rows-wide : (net : Network) (own : List DualRows) (r : RowPlace) → All (IsDualOf net) own → IsRowPlace own r → length (row_at own r).values ≡ net.nodes
rows-wide net own r fits is =
    let dual : IsDualOf net (own_at own r.dual) = fits r.dual no_dual is.dual in
    (dual.rows r.row no_potential is.row).values

-- each dual divides by something
pub own-divide : (net : Network) (own : List DualRows) → All (IsDualOf net) own → All (λ (d : DualRows). 1 ≤ (upper_of net d).den) own
own-divide net own fits = λ i d l. let some = (fits i d l).distance.divides in positive (upper_of net (get_or own i d)).den some
  where
    positive : (m : ℕ) → m ≢ 0 → 1 ≤ m
    positive m h = omega arith
