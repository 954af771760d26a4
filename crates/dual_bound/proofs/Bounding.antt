-- Rows that are filled make a dual that shows its bound.
use Rattle.std.proofs.Common.{◌≡◌, inl, inr, ℕ, zero, suc, ◌+◌, ◌<◌, ◌≤◌, List, [], ◌∷◌, Bool, true, false, cond, eqb, length, get_or, map, refl, sym, ap, subst, ◌∙◌, arith}
use Rattle.gap_fraction.specs.Fraction.{Fraction}
use Rattle.std.specs.Prelude.{◌||◌, All, IfOk, Result, Ok, Err, count_by, slice_get, Some}
use Rattle.std.proofs.lemmas.List.Elements.{All-map, All-weaker}
use Rattle.std.proofs.lemmas.Bool.{cases_eq, eq-eqb}
use Rattle.std.proofs.lemmas.Option.{slice_get-get_or}
use Rattle.std.proofs.lemmas.List.{get_or_default}
use Rattle.flow_model.specs.declared.net.Cell.{Cell}
use Rattle.flow_model.specs.declared.net.Commodity.{Commodity}
use Rattle.flow_model.specs.Network.{Network, IsNetwork, IsCommodity}
use Rattle.flow_model.specs.Groups.{is_source, group_sources}
use Rattle.flow_model.specs.Lengths.{AreLengths}
use Rattle.flow_model.specs.Least.{HasCut, IsCutOff}
use Rattle.flow_model.specs.Bound.{IsPotential, volume, weighted_distance}
use Rattle.dijkstra_paths.specs.Reach.{IsFirstCut}
use Rattle.fixed_exp.specs.Far.{EmptyAreFar}
use Rattle.fixed_exp.specs.Kept.{no_cell}
use Rattle.flow_paths.specs.DualRows.{Length, Potential, DualRows}
use Rattle.flow_paths.specs.Certificate.{IsPotentialOf, distances_in, lengths_in, upper_of}
use Rattle.mcf_limits.specs.declared.TheConstants.{MAX_LENGTH}
use Rattle.dual_bound.specs.declared.rows.Row.{Row}
use Rattle.dual_bound.specs.Bounds.{length_rows, IsRowWith, IsDualWith, IsDistance, IsCutPotential, ShowsBound, CanDivide, cut_lengths}
use Rattle.dual_bound.specs.Rows.{potential_of, potentials_of, dual_of, sources_of, IsFilledWith}
use Rattle.dual_bound.proofs.DualRows.{source-count, cells-have, lengths-found, row-found}
use Rattle.dual_bound.proofs.Distances.{distances-are, marks-are, distance-positive, cut-positive, cut-volume, distance-by, weighted-positive}

nodes-are : (rows : List Row) → map (λ (r : Potential). r.node) (potentials_of rows) ≡ sources_of rows
nodes-are [] = refl
nodes-are (r ∷ rows) = ap (λ (ns : List ℕ). r.source ∷ ns) (nodes-are rows)

-- a commodity's node is a source
source-is : (commodities : List Commodity) (i : ℕ) (d : Commodity) → i < length commodities → is_source commodities (get_or commodities i d).from ≡ true
source-is [] i d l = absurd (omega arith)
source-is (k ∷ ks) zero d l = rw (eq-eqb k.from k.from refl) refl
source-is (k ∷ ks) (suc i) d l = step (eqb k.from (get_or ks i d).from) (is_source ks (get_or ks i d).from) (source-is ks i d (omega arith))
  where
    step : (a b : Bool) → b ≡ true → (a || b) ≡ true
    step true b e = refl
    step false b e = e

cond-small : (b : Bool) → cond {A = ℕ} b 1 0 ≤ 1
cond-small true = omega arith
cond-small false = omega arith

rows-with : (nodes : ℕ) (P : ℕ → ℕ → ℕ → Type 0) (rows : List Row) → All (IsFilledWith nodes P) rows → All (IsRowWith nodes P) (potentials_of rows)
rows-with nodes P rows h = All-map (IsRowWith nodes P) potential_of rows (All-weaker (IsFilledWith nodes P) (λ row. IsRowWith nodes P (potential_of row)) (λ row f. record { count = f.count; each = f.each }) rows h)

numbers-below : (a n : ℕ) (xs : List ℕ) → a + length xs ≤ n → All (λ (r : Length). r.cell < n) (length_rows a xs)
numbers-below a n [] l = λ k d m. absurd (omega arith)
numbers-below a n (x ∷ xs) l = go (numbers-below (a + 1) n xs (omega arith))
  where
    go : All (λ (r : Length). r.cell < n) (length_rows (a + 1) xs) → All (λ (r : Length). r.cell < n) (record { cell = a; value = x } ∷ length_rows (a + 1) xs)
    go h zero d m = omega arith
    go h (suc k) d m = h k d (omega arith)

-- each commodity's source has one row
pub one-row : (net : Network) (rows : List Row) (i : ℕ) (d : Commodity) → IsNetwork net → sources_of rows ≡ group_sources net → i < length net.commodities
    → count_by (λ r. eqb r.node (get_or net.commodities i d).from) (potentials_of rows) ≡ 1
one-row net rows i d n e l =
    let fits : IsCommodity net.nodes (get_or net.commodities i d) = n.commodities i d l in
    source-count net (potentials_of rows) (get_or net.commodities i d).from (nodes-are rows ∙ e) fits.from ∙ ap (λ (b : Bool). cond {A = ℕ} b 1 0) (source-is net.commodities i d l)

pub can-divide : (net : Network) (lengths : List ℕ) (rows : List Row) (P : ℕ → ℕ → ℕ → Type 0) → IsNetwork net → length lengths ≡ length net.cells → All (λ n. n ≤ MAX_LENGTH) lengths → sources_of rows ≡ group_sources net
    → All (IsFilledWith net.nodes P) rows → 1 ≤ weighted_distance net.commodities (distances_in net (dual_of lengths rows)) → CanDivide net lengths (dual_of lengths rows)
can-divide net lengths rows P n size small sources filled positive = record {
  lengths_are = lengths-found net lengths (dual_of lengths rows) size refl;
  sizes = size;
  size_limit = small;
  named = All-map (λ (r : Potential). r.node < net.nodes) potential_of rows (All-weaker (IsFilledWith net.nodes P) (λ (row : Row). row.source < net.nodes) (λ row f. f.node) rows filled);
  once = λ v l. let count = source-count net (potentials_of rows) v (nodes-are rows ∙ sources) l in omega (arith, count, cond-small (is_source net.commodities v));
  sources = λ i d l. one-row net rows i d n sources l;
  wide = All-map (λ (r : Potential). length r.values ≡ net.nodes) potential_of rows (All-weaker (IsFilledWith net.nodes P) (λ (row : Row). length row.values.items ≡ net.nodes) (λ row f. f.count) rows filled);
  positive = positive;
}

pub dual-with : (net : Network) (lengths : List ℕ) (rows : List Row) (P : ℕ → ℕ → ℕ → Type 0) → sources_of rows ≡ group_sources net → All (IsFilledWith net.nodes P) rows → IsDualWith net lengths P (dual_of lengths rows)
dual-with net lengths rows P sources filled = record { lengths_are = refl; sources = nodes-are rows ∙ sources; potentials = rows-with net.nodes P rows filled }

pub shows-bound : (net : Network) (lengths : List ℕ) (rows : List Row) (P : ℕ → ℕ → ℕ → Type 0) → IsNetwork net → length lengths ≡ length net.cells → sources_of rows ≡ group_sources net → All (IsFilledWith net.nodes P) rows
    → All (λ (row : Row). IsPotential net.cells lengths row.values.items) rows → 1 ≤ weighted_distance net.commodities (distances_in net (dual_of lengths rows)) → ShowsBound net lengths (dual_of lengths rows)
shows-bound net lengths rows P n size sources filled potentials positive =
    let dual = dual_of lengths rows in
    let are : lengths_in net dual ≡ lengths = lengths-found net lengths dual size refl in
    record {
      lengths_are = are;
      cells = cells-have net lengths dual size refl;
      sources = record { each = λ v l. source-count net (potentials_of rows) v (nodes-are rows ∙ sources) l };
      potentials = record { each = subst (λ (xs : List ℕ). All (λ (r : Potential). IsPotential net.cells xs r.values) (potentials_of rows)) (sym are) (All-map (λ (r : Potential). IsPotential net.cells lengths r.values) potential_of rows potentials) };
      distance = record { divides = λ e. absurd (omega arith) };
      numbers = numbers-below 0 (length net.cells) lengths (omega arith);
      rows = All-map (IsPotentialOf net) potential_of rows (All-weaker (IsFilledWith net.nodes P) (λ (row : Row). IsPotentialOf net (potential_of row)) (λ row f. record { node = f.node; values = f.count }) rows filled);
    }

-- lengths of positive and of empty cells are within the limit
pub lengths-small : (cells : List Cell) (lengths : List ℕ) → AreLengths cells lengths → EmptyAreFar cells lengths → All (λ n. n ≤ MAX_LENGTH) lengths
lengths-small cells lengths long far = λ c d l.
    let inside : c < length cells = omega (arith, long.count) in
    let cell = get_or cells c no_cell in
    let at : slice_get cells c ≡ Some cell = slice_get-get_or cells c no_cell inside in
    let is : get_or lengths c d ≡ get_or lengths c 0 = get_or_default lengths c d 0 l in
    elim (cases_eq cell.cap 0) [
      | inl e ↦ omega (arith, is, far.each c cell at e)
      | inr ne ↦ let cap : 1 ≤ cell.cap = omega arith in omega (arith, is, long.high c cell at cap)
    ]

-- the weighted distance is at least 1 where rows are filled with distances
pub bound-positive : (net : Network) (lengths : List ℕ) (rows : List Row) → IsNetwork net → AreLengths net.cells lengths → sources_of rows ≡ group_sources net → All (IsFilledWith net.nodes (IsDistance net.cells lengths)) rows
    → 1 ≤ weighted_distance net.commodities (distances_in net (dual_of lengths rows))
bound-positive net lengths rows n long sources filled = go net.commodities refl n.some
  where
    go : (ks : List Commodity) → ks ≡ net.commodities → 1 ≤ length ks → 1 ≤ weighted_distance net.commodities (distances_in net (dual_of lengths rows))
    go [] e l = absurd (omega arith)
    go (k ∷ ks) e l =
        let inside : 0 < length net.commodities = n.some in
        let fits : IsCommodity net.nodes (get_or net.commodities 0 k) = n.commodities 0 k inside in
        let found = row-found (IsRowWith net.nodes (IsDistance net.cells lengths)) (potentials_of rows) (get_or net.commodities 0 k).from (rows-with net.nodes (IsDistance net.cells lengths) rows filled) (one-row net rows 0 k n sources inside) in
        let far = distance-positive net lengths (get_or net.commodities 0 k) found.0 long fits found.2 found.3 in
        weighted-positive net.commodities (potentials_of rows) 0 k inside fits.positive (omega (arith, far, distance-by (potentials_of rows) (get_or net.commodities 0 k) found.0 found.1))

-- so it is where they are filled with the marks of a cut
pub cut-divides : (net : Network) (lengths : List ℕ) (rows : List Row) → IsNetwork net → HasCut net → sources_of rows ≡ group_sources net → All (IsFilledWith net.nodes (IsCutPotential net.cells)) rows
    → 1 ≤ weighted_distance net.commodities (distances_in net (dual_of lengths rows))
cut-divides net lengths rows n cut sources filled =
    let i = cut.0 in
    let k = cut.1 in
    let fits : IsCommodity net.nodes (get_or net.commodities i k) = n.commodities i k cut.2 in
    let off : IsCutOff net.cells (get_or net.commodities i k).from (get_or net.commodities i k).to = subst (λ (x : Commodity). IsCutOff net.cells x.from x.to) (sym cut.3) cut.4 in
    let found = row-found (IsRowWith net.nodes (IsCutPotential net.cells)) (potentials_of rows) (get_or net.commodities i k).from (rows-with net.nodes (IsCutPotential net.cells) rows filled) (one-row net rows i k n sources cut.2) in
    let far = cut-positive net (get_or net.commodities i k) found.0 fits off found.2 found.3 in
    weighted-positive net.commodities (potentials_of rows) i k cut.2 fits.positive (omega (arith, far, distance-by (potentials_of rows) (get_or net.commodities i k) found.0 found.1))

-- distances are potentials in each row
pub bound-potentials : (net : Network) (lengths : List ℕ) (rows : List Row) → IsNetwork net → EmptyAreFar net.cells lengths → All (IsFilledWith net.nodes (IsDistance net.cells lengths)) rows
    → All (λ (row : Row). IsPotential net.cells lengths row.values.items) rows
bound-potentials net lengths rows n far filled = All-weaker (IsFilledWith net.nodes (IsDistance net.cells lengths)) (λ (row : Row). IsPotential net.cells lengths row.values.items)
    (λ row f. distances-are net lengths row.values.items row.source n far f.each (λ v l. f.small v 0 (omega (arith, f.count)))) rows filled

pub cut-potentials : (net : Network) (rows : List Row) → IsNetwork net → All (IsFilledWith net.nodes (IsCutPotential net.cells)) rows
    → All (λ (row : Row). IsPotential net.cells (cut_lengths net.cells) row.values.items) rows
cut-potentials net rows n filled = All-weaker (IsFilledWith net.nodes (IsCutPotential net.cells)) (λ (row : Row). IsPotential net.cells (cut_lengths net.cells) row.values.items)
    (λ row f. marks-are net row.values.items row.source n f.each) rows filled

pub sources-kept : (old new : List Row) → length new ≡ length old → ((k : ℕ) (d : Row) → k < length old → (get_or new k d).source ≡ (get_or old k d).source) → sources_of new ≡ sources_of old
sources-kept [] [] e h = refl
sources-kept [] (y ∷ new) e h = absurd (omega arith)
sources-kept (x ∷ old) [] e h = absurd (omega arith)
sources-kept (x ∷ old) (y ∷ new) e h = rw (h 0 x (omega arith)) (ap (λ (ns : List ℕ). x.source ∷ ns) (sources-kept old new (omega arith) (λ k d l. h (suc k) d (omega arith))))

values-small : (nodes : ℕ) (P : ℕ → ℕ → ℕ → Type 0) (rows : List Row) → All (IsFilledWith nodes P) rows → All (λ (row : Row). All (λ n. n ≤ MAX_LENGTH) row.values.items) rows
values-small nodes P rows h = All-weaker (IsFilledWith nodes P) (λ (row : Row). All (λ n. n ≤ MAX_LENGTH) row.values.items) (λ row f. f.small) rows h

-- what rows and lengths make
pub record Makes (net : Network) (lengths : List ℕ) (P : ℕ → ℕ → ℕ → Type 0) (rows : List Row) : Type 0 where
  pub small : All (λ (row : Row). All (λ n. n ≤ MAX_LENGTH) row.values.items) rows
  pub divides : CanDivide net lengths (dual_of lengths rows)
  pub dual : IsDualWith net lengths P (dual_of lengths rows)
  pub shows : ShowsBound net lengths (dual_of lengths rows)

pub bound-makes : (net : Network) (lengths : List ℕ) (rows : List Row) → IsNetwork net → AreLengths net.cells lengths → EmptyAreFar net.cells lengths → sources_of rows ≡ group_sources net
    → All (IsFilledWith net.nodes (IsDistance net.cells lengths)) rows → Makes net lengths (IsDistance net.cells lengths) rows
bound-makes net lengths rows n long far sources filled =
    let positive = bound-positive net lengths rows n long sources filled in
    record {
      small = values-small net.nodes (IsDistance net.cells lengths) rows filled;
      divides = can-divide net lengths rows (IsDistance net.cells lengths) n long.count (lengths-small net.cells lengths long far) sources filled positive;
      dual = dual-with net lengths rows (IsDistance net.cells lengths) sources filled;
      shows = shows-bound net lengths rows (IsDistance net.cells lengths) n long.count sources filled (bound-potentials net lengths rows n far filled) positive;
    }

cut-count : (cells : List Cell) → length (cut_lengths cells) ≡ length cells
cut-count [] = refl
cut-count (cell ∷ cells) = ap suc (cut-count cells)

cut-small : (cells : List Cell) → All (λ n. n ≤ MAX_LENGTH) (cut_lengths cells)
cut-small cells = All-map (λ n. n ≤ MAX_LENGTH) (λ (cell : Cell). cond {A = ℕ} (eqb cell.cap 0) 1 0) cells (λ k d l. omega (arith, cond-small (eqb (get_or cells k d).cap 0)))

pub cut-makes : (net : Network) (rows : List Row) → IsNetwork net → HasCut net → sources_of rows ≡ group_sources net → All (IsFilledWith net.nodes (IsCutPotential net.cells)) rows → Makes net (cut_lengths net.cells) (IsCutPotential net.cells) rows
cut-makes net rows n cut sources filled =
    let lengths = cut_lengths net.cells in
    let positive = cut-divides net lengths rows n cut sources filled in
    record {
      small = values-small net.nodes (IsCutPotential net.cells) rows filled;
      divides = can-divide net lengths rows (IsCutPotential net.cells) n (cut-count net.cells) (cut-small net.cells) sources filled positive;
      dual = dual-with net lengths rows (IsCutPotential net.cells) sources filled;
      shows = shows-bound net lengths rows (IsCutPotential net.cells) n (cut-count net.cells) sources filled (cut-potentials net rows n filled) positive;
    }

-- the same lengths and rows under other names
pub makes-same : (net : Network) (P : ℕ → ℕ → ℕ → Type 0) (lengths lengths' : List ℕ) (rows rows' : List Row) → lengths' ≡ lengths → rows' ≡ rows → Makes net lengths P rows → Makes net lengths' P rows'
makes-same net P lengths lengths' rows rows' e f m = subst (λ (xs : List ℕ). Makes net xs P rows') (sym e) (subst (λ (rs : List Row). Makes net lengths P rs) (sym f) m)

pub if-both : (X E : Type 0) (r : Result X E) (P Q : X → Type 0) → IfOk r P → IfOk r Q → IfOk r (λ x. P x × Q x)
if-both X E (Ok x) P Q p q = (p, q)
if-both X E (Err e) P Q p q = tt

-- the value of a cut
pub cut-zero : (net : Network) (lengths : List ℕ) (dual : DualRows) (value : Fraction) → lengths ≡ cut_lengths net.cells → ShowsBound net lengths dual → value ≡ upper_of net dual → value.num ≡ 0
cut-zero net lengths dual value e s v =
    ap (λ (f : Fraction). f.num) v ∙ (ap (volume net.cells) (s.lengths_are ∙ e) ∙ cut-volume net.cells)

-- a first commodity that is cut off is one
pub has-cut : (net : Network) (k : ℕ) → IsFirstCut net k → HasCut net
has-cut net k f = go net.commodities refl
  where
    go : (ks : List Commodity) → ks ≡ net.commodities → HasCut net
    go [] e = absurd (omega (arith, f.inside, ap (λ (xs : List Commodity). length xs) e))
    go (d ∷ ks) e =
        let x = get_or net.commodities k d in
        (k, x, f.inside, get_or_default net.commodities k x d f.inside, f.cut x (slice_get-get_or net.commodities k d f.inside))
