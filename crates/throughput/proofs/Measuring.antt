-- The bound of lengths of cells and gates: where its rows stand, and that it shows its bound.
use Rattle.std.proofs.Common.{◌≡◌, ℕ, zero, suc, ◌+◌, ◌*◌, ◌^◌, ◌<◌, ◌≤◌, Bool, true, false, eqb, cond, List, [], ◌∷◌, ◌++◌, length, get_or, take, Option, Some, None, sym, ap, subst, ◌∙◌, arith, refl, eq-eqb}
use Rattle.std.specs.Prelude.{All, IsTrue, count_by, find, slice_get}
use Rattle.std.proofs.Math.Nat.{mul-le-mul_right}
use Rattle.std.proofs.lemmas.List.{length-append, length-take-le, get_or-append-add}
use Rattle.std.proofs.lemmas.List.Folds.{list_any_at}
use Rattle.std.proofs.lemmas.List.Sums.{sum_by-cons}
use Rattle.std.proofs.lemmas.Option.{slice_get_within, slice_get-get_or, get_or_from_slice_get, same_Some}
use Rattle.mcf_limits.specs.declared.TheConstants.{MAX_LENGTH, MAX_PATH_CELLS}
use Rattle.flow_model.specs.declared.net.Cell.{Cell}
use Rattle.flow_model.specs.declared.net.Commodity.{Commodity}
use Rattle.flow_model.specs.declared.setting.Setting.{Setting}
use Rattle.flow_model.specs.Network.{Network, IsNetwork, IsCommodity}
use Rattle.flow_model.specs.Groups.{group_sources, is_source}
use Rattle.flow_model.specs.Walk.{PositiveWalk}
use Rattle.flow_model.specs.Bound.{walk_length}
use Rattle.flow_model.specs.Least.{IsLeast}
use Rattle.flow_model.specs.Lengths.{AreLengths, greatest_exponent, least_capacity, length_at, lengths_at, lengths_of}
use Rattle.flow_model.proofs.Duality.{no_cell, no_commodity}
use Rattle.fixed_exp.specs.Far.{EmptyAreFar}
use Rattle.fixed_exp.proofs.Passes.{lengths-fit, empty-far}
use Rattle.flow_paths.specs.DualRows.{Potential, DualRows, potential_at}
use Rattle.flow_paths.specs.Certificate.{SourcesHaveRows, lengths_in}
use Rattle.dual_bound.specs.declared.rows.Row.{Row}
use Rattle.dual_bound.specs.Rows.{Fills, sources_of}
use Rattle.dual_bound.specs.Bounds.{IsBoundOf, IsDistance, IsRowWith, ShowsBound}
use Rattle.dual_bound.proofs.DualRows.{row-found}
use Rattle.dual_bound.proofs.Bounding.{Makes, bound-makes, lengths-small, sources-kept}
use Rattle.solver_run.proofs.Duals.{bound-shows}
use Rattle.solver_run.proofs.Short.{least-short}
use Rattle.throughput.specs.declared.part_proof.PartDual.{PartDual}
use Rattle.gates.specs.Gates.{gate, AreGates, gated, IsPrice}
use Rattle.gates.specs.Prices.{IsLeastIfAny}
use Rattle.throughput.specs.declared.loaded.Loaded.{Loaded}
use Rattle.throughput.specs.Loaded.{HasLoaded, IsPrepared, lengths_under}
use Rattle.throughput.proofs.Loading.{cells-long, gates-long}
use Rattle.throughput.specs.Run.{HasNoWalk, HasSomeWalk, IsPartBoundOf}
use Rattle.gates.proofs.Appended.{least-append, lengths-within}
use Rattle.gates.proofs.Pricing.{same_length}

small-cond : (b : Bool) → cond {A = ℕ} b 1 0 ≤ 1
small-cond true = omega arith
small-cond false = omega arith

-- no node has two rows
pub row-once : (net : Network) (dual : DualRows) (v : ℕ) → SourcesHaveRows net dual → v < net.nodes → count_by (λ r. eqb r.node v) dual.potentials ≤ 1
row-once net dual v s l = let small = small-cond (is_source net.commodities v) in omega (arith, s.each v l)

-- the commodity of that number is one of the network
pub named : (net : Network) (k : ℕ) (commodity : Commodity) → IsNetwork net → slice_get net.commodities k ≡ Some commodity → IsCommodity net.nodes commodity
named net k commodity n at =
    subst (λ (x : Commodity). IsCommodity net.nodes x) (get_or_from_slice_get net.commodities k commodity no_commodity at) (n.commodities k no_commodity (slice_get_within net.commodities k commodity at))

-- a source has one row
pub source-one : (net : Network) (dual : DualRows) (k : ℕ) (commodity : Commodity) → IsNetwork net → SourcesHaveRows net dual → slice_get net.commodities k ≡ Some commodity → count_by (λ r. eqb r.node commodity.from) dual.potentials ≡ 1
source-one net dual k commodity n s at =
    let inside = slice_get_within net.commodities k commodity at in
    let is = get_or_from_slice_get net.commodities k commodity no_commodity at in
    let from = ap (λ (x : Commodity). x.from) is in
    let source : is_source net.commodities commodity.from ≡ true = list_any_at (λ (c : Commodity). eqb c.from commodity.from) net.commodities k no_commodity inside (eq-eqb (get_or net.commodities k no_commodity).from commodity.from from) in
    s.each commodity.from (named net k commodity n at).from ∙ ap (λ (b : Bool). cond {A = ℕ} b 1 0) source

any-row : Potential → Type 0
any-row r = Unit {0}

-- the row that stands at the place is the source's
pub placed : (net : Network) (dual : DualRows) (k place : ℕ) (commodity : Commodity) → IsNetwork net → SourcesHaveRows net dual → slice_get net.commodities k ≡ Some commodity
    → find (λ r. eqb r.node commodity.from) dual.potentials ≡ Some (potential_at dual.potentials place) → (potential_at dual.potentials place).node ≡ commodity.from
placed net dual k place commodity n s at is =
    let found = row-found (λ r. r.node ≡ r.node) dual.potentials commodity.from (λ i d l. refl) (source-one net dual k commodity n s at) in
    let same : potential_at dual.potentials place ≡ found.0 = same_Some (potential_at dual.potentials place) found.0 (sym is ∙ found.1) in
    ap (λ (r : Potential). r.node) same ∙ found.2

-- without a price there is no walk
pub none-priced : (net : Network) (lengths others : List ℕ) (dual : DualRows) → IsNetwork net → length lengths ≡ length net.cells → SourcesHaveRows net dual → IsBoundOf net lengths dual → IsLeastIfAny net (lengths ++ others) None → HasNoWalk net
none-priced net lengths others dual n long s bound none k d inside walk w = by_row (row-found (IsRowWith net.nodes (IsDistance net.cells lengths)) dual.potentials commodity.from bound.potentials (source-one net dual k commodity n s at))
  where
    commodity : Commodity
    commodity = get_or net.commodities k d

    at : slice_get net.commodities k ≡ Some (get_or net.commodities k d)
    at = slice_get-get_or net.commodities k d inside

    by_dist : (o : Option ℕ) → IsLeast net.cells lengths (get_or net.commodities k d).from (get_or net.commodities k d).to o → ⊥
    by_dist None is = is walk w
    by_dist (Some x) is = none k (x + get_or (lengths ++ others) (length net.cells + k) 0) (record {
      commodity = get_or net.commodities k d;
      at = at;
      distance = x;
      least = (
        (is.0.0, is.0.1, same_length net.cells lengths others is.0.0 (get_or net.commodities k d).from (get_or net.commodities k d).to long is.0.1 ∙ is.0.2),
        λ other o. omega (arith, same_length net.cells lengths others other (get_or net.commodities k d).from (get_or net.commodities k d).to long o, is.1 other o),
      );
      sum = refl;
    })

    by_row : ((r : Potential) × (find (λ r. eqb r.node (get_or net.commodities k d).from) dual.potentials ≡ Some r) × (r.node ≡ (get_or net.commodities k d).from) × IsRowWith net.nodes (IsDistance net.cells lengths) r) → ⊥
    by_row found =
        let to = (named net k (get_or net.commodities k d) n at).to in
        let dist = found.3.each (get_or net.commodities k d).to to in
        by_dist dist.0 (subst (λ (v : ℕ). IsLeast net.cells lengths v (get_or net.commodities k d).to dist.0) found.2 dist.1)

-- lengths of cells before those of gates

pub front-at : (xs ys : List Cell) (c : ℕ) (cell : Cell) → slice_get xs c ≡ Some cell → slice_get (xs ++ ys) c ≡ Some cell
front-at [] ys c cell e = absurd (let z : None ≡ Some cell = e in cc)
front-at (x ∷ xs) ys zero cell e = e
front-at (x ∷ xs) ys (suc c) cell e = front-at xs ys c cell e

pub back-at : (xs ys : List Cell) (c : ℕ) (cell : Cell) → slice_get ys c ≡ Some cell → slice_get (xs ++ ys) (length xs + c) ≡ Some cell
back-at xs ys c cell e =
    let inside = slice_get_within ys c cell e in
    slice_get-get_or (xs ++ ys) (length xs + c) no_cell (omega (arith, length-append xs ys)) ∙ ap (λ (x : Cell). Some x) (get_or-append-add xs ys c no_cell ∙ get_or_from_slice_get ys c cell no_cell e)

take-lengths : (s : Setting) (top least : ℕ) (xs ys : List Cell) (loads : List ℕ) → length xs ≤ length loads → take (length xs) (lengths_at s top least (xs ++ ys) loads) ≡ lengths_at s top least xs (take (length xs) loads)
take-lengths s top least [] ys loads l = refl
take-lengths s top least (x ∷ xs) ys [] l = absurd (omega arith)
take-lengths s top least (x ∷ xs) ys (y ∷ loads) l = ap (λ (zs : List ℕ). length_at s top least x y ∷ zs) (take-lengths s top least xs ys loads (omega arith))

-- the lengths of all, at most 2 ^ 62
pub all-small : (net : Network) (gates : List Cell) (setting : Setting) (loads : List ℕ) → length loads ≡ length net.cells + length gates → All (λ (x : ℕ). x ≤ MAX_LENGTH) (lengths_of (gated net gates) setting loads)
all-small net gates setting loads e =
    let cells = net.cells ++ gates in
    let long : length loads ≡ length cells = omega (arith, length-append net.cells gates) in
    lengths-small cells (lengths_of (gated net gates) setting loads) (lengths-fit setting (greatest_exponent setting cells loads) cells loads long) (empty-far setting (greatest_exponent setting cells loads) (least_capacity cells) cells loads long)

pub behind-small : (xs ys : List ℕ) (m : ℕ) → All (λ (x : ℕ). x ≤ m) (xs ++ ys) → All (λ (x : ℕ). x ≤ m) ys
behind-small xs ys m h = λ k d l. subst (λ (x : ℕ). x ≤ m) (get_or-append-add xs ys k d) (h (length xs + k) d (omega (arith, length-append xs ys)))

-- ---- what a bound shows

walk-high : (cells : List Cell) (lengths : List ℕ) (u v : ℕ) (walk : List ℕ) → ((c : ℕ) (cell : Cell) → slice_get cells c ≡ Some cell → 1 ≤ cell.cap → get_or lengths c 0 ≤ 2 ^ 52) → PositiveWalk cells u v walk → walk_length lengths walk ≤ length walk * 2 ^ 52
walk-high cells lengths u v [] high w = omega arith
walk-high cells lengths u v (c ∷ walk) high w = omega (arith, sum_by-cons (λ (d : ℕ). get_or lengths d 0) c walk, high c w.1.0 w.1.1 w.1.2, walk-high cells lengths w.0 v walk high w.2)

-- what follows for the dual and the threshold
pub record IsSound (net : Network) (b : PartDual) : Type 0 where
  pub shows : ShowsBound net (lengths_in net b.dual) b.dual
  pub positive : 1 ≤ b.threshold
  pub limit : b.threshold ≤ MAX_LENGTH

price-fits : (net : Network) (gates : List Cell) (lengths : List ℕ) (k price : ℕ) → IsNetwork net → AreGates net gates → AreLengths (net.cells ++ gates) lengths → IsPrice net lengths k price → (1 ≤ price) × (price ≤ MAX_LENGTH)
price-fits net gates lengths k price n are fits p =
    let commodity = p.commodity in
    let c = named net k commodity n p.at in
    let walk = p.least.0.0 in
    let joined = are.joined k commodity p.at (walk, p.least.0.1) in
    let at = back-at net.cells gates k (gate commodity commodity.amount) joined in
    let some = c.positive in
    let low = fits.low (length net.cells + k) (gate commodity commodity.amount) at some in
    let high = fits.high (length net.cells + k) (gate commodity commodity.amount) at some in
    let long = least-short net lengths commodity.from commodity.to walk n (λ d cell here cap. fits.low d cell (front-at net.cells gates d cell here) cap) c.from
    (record { walks = p.least.0.1; least = λ other w. omega (arith, p.least.0.2, p.least.1 other w) }) in
    let few : length walk ≤ MAX_PATH_CELLS = omega (arith, n.nodes) in
    let most : length walk * 2 ^ 52 ≤ MAX_PATH_CELLS * 2 ^ 52 = mul-le-mul_right (2 ^ 52) few in
    let far = walk-high net.cells lengths commodity.from commodity.to walk (λ d cell here cap. fits.high d cell (front-at net.cells gates d cell here) cap) p.least.0.1 in
    (omega (arith, p.sum), omega (arith, p.sum, p.least.0.2))

pub part-sound : (net : Network) (gates : List Cell) (setting : Setting) (loads : List ℕ) (b : PartDual) → IsNetwork net → AreGates net gates → length loads ≡ length net.cells + length gates
    → IsPartBoundOf net (lengths_of (gated net gates) setting loads) b → IsSound net b
part-sound net gates setting loads b n are e bound =
    let cells = net.cells ++ gates in
    let long : length loads ≡ length cells = omega (arith, length-append net.cells gates) in
    let top = greatest_exponent setting cells loads in
    let least = least_capacity cells in
    let front = take (length net.cells) loads in
    let size : length front ≡ length net.cells = length-take-le (length net.cells) loads (omega arith) in
    let own = lengths_at setting top least net.cells front in
    let split : take (length net.cells) (lengths_at setting top least cells loads) ≡ own = take-lengths setting top least net.cells gates loads (omega arith) in
    let dual : IsBoundOf net own b.dual = subst (λ (xs : List ℕ). IsBoundOf net xs b.dual) split bound.dual in
    let shows = bound-shows net own b.dual n (lengths-within setting top least net.cells front size (omega (arith, least-append net.cells gates))) (empty-far setting top least net.cells front size) dual in
    let price = price-fits net gates (lengths_at setting top least cells loads) bound.threshold.some.0 b.threshold n are (lengths-fit setting top cells loads long) bound.threshold.some.1 in
    record {
      shows = subst (λ (xs : List ℕ). ShowsBound net xs b.dual) (sym shows.lengths_are) shows;
      positive = price.0;
      limit = price.1;
    }

-- rows that were filled make the dual of the lengths
pub rows-make : (net : Network) (lengths : List ℕ) (old new : List Row) → IsNetwork net → AreLengths net.cells lengths → EmptyAreFar net.cells lengths → length new ≡ length old → sources_of old ≡ group_sources net
    → ((k : ℕ) (d : Row) → k < length old → Fills net lengths (get_or old k d) (get_or new k d)) → All (λ (row : Row). IsTrue row.is_filled) new → Makes net lengths (IsDistance net.cells lengths) new
rows-make net lengths old new n long far size sources fills all =
    bound-makes net lengths new n long far (sources-kept old new size (λ k d l. (fills k d l).source) ∙ sources) (λ k d l. (fills k d (omega arith)).filled (all k d l))

-- the same of what is loaded
pub loaded-sound : (net : Network) (gates : List Cell) (least : ℕ) (setting : Setting) (s : Loaded) (b : PartDual) → IsPrepared net gates least → HasLoaded net s → IsPartBoundOf net (lengths_under net gates setting s) b → IsSound net b
loaded-sound net gates least setting s b on has bound =
    part-sound net gates setting (s.cells.items ++ s.gates.items) b on.network on.gates_are
    (length-append s.cells.items s.gates.items ∙ (let one = cells-long net has.0 s has.1 in let two = gates-long net has.0 s has.1 in let three = on.gates_are.count in omega arith)) bound

pub none-and-some : (net : Network) → HasNoWalk net → HasSomeWalk net → ⊥
none-and-some net none (i, k, at, joined) =
    let inside = slice_get_within net.commodities i k at in
    let is = get_or_from_slice_get net.commodities i k k at in
    none i k inside joined.0 (subst (λ (x : Commodity). PositiveWalk net.cells x.from x.to joined.0) (sym is) joined.1)
