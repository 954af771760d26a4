-- The turn of one commodity, from its least distance.
use Rattle.std.proofs.Common.{◌≡◌, ◌≢◌, ℕ, ◌+◌, ◌*◌, ◌/◌, ◌^◌, ◌<◌, ◌≤◌, max, List, [], ◌∷◌, ◌++◌, length, get_or, Option, Some, None, Bool, true, false, eqb, cond, ◌-◌, sym, ap, subst, ◌∙◌, arith, refl}
use Rattle.std.specs.Prelude.{All, slice_get}
use Rattle.std.proofs.lemmas.Bool.Decides.{nat_tests}
use Rattle.std.proofs.lemmas.List.{append-nil}
use Rattle.std.proofs.lemmas.List.Elements.{All-cons, All-nil}
use Rattle.std.proofs.lemmas.Option.{slice_get_within, get_or_from_slice_get}
use Rattle.flow_model.specs.declared.net.Cell.{Cell}
use Rattle.flow_model.specs.declared.net.Commodity.{Commodity}
use Rattle.flow_model.specs.declared.setting.Setting.{Setting}
use Rattle.flow_model.specs.Network.{Network, IsCommodity}
use Rattle.flow_model.specs.Routing.{Row}
use Rattle.flow_model.specs.Walk.{PositiveWalk}
use Rattle.flow_model.specs.Bound.{walk_length}
use Rattle.flow_model.specs.Least.{AreDifferent, IsLeast}
use Rattle.flow_model.specs.Lengths.{AreLengths, exponent, greatest_exponent, least_capacity, length_at, lengths_at}
use Rattle.flow_model.specs.Powers.{weight_of}
use Rattle.mcf_limits.specs.declared.TheConstants.{MAX_LENGTH}
use Rattle.dijkstra_paths.specs.Searched.{IsPath}
use Rattle.flow_model.proofs.Duality.{no_cell, no_commodity}
use Rattle.fixed_exp.specs.Kept.{cell_at}
use Rattle.fixed_exp.proofs.PowerTable.{weight_small}
use Rattle.fixed_exp.proofs.Passes.{get_or-lengths_at, length-lengths_at, least_bounds, greatest_bounds, length_fits}
use Rattle.throughput.specs.declared.loaded.Loaded.{Loaded}
use Rattle.throughput.specs.declared.turns.Tops.{Tops}
use Rattle.gates.specs.Gates.{gate, IsPrice}
use Rattle.gates.specs.Prices.{IsPriceOf}
use Rattle.throughput.specs.Run.{IsPartTurn}
use Rattle.throughput.specs.Loaded.{Follow, HasLoaded, HasTurned, IsLoaded, IsPrepared, lengths_under}
use Rattle.gates.proofs.Appended.{least-append, greatest-append, lengths-append, lengths-within}
use Rattle.gates.proofs.Pricing.{same_length, same_commodity, priced}
use Rattle.throughput.proofs.Loading.{cells-long, gates-long}

-- the lengths of gates under the loads
abbrev pub gate_lengths : List Cell → ℕ → Loaded → Tops → List ℕ
gate_lengths gates least s tops = lengths_at tops.setting (max tops.cells tops.gates) least gates s.gates.items

-- the lengths of cells, and behind them those of gates
pub lengths-split : (net : Network) (gates : List Cell) (least : ℕ) (s : Loaded) (tops : Tops) (lengths : List ℕ) → IsPrepared net gates least → HasLoaded net s → Follow net gates least s tops lengths
    → lengths_under net gates tops.setting s ≡ lengths ++ gate_lengths gates least s tops
lengths-split net gates least s tops lengths on has f =
    let long : length s.cells.items ≡ length net.cells = cells-long net has.0 s has.1 in
    let setting = tops.setting in
    let both = s.cells.items ++ s.gates.items in
    let top : greatest_exponent setting (net.cells ++ gates) both ≡ max tops.cells tops.gates = omega (arith, greatest-append setting net.cells gates s.cells.items s.gates.items long, f.cells_top, f.gates_top) in
    let low : least_capacity (net.cells ++ gates) ≡ least = omega (arith, least-append net.cells gates, on.least_is) in
    ap (λ (t : ℕ). lengths_at setting t (least_capacity (net.cells ++ gates)) (net.cells ++ gates) both) top
    ∙ (ap (λ (l : ℕ). lengths_at setting (max tops.cells tops.gates) l (net.cells ++ gates) both) low
    ∙ (lengths-append setting (max tops.cells tops.gates) least net.cells gates s.cells.items s.gates.items long
    ∙ ap (λ (xs : List ℕ). xs ++ gate_lengths gates least s tops) (sym f.lengths_are)))

pub lengths-long : (net : Network) (gates : List Cell) (least : ℕ) (s : Loaded) (tops : Tops) (lengths : List ℕ) → HasLoaded net s → Follow net gates least s tops lengths → length lengths ≡ length net.cells
lengths-long net gates least s tops lengths has f =
    ap (λ (xs : List ℕ). length xs) f.lengths_are ∙ length-lengths_at tops.setting (max tops.cells tops.gates) least net.cells s.cells.items (cells-long net has.0 s has.1)

-- the length of each cell
pub length-was : (net : Network) (gates : List Cell) (least : ℕ) (s : Loaded) (tops : Tops) (lengths : List ℕ) (i : ℕ) → HasLoaded net s → Follow net gates least s tops lengths → i < length net.cells
    → get_or lengths i 0 ≡ length_at tops.setting (max tops.cells tops.gates) least (cell_at net.cells i) (get_or s.cells.items i 0)
length-was net gates least s tops lengths i has f l =
    ap (λ (xs : List ℕ). get_or xs i 0) f.lengths_are ∙ get_or-lengths_at tops.setting (max tops.cells tops.gates) least net.cells s.cells.items i (cells-long net has.0 s has.1) l

-- what does not stand in a path is not loaded
pub unmoved : (x a n : ℕ) → n ≡ 0 → x + a * n ≡ x
unmoved x a n none = ap (λ (m : ℕ). x + a * m) none ∙ omega arith

pub lengths-fit : (net : Network) (gates : List Cell) (least : ℕ) (s : Loaded) (tops : Tops) (lengths : List ℕ) → IsPrepared net gates least → HasLoaded net s → Follow net gates least s tops lengths → AreLengths net.cells lengths
lengths-fit net gates least s tops lengths on has f =
    subst (AreLengths net.cells) (sym f.lengths_are) (lengths-within tops.setting (max tops.cells tops.gates) least net.cells s.cells.items (cells-long net has.0 s has.1) (omega (arith, on.least_is)))

-- what the length of a gate is taken under
pub gate-least : (net : Network) (gates : List Cell) (least k : ℕ) → IsPrepared net gates least → k < length net.commodities → 1 ≤ (cell_at gates k).cap → least ≤ (cell_at gates k).cap
gate-least net gates least k on inside some = let count = on.gates_are.count in omega (arith, on.least_is, least_bounds gates k (omega arith) some)

pub gate-top : (net : Network) (gates : List Cell) (least : ℕ) (s : Loaded) (tops : Tops) (lengths : List ℕ) (k : ℕ) → IsPrepared net gates least → HasLoaded net s → Follow net gates least s tops lengths → k < length net.commodities
    → exponent tops.setting (cell_at gates k) (get_or s.gates.items k 0) ≤ max tops.cells tops.gates
gate-top net gates least s tops lengths k on has f inside =
    let count = on.gates_are.count in
    omega (arith, f.gates_top, greatest_bounds tops.setting gates s.gates.items k (gates-long net has.0 s has.1 ∙ sym count) (omega arith))

nonzero : (n : ℕ) → eqb n 0 ≡ false → 1 ≤ n
nonzero n e = grind (arith, nat_tests)

within : (b : Bool) (n : ℕ) → (b ≡ false → n ≤ 2 ^ 52) → cond b MAX_LENGTH (max 1 n) ≤ MAX_LENGTH
within true n h = omega arith
within false n h = let small = h refl in omega arith

-- a length is within 2 ^ 62
pub length-small : (setting : Setting) (top least : ℕ) (cell : Cell) (load : ℕ) → (1 ≤ cell.cap → least ≤ cell.cap) → length_at setting top least cell load ≤ MAX_LENGTH
length-small setting top least cell load below =
    within (eqb cell.cap 0) (weight_of (top - exponent setting cell load) * 4096 * least / cell.cap)
    (λ e. length_fits (weight_of (top - exponent setting cell load)) least cell.cap (weight_small (top - exponent setting cell load)) (below (nonzero cell.cap e)))

pub walk-inside : (cells : List Cell) (u v : ℕ) (walk : List ℕ) → PositiveWalk cells u v walk → All (λ c. c < length cells) walk
walk-inside cells u v [] w = All-nil (λ c. c < length cells)
walk-inside cells u v (c ∷ walk) (x, (cell, at, positive, goes), w) = All-cons (λ d. d < length cells) c walk (slice_get_within cells c cell at) (walk-inside cells x v walk w)

-- the path that a search found
pub record IsFoundPath (cells : List Cell) (lengths : List ℕ) (u v d : ℕ) (walk : List ℕ) : Type 0 where
  pub walks : PositiveWalk cells u v walk
  pub long : walk_length lengths walk ≡ d
  pub apart : AreDifferent walk
  pub inside : All (λ c. c < length cells) walk

pub path-found : (cells : List Cell) (lengths : List ℕ) (nodes u v d : ℕ) (walk : List ℕ) (dist : Option ℕ) (path : Option (List ℕ)) → IsPath cells lengths nodes u v dist path → dist ≡ Some d → path ≡ Some walk → IsFoundPath cells lengths u v d walk
path-found cells lengths nodes u v d walk dist path is dist_is path_is =
    let found : IsPath cells lengths nodes u v (Some d) (Some walk) = subst (λ (o : Option ℕ). IsPath cells lengths nodes u v o (Some walk)) dist_is (subst (λ (p : Option (List ℕ)). IsPath cells lengths nodes u v dist p) path_is is) in
    record { walks = found.0; long = found.1; apart = found.2; inside = walk-inside cells u v walk found.0 }

-- the price of the commodity: its distance, and the length of its gate
pub price-now : (net : Network) (gates : List Cell) (least : ℕ) (s : Loaded) (tops : Tops) (lengths : List ℕ) (k d g : ℕ) (commodity : Commodity) → IsPrepared net gates least → HasLoaded net s → Follow net gates least s tops lengths
    → slice_get net.commodities k ≡ Some commodity → IsLeast net.cells lengths commodity.from commodity.to (Some d) → g ≡ length_at tops.setting (max tops.cells tops.gates) least (cell_at gates k) (get_or s.gates.items k 0)
    → IsPriceOf net (lengths_under net gates tops.setting s) k (Some (d + g))
price-now net gates least s tops lengths k d g commodity on has f at is length_is =
    let inside = slice_get_within net.commodities k commodity at in
    let count = on.gates_are.count in
    let named : IsCommodity net.nodes commodity = subst (λ (x : Commodity). IsCommodity net.nodes x) (get_or_from_slice_get net.commodities k commodity no_commodity at) (on.network.commodities k no_commodity inside) in
    let joined = get_or_from_slice_get gates k (gate commodity commodity.amount) no_cell (on.gates_are.joined k commodity at (is.0.0, is.0.1)) in
    let cap : (get_or gates k no_cell).cap ≡ commodity.amount = ap (λ (x : Cell). x.cap) joined in
    let some = named.positive in
    let open_gate : (get_or gates k no_cell).cap ≢ 0 = λ (e : (get_or gates k no_cell).cap ≡ 0). absurd (omega arith) in
    let read : get_or (gate_lengths gates least s tops) k 0 ≡ g =
    get_or-lengths_at tops.setting (max tops.cells tops.gates) least gates s.gates.items k (gates-long net has.0 s has.1 ∙ sym count) (omega arith) ∙ sym length_is in
    subst (λ (xs : List ℕ). IsPriceOf net xs k (Some (d + g))) (sym (lengths-split net gates least s tops lengths on has f))
    (priced net gates lengths (gate_lengths gates least s tops) k d (d + g) commodity (Some d) on.gates_are at (lengths-long net gates least s tops lengths has f) open_gate is refl (omega (arith, read)))

-- nothing is routed without a walk
pub far-turn : (net : Network) (lengths xs : List ℕ) (most k : ℕ) (commodity : Commodity) → slice_get net.commodities k ≡ Some commodity → IsLeast net.cells lengths commodity.from commodity.to None → IsPartTurn net xs most k None
far-turn net lengths xs most k commodity at none price p =
    let same : p.commodity ≡ commodity = same_commodity net k p.commodity commodity p.at at in
    let walk = p.least.0 in
    absurd (none walk.0 (subst (λ (x : Commodity). PositiveWalk net.cells x.from x.to walk.0) same walk.1))

-- nor at a price above the most
pub dear-turn : (net : Network) (xs : List ℕ) (most k price : ℕ) → IsPriceOf net xs k (Some price) → most < price → IsPartTurn net xs most k None
dear-turn net xs most k price is dear other p = omega (arith, is.1 other p)

-- else the whole amount goes along a least walk
pub routed-turn : (net : Network) (lengths others xs : List ℕ) (most k d price : ℕ) (commodity : Commodity) (row : Row) → xs ≡ lengths ++ others → length lengths ≡ length net.cells → slice_get net.commodities k ≡ Some commodity
    → IsLeast net.cells lengths commodity.from commodity.to (Some d) → PositiveWalk net.cells commodity.from commodity.to row.walk → walk_length lengths row.walk ≡ d → row.commodity ≡ k → row.weight ≡ commodity.amount
    → IsPriceOf net xs k (Some price) → price ≤ most → IsPartTurn net xs most k (Some row)
routed-turn net lengths others xs most k d price commodity row split long at least walks is number whole price_is low =
    subst (λ (ys : List ℕ). IsPartTurn net ys most k (Some row)) (sym split) (record {
      commodity = commodity;
      at = at;
      number = number;
      whole = whole;
      least = record {
        walks = walks;
        least = λ other w. omega (arith, same_length net.cells lengths others row.walk commodity.from commodity.to long walks, same_length net.cells lengths others other commodity.from commodity.to long w, is, least.1 other w);
      };
      price = price;
      is_price = subst (λ (ys : List ℕ). IsPrice net ys k price) split price_is.0;
      low = low;
    })

pub turned-none : (net : Network) (gates : List Cell) (setting : Setting) (most k : ℕ) (s : Loaded) → IsPartTurn net (lengths_under net gates setting s) most k None → HasTurned net gates setting most k s s
turned-none net gates setting most k s is = record {
  turn = None;
  is = is;
  rows = λ rows loaded. subst (λ (rs : List Row). IsLoaded net rs s) (sym (append-nil rows)) loaded;
}

pub turned-some : (net : Network) (gates : List Cell) (setting : Setting) (most k : ℕ) (old new : Loaded) (row : Row) → IsPartTurn net (lengths_under net gates setting old) most k (Some row)
    → ((rows : List Row) → IsLoaded net rows old → IsLoaded net (rows ++ row ∷ []) new) → HasTurned net gates setting most k old new
turned-some net gates setting most k old new row is rows = record { turn = Some row; is = is; rows = rows }
