-- The fullest cell behind turns.
use Rattle.std.proofs.Common.{◌≡◌, ℕ, ◌*◌, ◌<◌, ◌≤◌, nat_eq, cond, List, [], ◌∷◌, length, get_or, refl, subst, arith, eq-eqb, mul-le-mul}
use Rattle.std.specs.Prelude.{All, Option, Some, slice_get}
use Rattle.std.proofs.lemmas.List.Elements.{All-weaker}
use Rattle.std.proofs.lemmas.List.Sums.{sum_by-cons, get_or-le-sum_by}
use Rattle.std.proofs.lemmas.Option.{slice_get_within, get_or_from_slice_get}
use Rattle.mcf_limits.specs.declared.TheConstants.{MAX_UNITS}
use Rattle.flow_model.specs.declared.net.Cell.{Cell}
use Rattle.flow_model.specs.declared.net.Commodity.{Commodity}
use Rattle.flow_model.specs.Network.{Network, IsNetwork}
use Rattle.flow_model.specs.Walk.{times}
use Rattle.flow_model.specs.Routing.{Row, load_of}
use Rattle.flow_model.proofs.Duality.{no_commodity}
use Rattle.gap_fraction.specs.Fraction.{Fraction}
use Rattle.flow_paths.specs.PathRows.{no_row}
use Rattle.flow_paths.specs.Evaluation.{fill, loads_of}
use Rattle.flow_paths.proofs.FillLimits.{fill-positive, fill-cap, fill-load}
use Rattle.flow_paths.proofs.NoneFuller.{fullest}
use Rattle.hop_solve.specs.Turns.{weight_of, IsOnce}
use Rattle.hop_solve.proofs.Turning.{AreOnce, load-within, loads-length, load-at}
use Rattle.hop_solve.proofs.Rounds.{IsGood}

pub good-once : (net : Network) (limits : List (Option ℕ)) (turns : List Row) → All (IsGood net limits) turns → AreOnce turns
good-once net limits turns h = All-weaker (IsGood net limits) (λ (row : Row). IsOnce row.walk) (λ row g. g.once) turns h

-- capacity over load of a cell that is loaded, than which none is fuller
pub record HasFill (net : Network) (turns : List Row) (f : Fraction) : Type 0 where
  pub some : 1 ≤ f.den
  pub cap : f.num ≤ MAX_UNITS
  pub load : f.den ≤ weight_of turns
  pub fits : (c : ℕ) (cell : Cell) → slice_get net.cells c ≡ Some cell → load_of turns c * f.num ≤ f.den * cell.cap

-- the first cell of a walk is loaded
first-cell : (walk : List ℕ) → 1 ≤ length walk → 1 ≤ times (get_or walk 0 0) walk
first-cell [] l = absurd (omega arith)
first-cell (c ∷ walk) l =
    let x = sum_by-cons (λ (y : ℕ). cond {A = ℕ} (nat_eq y c) 1 0) c walk in
    let on : cond {A = ℕ} (nat_eq c c) 1 0 ≡ 1 = rw (eq-eqb c c refl) refl in
    omega (arith, x, on)

some-load : (net : Network) (limits : List (Option ℕ)) (turns : List Row) → IsNetwork net → All (IsGood net limits) turns → 1 ≤ length turns → (c : ℕ) × (c < length net.cells) × (1 ≤ load_of turns c)
some-load net limits turns n h l =
    let turn = get_or turns 0 no_row in
    let g = h 0 no_row l in
    let c = get_or turn.walk 0 0 in
    let inside : c < length net.cells = g.cells 0 0 g.some in
    let part = get_or-le-sum_by (λ (r : Row). r.weight * times c r.walk) turns 0 no_row l in
    let commodity = g.commodity in
    let amount : 1 ≤ commodity.amount = (
    let k = turn.commodity in
    let fits = n.commodities k no_commodity (slice_get_within net.commodities k commodity g.at) in
    subst (λ (x : Commodity). 1 ≤ x.amount) (get_or_from_slice_get net.commodities k commodity no_commodity g.at) fits.positive) in
    let weight : 1 ≤ turn.weight = omega (arith, g.whole) in
    let product : 1 * 1 ≤ turn.weight * times c turn.walk = mul-le-mul weight (first-cell turn.walk g.some) in
    (c, inside, omega (arith, part, product))

pub fill-has : (net : Network) (limits : List (Option ℕ)) (turns : List Row) → IsNetwork net → All (IsGood net limits) turns → 1 ≤ length turns → HasFill net turns (fill net.cells (loads_of net turns))
fill-has net limits turns n h l =
    let some = some-load net limits turns n h l in
    let once = good-once net limits turns h in
    let size = loads-length net turns in
    let full = fullest net.cells (loads_of net turns) size in
    record {
      some = fill-positive net.cells (loads_of net turns) some.0 size some.1 (omega (arith, load-at net turns some.0 0 some.1, some.2));
      cap = fill-cap MAX_UNITS net.cells (loads_of net turns) (omega arith) (λ k d m. (n.cells k d m).cap);
      load = fill-load (weight_of turns) net.cells (loads_of net turns) (λ c d m. (
          let inside : c < length net.cells = omega (arith, size) in
          omega (arith, load-at net turns c d inside, load-within turns c once)
          ));
      fits = λ c cell at. subst (λ (m : ℕ). m * (fill net.cells (loads_of net turns)).num ≤ (fill net.cells (loads_of net turns)).den * cell.cap) (load-at net turns c 0 (slice_get_within net.cells c cell at)) (full.fits c cell at);
    }
