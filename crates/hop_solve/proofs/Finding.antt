-- What a search has found is a least of the allowed walks.
use Rattle.std.proofs.Common.{◌≡◌, ℕ, ◌≤◌, List, length, Option, Some, None, refl, sym, subst, ◌∙◌, arith}
use Rattle.std.specs.Prelude.{slice_get, IfSome, IsSomeAnd, MatchOption}
use Rattle.std.proofs.lemmas.Option.{same_Some}
use Rattle.flow_model.specs.declared.net.Commodity.{Commodity}
use Rattle.flow_model.specs.Network.{Network}
use Rattle.flow_model.specs.Lengths.{AreLengths}
use Rattle.flow_model.specs.Walk.{PositiveWalk}
use Rattle.flow_model.specs.Bound.{walk_length}
use Rattle.flow_model.specs.Least.{IsLeast}
use Rattle.dijkstra_paths.specs.Searched.{IsPath}
use Rattle.hop_paths.specs.Allowed.{limit_at, IsWithin, IsAllowed, IsShortWalk, IsLeastOf}
use Rattle.hop_paths.specs.Searched.{IsShortPath}
use Rattle.hop_solve.specs.Turns.{IsFound, Finds}
use Rattle.hop_solve.proofs.Once.{IsLeastShort, least-once, cells-inside}

-- an allowed walk goes between the commodity's ends, within its limit
allowed-walk : (net : Network) (limits : List (Option ℕ)) (k : ℕ) (commodity : Commodity) (walk : List ℕ) → slice_get net.commodities k ≡ Some commodity → IsAllowed net limits k walk → PositiveWalk net.cells commodity.from commodity.to walk
allowed-walk net limits k commodity walk at a = subst (λ (x : Commodity). PositiveWalk net.cells x.from x.to walk) (same_Some a.commodity commodity (sym a.at ∙ at)) a.walks

-- a walk that is a least one
found-by : (net : Network) (limits : List (Option ℕ)) (lengths : List ℕ) (k : ℕ) (commodity : Commodity) (walk : List ℕ) → slice_get net.commodities k ≡ Some commodity → AreLengths net.cells lengths
    → PositiveWalk net.cells commodity.from commodity.to walk → IsWithin (limit_at limits k) walk → ((other : List ℕ) → IsAllowed net limits k other → walk_length lengths walk ≤ walk_length lengths other)
    → IsLeastShort net.cells lengths commodity.from commodity.to walk → IsFound net limits lengths k walk
found-by net limits lengths k commodity walk at long w within least short = record {
  least = record { allowed = record { commodity = commodity; at = at; walks = w; within = within }; least = least };
  cells = cells-inside net.cells commodity.from commodity.to walk w;
  once = least-once net.cells lengths commodity.from commodity.to walk long w short;
}

-- any walk is within no limit
pub within-none : (o : Option ℕ) (walk : List ℕ) → o ≡ None → IsWithin o walk
within-none o walk e = subst (λ (x : Option ℕ). IsWithin x walk) (sym e) tt

pub plain-finds : (net : Network) (limits : List (Option ℕ)) (lengths : List ℕ) (nodes k : ℕ) (commodity : Commodity) (d : Option ℕ) (p : Option (List ℕ)) → slice_get net.commodities k ≡ Some commodity → AreLengths net.cells lengths → limit_at limits k ≡ None
    → IsLeast net.cells lengths commodity.from commodity.to d → IsPath net.cells lengths nodes commodity.from commodity.to d p → Finds net limits lengths k p
plain-finds net limits lengths nodes k commodity None p at long free least path =
    subst (Finds net limits lengths k) (sym path) (λ walk a. least walk (allowed-walk net limits k commodity walk at a))
plain-finds net limits lengths nodes k commodity (Some d) None at long free least path = absurd path
plain-finds net limits lengths nodes k commodity (Some d) (Some walk) at long free least path =
    let below : (other : List ℕ) → PositiveWalk net.cells commodity.from commodity.to other → walk_length lengths walk ≤ walk_length lengths other = λ other w. omega (arith, path.1, least.1 other w) in
    found-by net limits lengths k commodity walk at long path.0 (within-none (limit_at limits k) walk free) (λ other a. below other (allowed-walk net limits k commodity other at a)) (λ other w few. below other w)

-- a least of all walks that is within the limit
pub short-finds : (net : Network) (limits : List (Option ℕ)) (lengths : List ℕ) (nodes k n : ℕ) (commodity : Commodity) (d : Option ℕ) (p : Option (List ℕ)) → slice_get net.commodities k ≡ Some commodity → AreLengths net.cells lengths → limit_at limits k ≡ Some n
    → IsLeast net.cells lengths commodity.from commodity.to d → IsPath net.cells lengths nodes commodity.from commodity.to d p → MatchOption p (Unit {0}) (λ walk. length walk ≤ n) → Finds net limits lengths k p
short-finds net limits lengths nodes k n commodity None p at long is least path short =
    subst (Finds net limits lengths k) (sym path) (λ walk a. least walk (allowed-walk net limits k commodity walk at a))
short-finds net limits lengths nodes k n commodity (Some d) None at long is least path short = absurd path
short-finds net limits lengths nodes k n commodity (Some d) (Some walk) at long is least path short =
    let below : (other : List ℕ) → PositiveWalk net.cells commodity.from commodity.to other → walk_length lengths walk ≤ walk_length lengths other = λ other w. omega (arith, path.1, least.1 other w) in
    found-by net limits lengths k commodity walk at long path.0 (subst (λ (o : Option ℕ). IsWithin o walk) (sym is) short) (λ other a. below other (allowed-walk net limits k commodity other at a)) (λ other w few. below other w)

-- an allowed walk of a limited commodity is short
short-walk : (net : Network) (limits : List (Option ℕ)) (k n : ℕ) (commodity : Commodity) (walk : List ℕ) → slice_get net.commodities k ≡ Some commodity → limit_at limits k ≡ Some n → IsAllowed net limits k walk
    → IsShortWalk net.cells commodity.from commodity.to n walk
short-walk net limits k n commodity walk at is a = (allowed-walk net limits k commodity walk at a, subst (λ (o : Option ℕ). IsWithin o walk) is a.within)

pub layered-finds : (net : Network) (limits : List (Option ℕ)) (lengths : List ℕ) (k n : ℕ) (commodity : Commodity) (d : Option ℕ) (p : Option (List ℕ)) → slice_get net.commodities k ≡ Some commodity → AreLengths net.cells lengths → limit_at limits k ≡ Some n
    → IsLeastOf (IsShortWalk net.cells commodity.from commodity.to n) lengths d → (d ≡ None → p ≡ None) → IfSome d (λ d. IsSomeAnd p (IsShortPath net.cells lengths commodity.from commodity.to n d)) → Finds net limits lengths k p
layered-finds net limits lengths k n commodity None p at long is least none path =
    subst (Finds net limits lengths k) (sym (none refl)) (λ walk a. least walk (short-walk net limits k n commodity walk at is a))
layered-finds net limits lengths k n commodity (Some d) None at long is least none path = absurd path
layered-finds net limits lengths k n commodity (Some d) (Some walk) at long is least none path =
    let below : (other : List ℕ) → IsShortWalk net.cells commodity.from commodity.to n other → walk_length lengths walk ≤ walk_length lengths other = λ other w. omega (arith, path.1, least.1 other w) in
    found-by net limits lengths k commodity walk at long path.0.0 (subst (λ (o : Option ℕ). IsWithin o walk) (sym is) path.0.1) (λ other a. below other (short-walk net limits k n commodity other at is a))
    (λ other w few. below other (w, omega (arith, few, path.0.1)))
