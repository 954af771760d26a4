-- A path that was found makes a turn.
use Rattle.std.proofs.Common.{◌≡◌, ℕ, ◌<◌, List, [], ◌∷◌, ◌++◌, get_or, Option, Some, refl, sym, ap, ◌∙◌, subst, arith}
use Rattle.std.specs.Prelude.{slice_get}
use Rattle.std.proofs.lemmas.Bool.{ltb-true}
use Rattle.std.proofs.lemmas.Option.{get_or_from_slice_get}
use Rattle.flow_model.specs.declared.net.Commodity.{Commodity}
use Rattle.flow_model.specs.Network.{Network}
use Rattle.flow_model.specs.Routing.{Row}
use Rattle.flow_model.specs.Lengths.{lengths_of}
use Rattle.flow_model.proofs.Duality.{no_commodity}
use Rattle.flow_paths.specs.Evaluation.{loads_of}
use Rattle.hop_paths.specs.Allowed.{limit_at, IsLeastAllowed}
use Rattle.hop_check.specs.Tables.{AreCounts}
use Rattle.hop_check.proofs.AskedRows.{layer_is_asked}
use Rattle.hop_solve.specs.declared.turns.Routed.{Routed}
use Rattle.hop_solve.specs.Turns.{amount_at, IsRouted, lengths_then, IsFound, HasTurned}

-- the lengths that the table has are those of the loads
pub lengths-then : (net : Network) (before : List Row) (r : Routed) → IsRouted net before r → lengths_then r ≡ lengths_of net r.table.setting (loads_of net before)
lengths-then net before r is = ap (λ (n : Network). lengths_of n r.table.setting r.table.loads) is.net_is ∙ ap (lengths_of net r.table.setting) (is.follows ∙ is.loads)

pub turned-by : (net : Network) (limits : List (Option ℕ)) (before : List Row) (k amount : ℕ) (path : List ℕ) (old new : Routed) → IsFound net limits (lengths_then old) k path → amount ≡ amount_at net.commodities k → IsRouted net before old
    → IsRouted net (before ++ record { commodity = k; walk = path; weight = amount } ∷ []) new → HasTurned net limits before k old new
turned-by net limits before k amount path old new found is before_is after =
    let a = found.least.allowed in
    record {
      turn = record { commodity = k; walk = path; weight = amount };
      is = record {
        commodity = a.commodity;
        at = a.at;
        number = refl;
        whole = is ∙ ap (λ (x : Commodity). x.amount) (get_or_from_slice_get net.commodities k a.commodity no_commodity a.at);
        least = subst (λ (ls : List ℕ). IsLeastAllowed net limits ls k path) (lengths-then net before old before_is) found.least;
      };
      routed = after;
    }

-- a limit is an index of a layer that its source is asked for
pub limit-below : (net : Network) (limits : List (Option ℕ)) (counts : List ℕ) (k n : ℕ) (commodity : Commodity) → AreCounts net limits counts → slice_get net.commodities k ≡ Some commodity → commodity.from < net.nodes → limit_at limits k ≡ Some n → n < get_or counts commodity.from 0
limit-below net limits counts k n commodity are at l is =
    ltb-true n (get_or counts commodity.from 0) (sym (are.each commodity.from n l) ∙ layer_is_asked net limits k n n commodity at is (omega arith))
