-- The weights of a run for the greatest total are at most 2 ^ 62.
use Rattle.std.proofs.Common.{◌≡◌, ℕ, suc, ◌*◌, ◌<◌, ◌≤◌, List, [], ◌∷◌, Option, Some, None, length, get_or, ap, sym, ◌∙◌, arith}
use Rattle.std.specs.Prelude.{All}
use Rattle.std.specs.List.{sum_by, flat_map}
use Rattle.std.proofs.Math.Nat.{mul-le-mul}
use Rattle.std.proofs.lemmas.List.{take_all}
use Rattle.std.proofs.lemmas.List.Elements.{All-head, All-tail}
use Rattle.std.proofs.lemmas.List.Sums.{sum_by-cons, sum_by-append, get_or-le-sum_by}
use Rattle.std.proofs.lemmas.Option.{get_or_from_slice_get}
use Rattle.mcf_limits.specs.declared.TheConstants.{MAX_LENGTH, MAX_PHASES, MAX_TOTAL}
use Rattle.flow_model.specs.declared.net.Commodity.{Commodity}
use Rattle.flow_model.specs.Network.{Network, IsNetwork}
use Rattle.flow_model.specs.Routing.{Row}
use Rattle.flow_model.proofs.Duality.{no_commodity}
use Rattle.route_tally.specs.Tally.{IsTally}
use Rattle.route_tally.proofs.TurnSums.{collected, same_total}
use Rattle.throughput.specs.Partial.{total_of}
use Rattle.throughput.specs.Run.{IsPartTurn, routed, turns_after}

-- what all amounts come to
abbrev amounts : List Commodity → ℕ
amounts cs = sum_by (λ (k : Commodity). k.amount) cs

-- a turn that routes the whole amount of its commodity, or nothing
abbrev IsWhole : Commodity → Option Row → Type 0
IsWhole k None = Unit {0}
IsWhole k (Some row) = row.weight ≡ k.amount

-- turns of all commodities route no more than all amounts
turns-within : (cs : List Commodity) (turns : List (Option Row)) → length turns ≡ length cs → ((k : ℕ) → k < length cs → IsWhole (get_or cs k no_commodity) (get_or turns k None)) → total_of (routed turns) ≤ amounts cs
turns-within [] [] e whole = omega arith
turns-within [] (t ∷ turns) e whole = absurd (omega arith)
turns-within (c ∷ cs) [] e whole = absurd (omega arith)
turns-within (c ∷ cs) (None ∷ turns) e whole =
    let rest = turns-within cs turns (omega arith) (λ k l. whole (suc k) (omega arith)) in
    omega (arith, rest, sum_by-cons (λ (k : Commodity). k.amount) c cs)
turns-within (c ∷ cs) (Some row ∷ turns) e whole =
    let rest = turns-within cs turns (omega arith) (λ k l. whole (suc k) (omega arith)) in
    let first : row.weight ≡ c.amount = whole 0 (omega arith) in
    omega (arith, rest, first, sum_by-cons (λ (k : Commodity). k.amount) c cs, sum_by-cons (λ (r : Row). r.weight) row (routed turns))

-- phases route no more than as many times all amounts
phases-within : (most : ℕ) (phases : List (List (Option Row))) → All (λ (turns : List (Option Row)). total_of (routed turns) ≤ most) phases → total_of (flat_map routed phases) ≤ length phases * most
phases-within most [] h = omega arith
phases-within most (turns ∷ phases) h =
    let rest = phases-within most phases (All-tail (λ (t : List (Option Row)). total_of (routed t) ≤ most) turns phases h) in
    let first = All-head (λ (t : List (Option Row)). total_of (routed t) ≤ most) turns phases h in
    omega (arith, rest, first, sum_by-append (λ (r : Row). r.weight) (routed turns) (flat_map routed phases))

turn-whole : (net : Network) (lengths : List ℕ) (most k : ℕ) (turn : Option Row) → IsPartTurn net lengths most k turn → IsWhole (get_or net.commodities k no_commodity) turn
turn-whole net lengths most k None h = tt
turn-whole net lengths most k (Some row) h = h.whole ∙ ap (λ (c : Commodity). c.amount) (sym (get_or_from_slice_get net.commodities k h.commodity no_commodity h.at))

-- turns of all commodities are within all amounts
pub phase-within : (net : Network) (turns : List (Option Row)) → length turns ≡ length net.commodities
    → ((k : ℕ) → k < length net.commodities → (lengths : List ℕ) × (most : ℕ) × IsPartTurn net lengths most k (get_or turns k None)) → total_of (routed turns) ≤ sum_by (λ (k : Commodity). k.amount) net.commodities
phase-within net turns count each =
    turns-within net.commodities turns count (λ k l. let t = each k l in turn-whole net t.0 t.1 k (get_or turns k None) t.2)

-- each row of the tally of phases is within the limit
pub weights-small : (net : Network) (phases : List (List (Option Row))) (rows : List Row) → IsNetwork net → length phases ≤ MAX_PHASES
    → All (λ (turns : List (Option Row)). total_of (routed turns) ≤ sum_by (λ (k : Commodity). k.amount) net.commodities) phases → IsTally (turns_after phases (length phases)) rows
    → All (λ (row : Row). row.weight ≤ MAX_LENGTH) rows
weights-small net phases rows n few within tally = λ i d l.
    let turns = turns_after phases (length phases) in
    let all : total_of turns ≡ total_of (flat_map routed phases) = ap (λ (ps : List (List (Option Row))). total_of (flat_map routed ps)) (take_all (length phases) phases (omega arith)) in
    let same : total_of rows ≡ total_of turns = same_total turns rows (collected turns rows tally) in
    let most = phases-within (amounts net.commodities) phases within in
    let limit : length phases * amounts net.commodities ≤ MAX_PHASES * MAX_TOTAL = mul-le-mul few n.total in
    omega (arith, same, all, most, limit, get_or-le-sum_by (λ (r : Row). r.weight) rows i d l)
