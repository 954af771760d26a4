-- The turns of a phase, one after the other.
use Rattle.std.proofs.Common.{◌≡◌, ℕ, ◌+◌, ◌*◌, ◌<◌, ◌≤◌, Bool, true, false, nat_lt, List, [], ◌∷◌, ◌++◌, length, get_or, take, drop, map, Option, None, append_assoc, add-one, sym, ap, subst, ◌∙◌, arith, refl, length-append}
use Rattle.std.specs.List.{range_with_len, sum_by}
use Rattle.std.proofs.Math.Seq.{drop-cons, get_or-append_seam, take-length}
use Rattle.std.proofs.lemmas.Bool.Decides.{nat_tests}
use Rattle.std.proofs.lemmas.List.{append-nil, take-append-le, get_or_append_left}
use Rattle.std.proofs.lemmas.List.Elements.{filter_map-append}
use Rattle.std.proofs.lemmas.List.Sums.{sum_by-cons}
use Rattle.flow_model.specs.declared.net.Cell.{Cell}
use Rattle.flow_model.specs.declared.net.Commodity.{Commodity}
use Rattle.flow_model.specs.declared.setting.Setting.{Setting}
use Rattle.flow_model.specs.Network.{Network}
use Rattle.flow_model.specs.Routing.{Row, carried}
use Rattle.flow_model.specs.Lengths.{lengths_of}
use Rattle.throughput.specs.declared.loaded.Loaded.{Loaded}
use Rattle.gates.specs.Gates.{gated, gated_loads, gated_lengths, IsLeastPrice}
use Rattle.throughput.specs.Run.{IsPartTurn, routed}
use Rattle.throughput.specs.Loaded.{HasTurned, IsLoaded, lengths_under, no_commodity}
use Rattle.throughput.specs.Reached.{HasPhase}

-- the loads behind the rows, and the lengths under them

pub loads-behind : (net : Network) (rows : List Row) (s : Loaded) → IsLoaded net rows s → gated_loads net rows ≡ s.cells.items ++ s.gates.items
loads-behind net rows s is =
    ap (λ (xs : List ℕ). xs ++ map (carried rows) (range_with_len 0 (length net.commodities))) (sym is.cells) ∙ ap (λ (xs : List ℕ). s.cells.items ++ xs) (sym is.gates)

pub lengths-behind : (net : Network) (gates : List Cell) (setting : Setting) (rows : List Row) (s : Loaded) → IsLoaded net rows s → gated_lengths net gates setting rows ≡ lengths_under net gates setting s
lengths-behind net gates setting rows s is = ap (lengths_of (gated net gates) setting) (loads-behind net rows s is)

-- the first k commodities had their turns behind these rows
pub record AreTurned (net : Network) (gates : List Cell) (setting : Setting) (most k : ℕ) (rows : List Row) (now : Loaded) : Type 0 where
  pub turns : List (Option Row)
  pub count : length turns ≡ k
  pub each : (j : ℕ) → j < k → IsPartTurn net (gated_lengths net gates setting (rows ++ routed (take j turns))) most j (get_or turns j None)
  pub loaded : IsLoaded net (rows ++ routed turns) now

pub none-turned : (net : Network) (gates : List Cell) (setting : Setting) (most : ℕ) (rows : List Row) (now : Loaded) → IsLoaded net rows now → AreTurned net gates setting most 0 rows now
none-turned net gates setting most rows now is = record {
  turns = [];
  count = refl;
  each = λ j l. absurd (omega arith);
  loaded = subst (λ (rs : List Row). IsLoaded net rs now) (sym (append-nil rows)) is;
}

below-more : (P : ℕ → Type 0) (n : ℕ) → ((p : ℕ) → p < n → P p) → P n → (p : ℕ) → p < n + 1 → P p
below-more P n before here p l = by_test (nat_lt p n) refl
  where
    by_test : (t : Bool) → nat_lt p n ≡ t → P p
    by_test true e = before p (grind (arith, nat_tests))
    by_test false e = let same : n ≡ p = (let m : n ≤ p = grind (arith, nat_tests) in omega arith) in subst P same here

pub turned-more : (net : Network) (gates : List Cell) (setting : Setting) (most k : ℕ) (rows : List Row) (now next : Loaded) → AreTurned net gates setting most k rows now → HasTurned net gates setting most k now next
    → AreTurned net gates setting most (k + 1) rows next
turned-more net gates setting most k rows now next are has =
    let turns = are.turns in
    let t = has.turn in
    let more = turns ++ t ∷ [] in
    let P : ℕ → Type 0 = λ j. IsPartTurn net (gated_lengths net gates setting (rows ++ routed (take j more))) most j (get_or more j None) in
    let count = are.count in
    let whole : take k more ≡ turns = take-append-le k turns (t ∷ []) (omega arith) ∙ (ap (λ (n : ℕ). take n turns) (sym count) ∙ take-length turns) in
    let last : get_or more k None ≡ t = ap (λ (n : ℕ). get_or more n None) (sym count) ∙ get_or-append_seam turns t [] None in
    let here : P k = subst (λ (x : Option Row). IsPartTurn net (gated_lengths net gates setting (rows ++ routed (take k more))) most k x) (sym last)
    (subst (λ (ts : List (Option Row)). IsPartTurn net (gated_lengths net gates setting (rows ++ routed ts)) most k t) (sym whole)
    (subst (λ (xs : List ℕ). IsPartTurn net xs most k t) (sym (lengths-behind net gates setting (rows ++ routed turns) now are.loaded)) has.is)) in
    let old : (j : ℕ) → j < k → P j = λ j l.
    subst (λ (x : Option Row). IsPartTurn net (gated_lengths net gates setting (rows ++ routed (take j more))) most j x) (sym (get_or_append_left turns (t ∷ []) None j (omega arith)))
    (subst (λ (ts : List (Option Row)). IsPartTurn net (gated_lengths net gates setting (rows ++ routed ts)) most j (get_or turns j None)) (sym (take-append-le j turns (t ∷ []) (omega arith))) (are.each j l)) in
    record {
      turns = more;
      count = length-append turns (t ∷ []) ∙ omega arith;
      each = below-more P k old here;
      loaded = subst (λ (rs : List Row). IsLoaded net rs next)
          (append_assoc rows (routed turns) (routed (t ∷ [])) ∙ ap (λ (rs : List Row). rows ++ rs) (sym (filter_map-append (λ (x : Option Row). x) turns (t ∷ []))))
          (has.rows (rows ++ routed turns) are.loaded);
    }

-- all had their turn
pub phase-done : (net : Network) (gates : List Cell) (setting : Setting) (least : ℕ) (old new : Loaded) → IsLeastPrice net (lengths_under net gates setting old) least
    → ((rows : List Row) → IsLoaded net rows old → AreTurned net gates setting (2 * least) (length net.commodities) rows new) → HasPhase net gates setting old new
phase-done net gates setting least old new start are = record {
  rows = λ rows is.
      let a = are rows is in (
        a.turns,
        record {
          least = least;
          at_start = subst (λ (xs : List ℕ). IsLeastPrice net xs least) (sym (lengths-behind net gates setting rows old is)) start;
          count = a.count;
          each = a.each;
        },
        a.loaded,
      );
}

-- what is left of the amounts
pub amounts-left : (cs : List Commodity) (k : ℕ) → k < length cs → sum_by (λ (x : Commodity). x.amount) (drop k cs) ≡ (get_or cs k no_commodity).amount + sum_by (λ (x : Commodity). x.amount) (drop (k + 1) cs)
amounts-left cs k l =
    let f : Commodity → ℕ = λ x. x.amount in
    ap (sum_by f) (drop-cons cs k no_commodity l ∙ ap (λ (n : ℕ). get_or cs k no_commodity ∷ drop n cs) (sym (add-one k))) ∙ sum_by-cons f (get_or cs k no_commodity) (drop (k + 1) cs)
