-- The turns of a phase, one more at a time.
use Rattle.std.proofs.Common.{◌≡◌, ℕ, ◌+◌, ◌<◌, ◌≤◌, List, [], ◌∷◌, ◌++◌, length, length-append, get_or, take, Option, Some, inl, inr, refl, sym, ap, subst, ◌∙◌, arith, append_assoc, append-nil}
use Rattle.std.specs.Prelude.{slice_get}
use Rattle.std.proofs.Math.Seq.{get_or-append_seam, take-length}
use Rattle.std.proofs.lemmas.Bool.{cases_lt}
use Rattle.std.proofs.lemmas.List.{take-append-le, get_or_append_left}
use Rattle.std.proofs.lemmas.List.Sums.{sum_by-cons, sum_by-append, sum_by_more, sum_by-take-drop}
use Rattle.std.proofs.lemmas.Option.{slice_get_within, slice_get-get_or, get_or_from_slice_get}
use Rattle.flow_model.specs.declared.setting.Setting.{Setting}
use Rattle.flow_model.specs.declared.net.Commodity.{Commodity}
use Rattle.flow_model.specs.Network.{Network}
use Rattle.flow_model.specs.Routing.{Row}
use Rattle.flow_model.proofs.Duality.{no_commodity}
use Rattle.flow_paths.specs.PathRows.{no_row}
use Rattle.hop_solve.specs.declared.turns.Routed.{Routed}
use Rattle.hop_solve.specs.Run.{IsTurn}
use Rattle.hop_solve.specs.Turns.{weight_of, amount_of, amount_at, IsRouted, HasRoom, HasTurned, HasPhase}

-- behind these turns the first k commodities had their turns
pub record HasBegun (net : Network) (limits : List (Option ℕ)) (before : List Row) (k : ℕ) (old new : Routed) : Type 0 where
  pub turns : List Row
  pub count : length turns ≡ k
  pub each : (j : ℕ) (turn : Row) → slice_get turns j ≡ Some turn → IsTurn net limits old.table.setting (before ++ take j turns) j turn
  pub weight : k ≤ length net.commodities → weight_of turns ≡ amount_of (take k net.commodities)
  pub routed : IsRouted net (before ++ turns) new

-- none so far
pub begun-none : (net : Network) (limits : List (Option ℕ)) (before : List Row) (old : Routed) → IsRouted net before old → HasBegun net limits before 0 old old
begun-none net limits before old is = record {
  turns = [];
  count = refl;
  each = λ j turn at. absurd (none j turn at);
  weight = λ l. refl;
  routed = subst (λ (rows : List Row). IsRouted net rows old) (sym (append-nil before)) is;
}
  where
    none : (j : ℕ) (turn : Row) → slice_get [] j ≡ Some turn → ⊥
    none j turn at = cc

-- the turn at a place of turns with one more
turn-at : (P : ℕ → Row → Type 0) (turns : List Row) (turn : Row) → ((j : ℕ) (x : Row) → slice_get turns j ≡ Some x → P j x) → P (length turns) turn → (j : ℕ) (x : Row) → slice_get (turns ++ turn ∷ []) j ≡ Some x → P j x
turn-at P turns turn before here j x at =
    let inside = slice_get_within (turns ++ turn ∷ []) j x at in
    let is : get_or (turns ++ turn ∷ []) j no_row ≡ x = get_or_from_slice_get (turns ++ turn ∷ []) j x no_row at in
    elim (cases_lt j (length turns)) as (λ _. P j x) [
      | inl l ↦ before j x (slice_get-get_or turns j no_row l ∙ ap Some (sym (get_or_append_left turns (turn ∷ []) no_row j l) ∙ is))
      | inr m ↦
          let last : length turns ≡ j = omega (arith, inside, m, length-append turns (turn ∷ [])) in
          let same : turn ≡ x = sym (get_or-append_seam turns turn [] no_row) ∙ ap (λ (i : ℕ). get_or (turns ++ turn ∷ []) i no_row) last ∙ is in
          subst (λ (i : ℕ). P i x) last (subst (P (length turns)) same here)
    ]

-- one more
pub begun-more : (net : Network) (limits : List (Option ℕ)) (before : List Row) (k : ℕ) (old now new : Routed) → k < length net.commodities → now.table.setting ≡ old.table.setting → (b : HasBegun net limits before k old now)
    → HasTurned net limits (before ++ b.turns) k now new → HasBegun net limits before (k + 1) old new
begun-more net limits before k old now new l setting b t =
    let turns = b.turns ++ t.turn ∷ [] in
    let is : IsTurn net limits old.table.setting (before ++ b.turns) k t.turn = subst (λ (s : Setting). IsTurn net limits s (before ++ b.turns) k t.turn) setting t.is in
    record {
      turns = turns;
      count = omega (arith, length-append b.turns (t.turn ∷ []), b.count);
      each = turn-at (λ j x. IsTurn net limits old.table.setting (before ++ take j turns) j x) b.turns t.turn
          (λ j x at. (
          let less = slice_get_within b.turns j x at in
          subst (λ (ts : List Row). IsTurn net limits old.table.setting (before ++ ts) j x) (sym (take-append-le j b.turns (t.turn ∷ []) (omega arith))) (b.each j x at)
          ))
          (subst (λ (ts : List Row). IsTurn net limits old.table.setting (before ++ ts) (length b.turns) t.turn) (sym (take-append-le (length b.turns) b.turns (t.turn ∷ []) (omega arith) ∙ take-length b.turns))
          (subst (λ (j : ℕ). IsTurn net limits old.table.setting (before ++ b.turns) j t.turn) (sym b.count) is));
      weight = λ m.
          let amount : t.turn.weight ≡ (get_or net.commodities k no_commodity).amount = is.whole ∙ ap (λ (x : Commodity). x.amount) (sym (get_or_from_slice_get net.commodities k is.commodity no_commodity is.at)) in
          let more = sum_by_more (λ (x : Commodity). x.amount) net.commodities k no_commodity l in
          let split = sum_by-append (λ (r : Row). r.weight) b.turns (t.turn ∷ []) in
          let one = sum_by-cons (λ (r : Row). r.weight) t.turn [] in
          omega (arith, split, one, amount, more, b.weight (omega arith));
      routed = subst (λ (rows : List Row). IsRouted net rows new) (append_assoc before b.turns (t.turn ∷ [])) t.routed;
    }

-- all of them
pub begun-all : (net : Network) (limits : List (Option ℕ)) (before : List Row) (k : ℕ) (old new : Routed) → length net.commodities ≡ k → HasBegun net limits before k old new → HasPhase net limits before old new
begun-all net limits before k old new e b = record {
  turns = b.turns;
  phase = record { count = b.count ∙ sym e; each = b.each };
  routed = b.routed;
}

-- there is room for the next turn
pub room-left : (net : Network) (limits : List (Option ℕ)) (k : ℕ) (old now : Routed) → k < length net.commodities → (room : HasRoom net (length net.commodities) (amount_of net.commodities) old) → HasBegun net limits room.before k old now
    → HasRoom net 1 (amount_at net.commodities k) now
room-left net limits k old now l room b =
    let more = sum_by_more (λ (x : Commodity). x.amount) net.commodities k no_commodity l in
    let parts = sum_by-take-drop (λ (x : Commodity). x.amount) net.commodities (k + 1) in
    let split = sum_by-append (λ (r : Row). r.weight) room.before b.turns in
    record {
      before = room.before ++ b.turns;
      routed = b.routed;
      few = omega (arith, length-append room.before b.turns, b.count, room.few);
      small = omega (arith, split, b.weight (omega arith), more, parts, room.small);
    }
