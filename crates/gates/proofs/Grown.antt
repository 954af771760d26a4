-- Gates, one more at a time.
use Rattle.std.proofs.Common.{◌≡◌, ℕ, ◌+◌, ◌<◌, List, [], ◌∷◌, ◌++◌, length, get_or, Some, inl, inr, ap, sym, subst, ◌∙◌, arith}
use Rattle.std.specs.Prelude.{slice_get}
use Rattle.std.proofs.lemmas.Bool.{cases_lt}
use Rattle.std.proofs.lemmas.List.{get_or_push, get_or_append_left}
use Rattle.std.proofs.lemmas.Option.{slice_get-get_or, slice_get_within}
use Rattle.flow_model.specs.declared.net.Cell.{Cell}
use Rattle.flow_model.specs.declared.net.Commodity.{Commodity}
use Rattle.flow_model.specs.Network.{Network}
use Rattle.flow_model.proofs.Duality.{no_cell}
use Rattle.gates.specs.Gates.{AreGates}
use Rattle.gates.specs.Gating.{IsGate}

-- the first so many commodities have their gates
abbrev pub HaveGates : List Cell → List Commodity → List Cell → ℕ → Type 0
HaveGates over commodities gates n = (j : ℕ) (commodity : Commodity) (d : Cell) → j < n → slice_get commodities j ≡ Some commodity → IsGate over commodity (get_or gates j d)

pub gates-more : (over : List Cell) (commodities : List Commodity) (gates new : List Cell) (k : ℕ) (x : Cell) → length gates ≡ k → new ≡ gates ++ x ∷ []
    → ((commodity : Commodity) → slice_get commodities k ≡ Some commodity → IsGate over commodity x) → HaveGates over commodities gates k → HaveGates over commodities new (k + 1)
gates-more over commodities gates new k x len is here before j commodity d lt at = elim (cases_lt j k) [
  | inl less ↦
      let same : get_or new j d ≡ get_or gates j d = ap (λ (xs : List Cell). get_or xs j d) is ∙ get_or_append_left gates (x ∷ []) d j (omega arith) in
      subst (λ (cell : Cell). IsGate over commodity cell) (sym same) (before j commodity d less at)
  | inr more ↦
      let last : length gates ≡ j = omega arith in
      let place : k ≡ j = omega arith in
      let same : get_or new j d ≡ x = ap (λ (xs : List Cell). get_or xs j d) is ∙ get_or_push gates x d j last in
      subst (λ (cell : Cell). IsGate over commodity cell) (sym same) (here commodity (ap (λ (n : ℕ). slice_get commodities n) place ∙ at))
]

pub gates-done : (net : Network) (gates : List Cell) (k : ℕ) → length gates ≡ k → length net.commodities ≡ k → HaveGates net.cells net.commodities gates k → AreGates net gates
gates-done net gates k len count have = record {
  count = omega arith;
  joined = λ j commodity at walks.
      let inside = slice_get_within net.commodities j commodity at in
      let is = (have j commodity no_cell (omega arith) at).joined walks in
      slice_get-get_or gates j no_cell (omega arith) ∙ ap (λ (x : Cell). Some x) is;
  cut_off = λ j commodity at none.
      let inside = slice_get_within net.commodities j commodity at in
      let is = (have j commodity no_cell (omega arith) at).cut_off none in
      slice_get-get_or gates j no_cell (omega arith) ∙ ap (λ (x : Cell). Some x) is;
}
