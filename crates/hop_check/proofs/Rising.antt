-- One cell more over which numbers rise.
use Rattle.std.proofs.Common.{◌≡◌, ℕ, ◌+◌, ◌<◌, ◌≤◌, List, Some, get_or, inl, inr, sym, ap, subst, ◌∙◌, arith}
use Rattle.std.specs.Prelude.{slice_get}
use Rattle.std.proofs.lemmas.Bool.{cases_lt}
use Rattle.std.proofs.lemmas.Option.{get_or_from_slice_get}
use Rattle.flow_model.specs.declared.net.Cell.{Cell}
use Rattle.flow_model.specs.Walk.{Goes}
use Rattle.flow_model.proofs.Duality.{no_cell}

-- over the first so many cells no number rises by more than the cell's length
abbrev pub RiseOver : List Cell → List ℕ → List ℕ → List ℕ → ℕ → Type 0
RiseOver cells lengths below above n = (j : ℕ) (cell : Cell) (u v : ℕ) → j < n → slice_get cells j ≡ Some cell → Goes cell u v → get_or above v 0 ≤ get_or below u 0 + get_or lengths j 0

pub rises-more : (cells : List Cell) (lengths below above : List ℕ) (i : ℕ) → RiseOver cells lengths below above i
    → ((u v : ℕ) → Goes (get_or cells i no_cell) u v → get_or above v 0 ≤ get_or below u 0 + get_or lengths i 0) → RiseOver cells lengths below above (i + 1)
rises-more cells lengths below above i all here j cell u v lt at goes = elim (cases_lt j i) [
  | inl less ↦ all j cell u v less at goes
  | inr more ↦
      let is : j ≡ i = omega arith in
      let found : get_or cells i no_cell ≡ cell = ap (λ (n : ℕ). get_or cells n no_cell) (sym is) ∙ get_or_from_slice_get cells j cell no_cell at in
      let passes : Goes (get_or cells i no_cell) u v = subst (λ (x : Cell). Goes x u v) (sym found) goes in
      omega (arith, here u v passes, ap (λ (n : ℕ). get_or lengths n 0) is)
]
