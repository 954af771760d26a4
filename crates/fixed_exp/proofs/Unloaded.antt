-- Cells without loads.
use Rattle.std.proofs.Common.{◌≡◌, ℕ, ◌*◌, ◌<◌, ◌/◌, List, [], ◌∷◌, length, replicate, refl, inl, inr}
use Rattle.std.proofs.Math.Nat.{zero-div, zero-mul}
use Rattle.std.proofs.lemmas.Bool.{eq-eqb, ne_eqb, cases_eq}
use Rattle.std.proofs.lemmas.List.{get_or-replicate}
use Rattle.std.specs.Prelude.{Bool, true, false, if◌then◌else◌}
use Rattle.flow_model.specs.declared.net.Cell.{Cell}
use Rattle.flow_model.specs.declared.setting.Setting.{Setting}
use Rattle.flow_model.specs.Lengths.{exponent, greatest_exponent}
use Rattle.fixed_exp.specs.Kept.{cell_at, KeepsExponent}

none-over : (first : Bool) (cap step n : ℕ) → (if first then 0 else 0 * cap * step / n) ≡ 0
none-over true cap step n = refl
none-over false cap step n = rw (zero-mul cap, zero-mul step) (zero-div n)

pub exponent-unloaded : (s : Setting) (cell : Cell) → exponent s cell 0 ≡ 0
exponent-unloaded s cell = elim (cases_eq cell.cap 0) [
  | inl e ↦ rw (eq-eqb cell.cap 0 e) refl
  | inr n ↦ rw (ne_eqb cell.cap 0 n) (none-over s.first s.ref_cap s.step (cell.cap * s.ref_load))
]

pub greatest-unloaded : (s : Setting) (cells : List Cell) → greatest_exponent s cells (replicate (length cells) 0) ≡ 0
greatest-unloaded s [] = refl
greatest-unloaded s (cell ∷ cells) = rw (exponent-unloaded s cell, greatest-unloaded s cells) refl

pub kept-unloaded : (s : Setting) (cells : List Cell) (n k : ℕ) → k < n → KeepsExponent s cells (replicate n 0) (replicate n 0) k
kept-unloaded s cells n k l = rw (get_or-replicate {A = ℕ} n k 0 0 l, exponent-unloaded s (cell_at cells k)) refl
