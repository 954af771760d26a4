-- Where words lie: no two at one place, and each within the table.
use Rattle.std.proofs.Common.{◌≡◌, ℕ, ◌<◌, Bool, true, false, List, length, get_or, set, refl, sym, ◌∙◌, subst, arith, get_or-set_same, get_or-set_other, length-set}
use mathlib.Core.Logic.{dite}
use native.Mathlib.Decide.{ℕ_discrete}
use Rattle.load_table.specs.Places.{place}
use Rattle.load_table.specs.Rule.{HasPlaced}

pub place-zero : (wide : Bool) → place wide 0 ≡ 0
place-zero true = refl
place-zero false = refl

pub place-less : (wide : Bool) (i k : ℕ) → i < k → place wide i < place wide k
place-less true i k less = omega arith
place-less false i k less = omega arith

pub place-same : (wide : Bool) (i k : ℕ) → place wide i ≡ place wide k → i ≡ k
place-same true i k same = omega arith
place-same false i k same = omega arith

-- the words stay in their places where one of them changes
pub placed_set : (wide : Bool) (table words : List ℕ) (i x : ℕ) → i < length words → HasPlaced wide table words → HasPlaced wide (set table (place wide i) x) (set words i x)
placed_set wide table words i x inside placed = record {
  room = λ k l. (let a = length-set table (place wide i) x in let b = length-set words i x in let r = placed.room k (omega arith) in omega arith);
  each = λ k l. dite (ℕ_discrete k i)
      (λ same. subst (λ (j : ℕ). get_or (set table (place wide i) x) (place wide j) 0 ≡ get_or (set words i x) j 0) (sym same)
      (get_or-set_same table (place wide i) x 0 (placed.room i inside) ∙ sym (get_or-set_same words i x 0 inside)))
      (λ other. get_or-set_other table (place wide i) (place wide k) x 0 (λ e. other (place-same wide k i e))
      ∙ (placed.each k (let b = length-set words i x in omega arith) ∙ sym (get_or-set_other words i k x 0 other)));
}
