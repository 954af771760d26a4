-- What calls of one function at each number below a count have answered.
use Rattle.std.specs.Prelude.{◌≡◌, ◌⊎◌, ℕ, ◌<◌, List, ◌∷◌, [], ◌++◌, Result, Ok, Option, Some, IfSome, slice_index_or}
use Rattle.std.specs.declared.alloc.AllocError.{AllocError}
use Rattle.std.specs.List.{Contains}
use denote.Param.Members.{Shared}
use Rattle.std.specs.Fn.{FnReturns}

-- the answer was added under its number, or the list is as it was
pub record IsKept {T : Type 0} (i : ℕ) (answer : Result T AllocError) (old new : List (ℕ × T)) : Type 0 where
  pub from : (new ≡ old) ⊎ ((x : T) × (answer ≡ Ok x) × (new ≡ old ++ (i, x) ∷ []))

-- the slot of number i has what it had, or what stands in an entry under i
pub record IsPut {T : Type 0} (entries : List (ℕ × T)) (i : ℕ) (old new : Option T) : Type 0 where
  pub from : (new ≡ old) ⊎ ((x : T) × Contains entries (i, x) × (new ≡ Some x))

module _ {F T : Type 0} (g : Shared F (ℕ × Unit {0}) (Result T AllocError)) (f : F) where
  -- a call of f with i may answer x
  pub record Answers (i : ℕ) (x : T) : Type 0 where
    pub call : FnReturns g f (i, tt) (Ok x)

  -- the slot of number i has what a call of f with i may answer, or nothing
  pub record IsSlot (i : ℕ) (slot : Option T) : Type 0 where
    pub value : IfSome slot (Answers i)

  -- each entry is a number and what a call of f with it may answer
  pub record AreClaimed (entries : List (ℕ × T)) : Type 0 where
    pub each : (i : ℕ) (x : T) → Contains entries (i, x) → Answers i x

  -- each of the first `count` values is what a call of f with its place may answer
  abbrev pub AreAnswers : ℕ → List T → Type 0
  AreAnswers count xs = (i : ℕ) (d : T) → i < count → Answers i (slice_index_or xs i d)
