-- Words that are slices of the bytes of a text.
use Rattle.std.specs.Prelude.{◌≡◌, ℕ, ◌+◌, ◌≤◌, List, length}
use Rattle.std.specs.List.{slice_range}
use Rattle.sndlib_grammar.specs.Rows.{NetRows}
use Rattle.sndlib_grammar.specs.Words.{OnNetRows}

-- the word stands at some place in the bytes
pub record IsSliceOf (bytes word : List ℕ) : Type 0 where
  pub at : ℕ
  pub within : at + length word ≤ length bytes
  pub same : slice_range bytes at (at + length word) ≡ word

-- each word of the rows stands somewhere in the bytes: ids, the words of places, capacities, costs and modules, and the words of demands
abbrev pub AreSlicesOf : List ℕ → NetRows → Type 0
AreSlicesOf bytes rows = OnNetRows (IsSliceOf bytes) rows
