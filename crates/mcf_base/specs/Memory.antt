-- Files and output in memory, which fail where they are told to.
use Rattle.std.specs.Prelude.{◌≡◌, ◌⊎◌, ℕ, ◌+◌, ◌-◌, ◌^◌, min, List, length, Option, Some, None, Contains}
use Rattle.mcf_base.specs.Faults.{Faults, WriteFaults}
use Rattle.mcf_base.specs.Shelf.{File, ShelfView, first_named}

-- the number of the call that comes next: it stands still at its type's end
abbrev pub next_call : ℕ → ℕ
next_call calls = min (calls + 1) (2 ^ 64 - 1)

-- the files, how many bytes a read gives at most, the numbers of the calls that fail, how many calls there were, the
-- names that were started, and the name and the rest of the started file
pub record MemoryFiles : Type 0 where
  pub files : List File
  pub most : ℕ
  pub failing : List ℕ
  pub calls : ℕ
  pub names : List (List ℕ)
  pub started : Option (List ℕ)
  pub left : Option (List ℕ)
  pub faults : Faults

-- what such a shelf has seen
abbrev pub shelf_seen : MemoryFiles → ShelfView
shelf_seen s = record { holds = Some (first_named s.files); names = s.names; faults = s.faults }

-- the next call is one of those that fail
abbrev pub IsReadFailing : MemoryFiles → Type 0
IsReadFailing s = Contains s.failing (next_call s.calls)

-- the next start of that name fails: its number is one of those that fail, or no file has the name
abbrev pub IsStartFailing : MemoryFiles → List ℕ → Type 0
IsStartFailing s name = IsReadFailing s ⊎ (first_named s.files name ≡ None)

-- a call was counted, and the files and their limits are the same
pub record CountsCall (before now : MemoryFiles) : Type 0 where
  pub files : now.files ≡ before.files
  pub most : now.most ≡ before.most
  pub failing : now.failing ≡ before.failing
  pub calls : now.calls ≡ next_call before.calls

-- what was written, how many bytes there is room for yet, how many a write takes at most, the numbers of the writes
-- that fail, how many writes there were, and the faults
pub record MemoryOutput : Type 0 where
  pub written : List ℕ
  pub room : ℕ
  pub most : ℕ
  pub failing : List ℕ
  pub calls : ℕ
  pub faults : WriteFaults

-- the next write fails: its number is one of those that fail, or no room is left
abbrev pub IsWriteFailing : MemoryOutput → Type 0
IsWriteFailing s = Contains s.failing (next_call s.calls) ⊎ (s.room ≡ 0)

-- how many bytes of a piece the next write takes
abbrev pub taken : MemoryOutput → List ℕ → ℕ
taken s piece = min (min s.room s.most) (length piece)
