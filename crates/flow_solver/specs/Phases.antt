-- Entries phase by phase.
use Rattle.std.specs.Prelude.{ℕ, zero, suc, ◌<◌, List, [], ◌∷◌, All, take, drop, slice_index}
use Rattle.solver_run.specs.declared.options.Entry.{Entry}

-- how many commodities there are, and an entry for each of them in each phase
pub record EntriesView : Type 0 where
  pub commodities : ℕ
  pub phases : List (List Entry)

-- entries cut into phases of `width` entries, one after the other
abbrev pub by_phase : ℕ → ℕ → List Entry → List (List Entry)
by_phase width zero entries = []
by_phase width (suc n) entries = take width entries ∷ by_phase width n (drop width entries)

-- the rows that the entries name are below the number
abbrev pub NamesBelow : ℕ → List Entry → Type 0
NamesBelow n entries = All (λ (e : Entry). e.row < n) entries

-- the entry with the new number of its row
abbrev pub renumbered : List ℕ → Entry → Entry
renumbered numbers e = record { worker = e.worker; row = slice_index numbers e.row }
