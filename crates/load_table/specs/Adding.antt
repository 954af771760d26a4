-- How the one worker of a pass adds a commodity's amount along a path.
use Rattle.std.specs.Prelude.{◌≡◌, ◌≢◌, ℕ, ◌+◌, ◌%◌, ◌^◌, ◌<◌, List, [], ◌∷◌, ◌++◌, All, length, map, slice_index}
use Rattle.flow_core.specs.declared.state.Entry.{Entry}
use Rattle.flow_core.specs.declared.state.Worker.{Worker}
use Rattle.flow_core.specs.Core.{Terms, entry, worker, cell_count, commodity_count, group_of}
use Rattle.load_table.specs.declared.view.View.{View}
use Rattle.load_table.specs.Views.{with_work}

-- all is read, and k is a member of the group, above the commodities of all adds
abbrev pub IsReadyFor : Terms → ℕ → Entry → Type 0
IsReadyFor t k e = (length e.reads ≡ cell_count t) × (k < commodity_count t) × (group_of t k ≡ e.ticket) × All (λ (x : ℕ × ℕ). x.0 < k) e.adds

-- the last entry with these adds after its own
abbrev pub more_adds : List (ℕ × ℕ) → List Entry → List Entry
more_adds adds [] = []
more_adds adds (e ∷ es) = entry e.ticket e.reads (e.adds ++ adds) ∷ es

-- the worker after these adds found these words
abbrev pub adds_all : List (ℕ × ℕ) → List ℕ → Worker → Worker
adds_all adds found u = worker (more_adds adds u.log) u.stopped u.ticket (u.found ++ found)

-- the view after these adds, whatever words they found, one each
abbrev pub HasAddedAll : List (ℕ × ℕ) → View → View → Type 0
HasAddedAll adds old new = (found : List ℕ) × (length found ≡ length adds) × (new ≡ with_work (adds_all adds found) old)

-- the adds of a path
abbrev pub adds_along : ℕ → List ℕ → List (ℕ × ℕ)
adds_along k path = map (λ (c : ℕ). (k, c)) path

-- the words, of which the first is that of claims: after an add along a path of different cells this amount more modulo 2 ^ 64 where
-- the cell is on it, and elsewhere as before
pub record AreMoreAlong (amount : ℕ) (path old new : List ℕ) : Type 0 where
  pub count : length new ≡ length old
  pub on : All (λ c. slice_index new (c + 1) ≡ (slice_index old (c + 1) + amount) % 2 ^ 64) path
  pub off : (i : ℕ) → All (λ c. c + 1 ≢ i) path → slice_index new i ≡ slice_index old i
