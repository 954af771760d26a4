-- How the one worker of a pass gets on with its last entry.
use Rattle.std.specs.Prelude.{◌≡◌, ℕ, ◌<◌, List, [], ◌∷◌, ◌++◌, All, length}
use Rattle.flow_core.specs.declared.state.Entry.{Entry}
use Rattle.flow_core.specs.declared.state.Worker.{Worker}
use Rattle.flow_core.specs.Core.{Terms, entry, worker, cell_count, commodity_count, group_of}
use Rattle.load_table.specs.declared.view.View.{View}
use Rattle.load_table.specs.Views.{with_work}
use Rattle.load_table.specs.Adding.{more_adds, adds_along}
use Rattle.load_table.specs.Reading.{put_reads}
use Rattle.phase_engine.specs.Routes.{Route}

-- all is read, nothing is added, and these are members of the group
abbrev pub IsReadyForAll : Terms → List ℕ → Entry → Type 0
IsReadyForAll t members e = (length e.reads ≡ cell_count t) × (e.adds ≡ []) × All (λ k. (k < commodity_count t) × (group_of t k ≡ e.ticket)) members

-- the worker after these reads, and after these adds found these words
abbrev pub finishes : List ℕ → List (ℕ × ℕ) → List ℕ → Worker → Worker
finishes reads adds found u = worker (more_adds adds (put_reads reads u.log)) u.stopped u.ticket (u.found ++ found)

-- the view after these reads and adds, whatever words the adds found, one each
abbrev pub HasFinished : List ℕ → List (ℕ × ℕ) → View → View → Type 0
HasFinished reads adds old new = (found : List ℕ) × (length found ≡ length adds) × (new ≡ with_work (finishes reads adds found) old)

-- the adds of routes, one after the other
abbrev pub adds_of : List Route → List (ℕ × ℕ)
adds_of [] = []
adds_of (r ∷ rs) = adds_along r.commodity r.path ++ adds_of rs

-- just claimed, with this ticket
abbrev pub IsClaimed : ℕ → Entry → Type 0
IsClaimed ticket e = e ≡ entry ticket [] []
