-- How the one worker of a pass reads all cells for its last entry.
use Rattle.std.specs.Prelude.{◌≡◌, List, [], ◌∷◌, ℕ}
use Rattle.flow_core.specs.declared.state.Entry.{Entry}
use Rattle.flow_core.specs.declared.state.Worker.{Worker}
use Rattle.flow_core.specs.Core.{entry, worker}
use Rattle.load_table.specs.declared.view.Hand.{Hand}

-- of one worker alone, the fact holds of its last entry
abbrev pub LastWhere : (Entry → Type 0) → List Entry → Type 0
LastWhere P [] = ⊥
LastWhere P (e ∷ es) = P e

abbrev pub OneWhere : (Entry → Type 0) → List Hand → Type 0
OneWhere P [] = ⊥
OneWhere P (h ∷ []) = LastWhere P h.work.log
OneWhere P (h ∷ i ∷ hs) = ⊥

-- without reads and adds
abbrev pub IsFresh : Entry → Type 0
IsFresh e = (e.reads ≡ []) × (e.adds ≡ [])

-- the last entry with these reads
abbrev pub put_reads : List ℕ → List Entry → List Entry
put_reads reads [] = []
put_reads reads (e ∷ es) = entry e.ticket reads e.adds ∷ es

abbrev pub reads_all : List ℕ → Worker → Worker
reads_all reads u = worker (put_reads reads u.log) u.stopped u.ticket u.found
