-- The core: claims, reads and adds of numbered workers.
use Rattle.std.specs.Prelude.{◌≡◌, ℕ, ◌+◌, ◌<◌, ◌≤◌, ◌==◌, nat_lt, ◌||◌, ◌&&◌, Bool, true, false, if◌then◌else◌, List, [], ◌∷◌, ◌++◌, map, length, replicate, slice_get, slice_index, slice_index_or, slice_set, Some}
use Rattle.flow_model.specs.declared.net.Commodity.{Commodity}
use Rattle.flow_model.specs.declared.setting.Setting.{Setting}
use Rattle.flow_model.specs.Network.{Network, IsNetwork}
use Rattle.flow_model.specs.Groups.{group_count, group_in}
use Rattle.flow_model.specs.Lengths.{lengths_of}
use Rattle.flow_model.specs.Least.{IsLeastWalk, AreDifferent}
use Rattle.mcf_limits.specs.declared.TheConstants.{MAX_LENGTH, MAX_WORKERS}
use Rattle.flow_core.specs.declared.state.Entry.{Entry}
use Rattle.flow_core.specs.declared.state.Worker.{Worker}
use Rattle.flow_core.specs.declared.state.Words.{Words}

-- what a phase starts from
pub record Terms : Type 0 where
  pub net : Network
  pub setting : Setting
  pub base : List ℕ
  pub workers : ℕ

abbrev pub cell_count : Terms → ℕ
cell_count t = length t.net.cells

abbrev pub ticket_count : Terms → ℕ
ticket_count t = group_count t.net

abbrev pub group_of : Terms → ℕ → ℕ
group_of t k = group_in t.net k

abbrev pub commodity_count : Terms → ℕ
commodity_count t = length t.net.commodities

abbrev pub amounts : Terms → List ℕ
amounts t = map (λ (k : Commodity). k.amount) t.net.commodities

abbrev pub amount_of : Terms → ℕ → ℕ
amount_of t k = slice_index (amounts t) k

abbrev pub total : {A : Type 0} → (A → ℕ) → List A → ℕ
total f [] = 0
total f (x ∷ xs) = f x + total f xs

pub record IsStart (t : Terms) : Type 0 where
  pub net : IsNetwork t.net
  pub base : length t.base ≡ cell_count t
  pub room : (c : ℕ) → slice_index t.base c + total (λ a. a) (amounts t) ≤ MAX_LENGTH
  pub some_worker : 0 < t.workers
  pub few_workers : t.workers ≤ MAX_WORKERS

abbrev pub State : Type 0
State = Words

pub data Event : Type 0 where
  claim : ℕ → Event
  read : ℕ → Event
  add : ℕ → ℕ → ℕ → Event

abbrev pub entry : ℕ → List ℕ → List (ℕ × ℕ) → Entry
entry k reads adds = record { ticket = k; reads = reads; adds = adds }

abbrev pub worker : List Entry → Bool → ℕ → List ℕ → Worker
worker log stopped ticket found = record { log = log; stopped = stopped; ticket = ticket; found = found }

abbrev pub idle : Worker
idle = worker [] false 0 []

abbrev pub start : Terms → State
start t = record { claims = 0; loads = t.base; workers = replicate t.workers idle }

abbrev pub worker_at : State → ℕ → Worker
worker_at s w = slice_index_or s.workers w idle

-- whether c was added for k
abbrev pub is_pair : ℕ → ℕ → ℕ × ℕ → Bool
is_pair k c x = (k == x.0) && (c == x.1)

abbrev pub has : ℕ → ℕ → List (ℕ × ℕ) → Bool
has k c [] = false
has k c (x ∷ xs) = is_pair k c x || has k c xs

-- the cells that were added for k, in order
abbrev pub path_of : ℕ → List (ℕ × ℕ) → List ℕ
path_of k [] = []
path_of k (x ∷ xs) = if k == x.0 then x.1 ∷ path_of k xs else path_of k xs

-- the cells added for the commodity are a least walk over positive cells, all different, under the lengths of the reads
pub record IsRouted (t : Terms) (e : Entry) (k : ℕ) (commodity : Commodity) : Type 0 where
  pub least : IsLeastWalk t.net.cells (lengths_of t.net t.setting e.reads) commodity.from commodity.to (path_of k e.adds)
  pub different : AreDifferent (path_of k e.adds)

-- each cell was read, and each member of the group is routed
pub record IsComplete (t : Terms) (e : Entry) : Type 0 where
  pub all_read : length e.reads ≡ cell_count t
  pub members : (k : ℕ) (commodity : Commodity) → slice_get t.net.commodities k ≡ Some commodity → group_of t k ≡ e.ticket → IsRouted t e k commodity

abbrev pub LastIsComplete : Terms → List Entry → Type 0
LastIsComplete t [] = Unit {0}
LastIsComplete t (e ∷ es) = IsComplete t e

-- the last entry lacks reads, and has no adds
abbrev pub LastIsReading : Terms → List Entry → Type 0
LastIsReading t [] = ⊥
LastIsReading t (e ∷ es) = (length e.reads < cell_count t) × (e.adds ≡ [])

-- k is not below the commodity of the last add
abbrev pub NotBelowLast : ℕ → List (ℕ × ℕ) → Type 0
NotBelowLast k [] = Unit {0}
NotBelowLast k (x ∷ []) = x.0 ≤ k
NotBelowLast k (x ∷ y ∷ xs) = NotBelowLast k (y ∷ xs)

-- the last entry has all reads and has not added c for k, which is a member of its group and not below the commodity of its last add
abbrev pub LastMayAdd : Terms → ℕ → ℕ → List Entry → Type 0
LastMayAdd t k c [] = ⊥
LastMayAdd t k c (e ∷ es) = (length e.reads ≡ cell_count t) × (k < commodity_count t) × (group_of t k ≡ e.ticket) × NotBelowLast k e.adds × (has k c e.adds ≡ false)

abbrev pub IsLegal : Terms → State → Event → Type 0
IsLegal t s (claim w) = (w < length s.workers) × ((worker_at s w).stopped ≡ false) × LastIsComplete t (worker_at s w).log
IsLegal t s (read w) = (w < length s.workers) × LastIsReading t (worker_at s w).log
IsLegal t s (add w k c) = (w < length s.workers) × (c < cell_count t) × LastMayAdd t k c (worker_at s w).log

-- the worker after a claim found this ticket
abbrev pub claimed : ℕ → ℕ → Worker → Worker
claimed count ticket u = if nat_lt ticket count then worker (entry ticket [] [] ∷ u.log) u.stopped ticket u.found else worker u.log true ticket u.found

abbrev pub with_read : ℕ → List Entry → List Entry
with_read x [] = []
with_read x (e ∷ es) = entry e.ticket (e.reads ++ x ∷ []) e.adds ∷ es

abbrev pub with_add : ℕ → ℕ → List Entry → List Entry
with_add k c [] = []
with_add k c (e ∷ es) = entry e.ticket e.reads (e.adds ++ (k, c) ∷ []) ∷ es

-- the cell that the last entry reads next
abbrev pub next_cell : List Entry → ℕ
next_cell [] = 0
next_cell (e ∷ es) = length e.reads

-- the worker after it read x
abbrev pub has_read : ℕ → Worker → Worker
has_read x u = worker (with_read x u.log) u.stopped u.ticket u.found

-- the worker after its add of c for k found x
abbrev pub has_added : ℕ → ℕ → ℕ → Worker → Worker
has_added k c x u = worker (with_add k c u.log) u.stopped u.ticket (u.found ++ x ∷ [])

abbrev pub after_event : Terms → State → Event → State
after_event t s (claim w) = record { claims = s.claims + 1; loads = s.loads; workers = slice_set s.workers w (claimed (ticket_count t) s.claims (worker_at s w)) }
after_event t s (read w) = record { claims = s.claims; loads = s.loads; workers = slice_set s.workers w (has_read (slice_index s.loads (next_cell (worker_at s w).log)) (worker_at s w)) }
after_event t s (add w k c) = record { claims = s.claims; loads = slice_set s.loads c (slice_index s.loads c + amount_of t k); workers = slice_set s.workers w (has_added k c (slice_index s.loads c) (worker_at s w)) }

-- a schedule: each event is legal where it comes
abbrev pub AreLegal : Terms → State → List Event → Type 0
AreLegal t s [] = Unit {0}
AreLegal t s (e ∷ es) = IsLegal t s e × AreLegal t (after_event t s e) es

-- the state after the events
abbrev pub after_schedule : Terms → State → List Event → State
after_schedule t s [] = s
after_schedule t s (e ∷ es) = after_schedule t (after_event t s e) es

-- some schedule leads from one state to the other
abbrev pub Leads : Terms → State → State → Type 0
Leads t from to = (es : List Event) × AreLegal t from es × (after_schedule t from es ≡ to)
