-- A phase: what some schedule of workers makes of the loads.
use Rattle.std.specs.Prelude.{◌≡◌, ◌≢◌, ◌↔◌, ℕ, ◌+◌, ◌<◌, ◌≤◌, ◌==◌, Bool, true, List, [], ◌∷◌, All, Contains, Some, length, slice_get, slice_index}
use Rattle.std.specs.List.{list_any}
use Rattle.mcf_limits.specs.declared.TheConstants.{MAX_WORKERS}
use Rattle.flow_model.specs.declared.net.Commodity.{Commodity}
use Rattle.flow_model.specs.declared.setting.Setting.{Setting}
use Rattle.flow_model.specs.Network.{Network}
use Rattle.flow_model.specs.Routing.{Row, load_of}
use Rattle.flow_core.specs.declared.state.Entry.{Entry}
use Rattle.flow_core.specs.declared.state.Worker.{Worker}
use Rattle.flow_core.specs.Core.{Terms, State, Event, AreLegal, start, after_schedule, worker_at, path_of, IsComplete, cell_count, commodity_count, total}
use Rattle.flow_core.specs.Laws.{one_if}

-- who routed a commodity, and along which path
pub record Routed : Type 0 where
  pub worker : ℕ
  pub path : List ℕ

-- an entry of the worker added for the commodity the cells of the path, in order, and no others
abbrev pub HasAdded : State → ℕ → ℕ → List ℕ → Type 0
HasAdded s w k path = (e : Entry) × Contains (worker_at s w).log e × (path_of k e.adds ≡ path)

-- some worker has stopped
abbrev pub HasStopped : State → Type 0
HasStopped s = (w : ℕ) × ((worker_at s w).stopped ≡ true)

-- every entry of every worker is complete
abbrev pub EachIsComplete : Terms → State → Type 0
EachIsComplete t s = All (λ (u : Worker). All (IsComplete t) u.log) s.workers

-- what a phase starts from
abbrev pub terms_of : Network → Setting → List ℕ → ℕ → Terms
terms_of net setting base workers = record { net = net; setting = setting; base = base; workers = workers }

-- some worker has stopped, every entry is complete, and these are the loads and who routed what
pub record IsWhole (t : Terms) (s : State) (loads : List ℕ) (entries : List Routed) : Type 0 where
  pub loads_are : s.loads ≡ loads
  pub stopped : HasStopped s
  pub complete : EachIsComplete t s
  pub entries_are : (k w : ℕ) (path : List ℕ) → (slice_get entries k ≡ Some (record { worker = w; path = path })) ↔ ((path ≢ []) × HasAdded s w k path)

-- some schedule of at most as many workers as the limit leads from the base to these loads and entries, and leaves nothing undone
pub record IsPhase (net : Network) (setting : Setting) (base loads : List ℕ) (entries : List Routed) : Type 0 where
  pub workers : ℕ
  pub few : workers ≤ MAX_WORKERS
  pub events : List Event
  pub legal : AreLegal (terms_of net setting base workers) (start (terms_of net setting base workers)) events
  pub whole : IsWhole (terms_of net setting base workers) (after_schedule (terms_of net setting base workers) (start (terms_of net setting base workers)) events) loads entries

-- each commodity's whole amount along its path, the commodities numbered from k on
abbrev pub amounts_along : ℕ → List Commodity → List Routed → List Row
amounts_along k [] entries = []
amounts_along k (commodity ∷ commodities) [] = []
amounts_along k (commodity ∷ commodities) (e ∷ entries) =
    record { commodity = k; walk = e.path; weight = commodity.amount } ∷ amounts_along (k + 1) commodities entries

-- whether the entry added a cell for the commodity
abbrev pub routes : ℕ → Entry → Bool
routes k e = list_any (λ (x : ℕ × ℕ). k == x.0) e.adds

-- how many entries of the worker added a cell for the commodity
abbrev pub times_routed : ℕ → Worker → ℕ
times_routed k u = total (λ (e : Entry). one_if (routes k e)) u.log

-- each commodity has one path in one entry, the loads are the base and the amounts along these paths, and so it is a phase
pub record IsFinished (t : Terms) (s : State) : Type 0 where
  pub entries : List Routed
  pub count : length entries ≡ commodity_count t
  pub once : (k : ℕ) → k < commodity_count t → total (times_routed k) s.workers ≡ 1
  pub whole : IsWhole t s s.loads entries
  pub phase : IsPhase t.net t.setting t.base s.loads entries
  pub sums : (c : ℕ) → c < cell_count t → slice_index s.loads c ≡ slice_index t.base c + load_of (amounts_along 0 t.net.commodities entries) c
