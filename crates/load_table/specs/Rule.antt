-- The rule of the shared words, and what its steps tell.
use Rattle.std.specs.Prelude.{◌≡◌, ℕ, ◌+◌, ◌%◌, ◌^◌, ◌<◌, ◌≤◌, ◌==◌, nat_lt, Bool, false, List, [], ◌∷◌, length, slice_index, slice_set, All}
use mathlib.Core.Option.{some}
use lib.ListN.{get_elem?}
use Rattle.atomic_table.specs.Table.{State, Me}
use Rattle.flow_core.specs.declared.state.Entry.{Entry}
use Rattle.flow_core.specs.Core as core
use Rattle.flow_core.specs.Core.{Terms, Event, claim, read, add, IsLegal, AreLegal, Leads, start, after_event, after_schedule, worker_at, idle, IsStart, amount_of, total, cell_count, ticket_count, LastIsComplete, LastMayAdd, claimed, has_read, has_added}
use Rattle.flow_core.specs.Laws.{one_if, IsFalling, added}
use Rattle.mcf_limits.specs.declared.TheConstants.{MAX_LENGTH}
use Rattle.load_table.specs.declared.view.Hand.{Hand}
use Rattle.load_table.specs.declared.view.View.{View}
use Rattle.load_table.specs.declared.view.Known.{Known}
use Rattle.load_table.specs.Reading.{reads_all}
use Rattle.load_table.specs.Adding.{HasAddedAll, adds_along, AreMoreAlong}
use Rattle.load_table.specs.Places.{is_wide, place}
use Rattle.load_table.specs.Views.{with_work, times_in, hands_of, made_of, splits_of}

-- each hand has what the core has of its worker
abbrev pub AllFit : core.State → List Hand → Type 0
AllFit s [] = Unit {0}
AllFit s (h ∷ hs) = ((h.number < length s.workers) × (worker_at s h.number ≡ h.work)) × AllFit s hs

-- what a pass may know: its terms are the table's where it has a worker, its splits are all or none, and some schedule
-- leads from what it saw to the words
pub record FitsView (t : Terms) (s : core.State) (v : Known) : Type 0 where
  pub terms : 0 < length v.view.hands → v.view.terms ≡ t
  pub splits : 0 < v.view.left + v.view.made → v.view.left + v.view.made + 1 ≡ t.workers
  pub works : AllFit s v.view.hands
  pub seen : v.view.terms ≡ t → Leads t (start t) v.seen × Leads t v.seen s

pub record Kept (t : Terms) (s : State (Unit {0}) Known) : Type 0 where
  pub is_start : IsStart t
  pub events : List Event
  pub legal : AreLegal t (start t) events
  pub words : s.words ≡ (after_schedule t (start t) events).claims ∷ (after_schedule t (start t) events).loads
  pub splits : total splits_of s.views + 1 ≡ t.workers
  pub hands : total hands_of s.views ≡ total made_of s.views + 1
  pub once : (n : ℕ) → total (times_in n) s.views ≡ one_if (nat_lt n (total made_of s.views + 1))
  pub fits : (j : ℕ) (v : Known) → get_elem? s.views j ≡ some v → FitsView t (after_schedule t (start t) events) v
  pub fresh : (n : ℕ) → total made_of s.views < n → worker_at (after_schedule t (start t) events) n ≡ idle

-- the table has these words, each in its place
pub record HasPlaced (wide : Bool) (table words : List ℕ) : Type 0 where
  pub room : (i : ℕ) → i < length words → place wide i < length table
  pub each : (i : ℕ) → i < length words → slice_index table (place wide i) ≡ slice_index words i

-- some schedule leads to the words that the table has in their places
abbrev pub KeptPlaced : Terms → State (Unit {0}) Known → Type 0
KeptPlaced t s = (words : List ℕ) × HasPlaced (is_wide t) s.words words × Kept t record { words = words; homes = s.homes; views = s.views }

-- the words as one list, that of claims first
abbrev pub words_of : core.State → List ℕ
words_of s = s.claims ∷ s.loads

-- some schedule leads to the words that one worker alone has seen, which are its own: of the table's words nothing is said
abbrev pub KeptAlone : Terms → State (Unit {0}) Known → Type 0
KeptAlone t s = (v : Known) × (s.views ≡ v ∷ []) × Kept t record { words = words_of v.seen; homes = s.homes; views = v ∷ [] }

-- the rule: of several workers, some schedule leads to the words that the table has in their places; of one, to those that it has seen
pub record Holds (t : Terms) (s : State (Unit {0}) Known) : Type 0 where
  pub one : t.workers ≡ 1 → KeptAlone t s
  pub several : 1 < t.workers → KeptPlaced t s

-- the number of the first worker
abbrev pub first_number : List Hand → ℕ
first_number [] = 0
first_number (h ∷ hs) = h.number

-- some schedule leads from what the pass saw after its last step to a state where the word was this, and its workers
-- had what their hands say; there this one event came, and the pass has seen what that made
pub record IsStep (t : Terms) (hands : List Hand) (seen now : core.State) (event : ℕ → Event) (word found : ℕ) : Type 0 where
  pub from : Leads t (start t) seen
  pub before : core.State
  pub since : Leads t seen before
  pub found_there : slice_index (before.claims ∷ before.loads) word ≡ found
  pub works : AllFit before hands
  pub legal : IsLegal t before (event (first_number hands))
  pub now_is : now ≡ after_event t before (event (first_number hands))

abbrev pub M : Type 0
M = Me (Unit {0}) Known

-- the view is this one, and the pass has taken one step
pub record Steps (v : M) (view : View) (event : ℕ → Event) (word found : ℕ) (w : M) : Type 0 where
  pub view_is : w.0.view ≡ view
  pub rest_is : w.1 ≡ v.1
  pub step : IsStep v.0.view.terms v.0.view.hands v.0.seen w.0.seen event word found

-- a claim
abbrev pub HasClaimed : M → ℕ → M → Type 0
HasClaimed v found w = Steps v (with_work (claimed (ticket_count v.0.view.terms) found) v.0.view) claim 0 found w

-- a read at this cell, wherever its word lies
abbrev pub HasRead : ℕ → M → ℕ → M → Type 0
HasRead c v found w = Steps v (with_work (has_read found) v.0.view) read (c + 1) found w

-- an add for this commodity at this cell, wherever its word lies
abbrev pub HasAdded : ℕ → ℕ → M → ℕ → M → Type 0
HasAdded k c v found w = Steps v (with_work (has_added k c found) v.0.view) (λ n. add n k c) (c + 1) found w

-- a step of one worker alone found the word that it had seen, and left this one in its place
abbrev pub HasFoundAndPut : ℕ → (ℕ → ℕ) → (ℕ → M → Type 0) → M → M → Type 0
HasFoundAndPut word f tells v w = tells (slice_index (words_of v.0.seen) word) w × (words_of w.0.seen ≡ slice_set (words_of v.0.seen) word (f (slice_index (words_of v.0.seen) word)))

abbrev pub HasClaimedAlone : M → M → Type 0
HasClaimedAlone v w = HasFoundAndPut 0 (λ n. (n + 1) % 2 ^ 64) (HasClaimed v) v w

abbrev pub HasReadAlone : ℕ → M → M → Type 0
HasReadAlone c v w = HasFoundAndPut (c + 1) (λ n. n) (HasRead c v) v w

abbrev pub HasAddedAlone : ℕ → ℕ → M → M → Type 0
HasAddedAlone k c v w = HasFoundAndPut (c + 1) (λ n. (n + amount_of v.0.view.terms k) % 2 ^ 64) (HasAdded k c v) v w

-- hands that had what the pass had seen of their workers have so still
abbrev pub KeepsWorks : core.State → List Hand → core.State → List Hand → Type 0
KeepsWorks seen hands seen_now hands_now = AllFit seen hands → AllFit seen_now hands_now

-- one worker alone has read all cells, within their limit, by some schedule from what it saw, and the words are as before
pub record HasReadAll (v w : M) : Type 0 where
  pub view_is : w.0.view ≡ with_work (reads_all v.0.seen.loads) v.0.view
  pub rest_is : w.1 ≡ v.1
  pub small : All (λ x. x ≤ MAX_LENGTH) v.0.seen.loads
  pub since : Leads v.0.view.terms v.0.seen w.0.seen
  pub works : KeepsWorks v.0.seen v.0.view.hands w.0.seen w.0.view.hands
  pub words : words_of w.0.seen ≡ words_of v.0.seen

-- one worker alone has added a commodity's amount along a path, by some schedule from what it saw, and so to its words
pub record HasAddedAlong (k : ℕ) (path : List ℕ) (v w : M) : Type 0 where
  pub view_is : HasAddedAll (adds_along k path) v.0.view w.0.view
  pub rest_is : w.1 ≡ v.1
  pub since : Leads v.0.view.terms v.0.seen w.0.seen
  pub works : KeepsWorks v.0.seen v.0.view.hands w.0.seen w.0.view.hands
  pub words : AreMoreAlong (amount_of v.0.view.terms k) path (words_of v.0.seen) (words_of w.0.seen)

-- the tickets of the hands are below this one, and ascend
abbrev pub AllFallBelow : ℕ → List Hand → Type 0
AllFallBelow ticket [] = Unit {0}
AllFallBelow ticket (h ∷ hs) = IsFalling ticket h.work.log × AllFallBelow ticket hs

-- one worker alone, which has not stopped and whose last entry is complete
abbrev pub MayClaim : Terms → List Hand → Type 0
MayClaim t [] = ⊥
MayClaim t (h ∷ []) = (h.work.stopped ≡ false) × LastIsComplete t h.work.log
MayClaim t (h ∷ i ∷ hs) = ⊥

abbrev pub LastReads : Terms → ℕ → List Entry → Type 0
LastReads t c [] = ⊥
LastReads t c (e ∷ es) = (length e.reads ≡ c) × (c < cell_count t) × (e.adds ≡ [])

abbrev pub MayRead : Terms → ℕ → List Hand → Type 0
MayRead t c [] = ⊥
MayRead t c (h ∷ []) = LastReads t c h.work.log
MayRead t c (h ∷ i ∷ hs) = ⊥

abbrev pub MayAdd : Terms → ℕ → ℕ → List Hand → Type 0
MayAdd t k c [] = ⊥
MayAdd t k c (h ∷ []) = (c < cell_count t) × LastMayAdd t k c h.work.log
MayAdd t k c (h ∷ i ∷ hs) = ⊥

-- all workers are in the pass
pub record MayClose (t : Terms) (v : View) : Type 0 where
  pub splits : v.left + v.made + 1 ≡ t.workers
  pub hands : length v.hands ≡ v.made + 1

-- some schedule leads to these loads, with what these hands say and nothing else, and some leads there from what the
-- pass saw
pub record Closes (t : Terms) (seen : core.State) (hands : List Hand) (loads : List ℕ) : Type 0 where
  pub events : List Event
  pub legal : AreLegal t (start t) events
  pub since : Leads t seen (after_schedule t (start t) events)
  pub loads_there : (after_schedule t (start t) events).loads ≡ loads
  pub works : AllFit (after_schedule t (start t) events) hands
  pub once : (n : ℕ) → total (λ (h : Hand). one_if (n == h.number)) hands ≤ 1
  pub others : (n : ℕ) → total (λ (h : Hand). one_if (n == h.number)) hands ≡ 0 → worker_at (after_schedule t (start t) events) n ≡ idle
  pub sums : (c : ℕ) → c < cell_count t → slice_index loads c ≡ slice_index t.base c + total (λ (h : Hand). added t c h.work.log) hands
