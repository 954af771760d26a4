-- What holds after every list of legal events.
use Rattle.std.specs.Prelude.{◌≡◌, ℕ, zero, suc, ◌+◌, ◌<◌, ◌≤◌, ◌==◌, ◌&&◌, nat_lt, min, Bool, if◌then◌else◌, List, [], ◌∷◌, length, slice_index}
use mathlib.Core.Option.{some}
use lib.ListN.{get_elem?}
use Rattle.mcf_limits.specs.declared.TheConstants.{MAX_LENGTH}
use Rattle.flow_core.specs.declared.state.Entry.{Entry}
use Rattle.flow_core.specs.declared.state.Worker.{Worker}
use Rattle.flow_core.specs.Core.{Terms, State, total, ticket_count, cell_count, amount_of, group_of, commodity_count, worker_at, is_pair, IsComplete}

abbrev pub one_if : Bool → ℕ
one_if b = if b then 1 else 0

abbrev pub entries_of : Worker → ℕ
entries_of u = length u.log

abbrev pub stops_of : Worker → ℕ
stops_of u = one_if u.stopped

-- whether the worker stopped at this word
abbrev pub stops_at : ℕ → Worker → ℕ
stops_at n u = one_if (u.stopped && (n == u.ticket))

-- how many entries have the ticket
abbrev pub times : ℕ → Worker → ℕ
times n u = total (λ (e : Entry). one_if (n == e.ticket)) u.log

pub record Counts (t : Terms) (s : State) : Type 0 where
  pub workers : length s.workers ≡ t.workers
  pub claims : total entries_of s.workers + total stops_of s.workers ≡ s.claims
  pub entries : total entries_of s.workers ≡ min s.claims (ticket_count t)
  pub few : s.claims ≤ ticket_count t + t.workers
  pub stop_past_end : 0 < total stops_of s.workers → ticket_count t < s.claims
  pub stop_once : (n : ℕ) → ticket_count t ≤ n → total (stops_at n) s.workers ≡ one_if (nat_lt n s.claims)

-- the newest first, each below the one before it and below n
abbrev pub IsFalling : ℕ → List Entry → Type 0
IsFalling n [] = Unit {0}
IsFalling n (e ∷ es) = (e.ticket < n) × IsFalling e.ticket es

abbrev pub AllComplete : Terms → List Entry → Type 0
AllComplete t [] = Unit {0}
AllComplete t (e ∷ es) = IsComplete t e × AllComplete t es

-- all but the last are complete
abbrev pub PastIsComplete : Terms → List Entry → Type 0
PastIsComplete t [] = Unit {0}
PastIsComplete t (e ∷ es) = AllComplete t es

-- the numbers below n, weighed by g
abbrev pub below : (ℕ → ℕ) → ℕ → ℕ
below g zero = 0
below g (suc n) = below g n + g n

-- the tickets of a worker, weighed by g
abbrev pub weigh : (ℕ → ℕ) → Worker → ℕ
weigh g u = total (λ (e : Entry). g e.ticket) u.log

pub record Tickets (t : Terms) (s : State) : Type 0 where
  pub weighed : (g : ℕ → ℕ) → total (weigh g) s.workers ≡ below g (min s.claims (ticket_count t))
  pub once : (n : ℕ) → total (times n) s.workers ≡ one_if (nat_lt n (min s.claims (ticket_count t)))
  pub falling : (w : ℕ) → w < length s.workers → IsFalling (min s.claims (ticket_count t)) (worker_at s w).log
  pub past : (w : ℕ) → w < length s.workers → PastIsComplete t (worker_at s w).log

-- what an entry, and what all of a log, added to the cell
abbrev pub added_in : Terms → ℕ → List (ℕ × ℕ) → ℕ
added_in t c adds = total (λ (x : ℕ × ℕ). if c == x.1 then amount_of t x.0 else 0) adds

abbrev pub added_by : Terms → ℕ → Entry → ℕ
added_by t c e = added_in t c e.adds

abbrev pub added : Terms → ℕ → List Entry → ℕ
added t c log = total (added_by t c) log

-- how often c was added for k
abbrev pub pairs_in : ℕ → ℕ → List (ℕ × ℕ) → ℕ
pairs_in k c adds = total (λ (x : ℕ × ℕ). one_if (is_pair k c x)) adds

abbrev pub pairs : ℕ → ℕ → List Entry → ℕ
pairs k c log = total (λ (e : Entry). pairs_in k c e.adds) log

-- the adds are for members of the group alone
abbrev pub MembersOnly : Terms → ℕ → List (ℕ × ℕ) → Type 0
MembersOnly t g [] = Unit {0}
MembersOnly t g (x ∷ xs) = ((x.0 < commodity_count t) × (group_of t x.0 ≡ g)) × MembersOnly t g xs

-- each entry added for members of its group alone, and no cell twice for one of them
abbrev pub AllMembers : Terms → List Entry → Type 0
AllMembers t [] = Unit {0}
AllMembers t (e ∷ es) = (MembersOnly t e.ticket e.adds × ((k c : ℕ) → pairs_in k c e.adds ≤ 1)) × AllMembers t es

pub record Loads (t : Terms) (s : State) : Type 0 where
  pub cells : length s.loads ≡ cell_count t
  pub sums : (c : ℕ) → c < cell_count t → slice_index s.loads c ≡ slice_index t.base c + total (λ (u : Worker). added t c u.log) s.workers
  pub members : (w : ℕ) → w < length s.workers → AllMembers t (worker_at s w).log
  pub within : (c : ℕ) → c < cell_count t → slice_index s.loads c ≤ MAX_LENGTH

-- for each read of a cell in the log: the base and what earlier entries added is at most what was read, and that and what the
-- entry itself and later ones added is at most the load now
-- (`later c` is what entries before this part of the log, which are later in time, added to c)
abbrev pub ReadsFit : Terms → List ℕ → (ℕ → ℕ) → List Entry → Type 0
ReadsFit t loads later [] = Unit {0}
ReadsFit t loads later (e ∷ es) =
    ((c x : ℕ) → get_elem? e.reads c ≡ some x → (slice_index t.base c + added t c es ≤ x) × (x + (added_by t c e + later c) ≤ slice_index loads c))
    × ReadsFit t loads (λ c. added_by t c e + later c) es

abbrev pub Reads : Terms → State → Type 0
Reads t s = (w : ℕ) → w < length s.workers → ReadsFit t s.loads (λ _. 0) (worker_at s w).log
