-- A phase that is being added: its first entries, with their rows.
use Rattle.std.specs.Prelude.{◌≡◌, ℕ, ◌+◌, ◌*◌, ◌<◌, ◌≤◌, List, [], ◌∷◌, ◌++◌, All, Contains, Some, length, slice_get, slice_index_or}
use Rattle.mcf_limits.specs.declared.TheConstants.{MAX_DEMANDS, MAX_LENGTH, MAX_PHASES, MAX_WORK, MAX_WORKERS}
use Rattle.flow_model.specs.Network.{Network}
use Rattle.flow_model.specs.Routing.{Row}
use Rattle.flow_paths.specs.PathRows.{row_at, IsFirstRow}
use Rattle.phase_engine.specs.declared.hand.Hand.{Hand}
use Rattle.phase_engine.specs.Routing.{HasRouted}
use Rattle.flow_core.specs.Phase.{Routed}
use Rattle.solver_run.specs.declared.options.Entry.{Entry}
use Rattle.solver_run.specs.History.{path_named, IsWeighed, NamesRows}
use Rattle.flow_solver.specs.declared.places.Place.{Place}
use Rattle.flow_solver.specs.Routes.{HaveRouted, IsRoutedOnce}
use Rattle.flow_solver.specs.Rows.{AreApart, AreRowsFor, HistoryView, phases_kept}

abbrev pub no_place : Place
no_place = record { hand = 0; path = record { ref_ptr = (0, 0); now = [] } }

-- the number is w, and this hand has routed the commodity along the path
pub record IsPlaceAt (w : ℕ) (hand : Hand) (k : ℕ) (p : Place) : Type 0 where
  pub hand_is : p.hand ≡ w
  pub along : Contains hand.routes (record { commodity = k; path = p.path.now })

-- the path of commodity k
abbrev pub path_at : List Place → ℕ → List ℕ
path_at places k = (slice_index_or places k no_place).path.now

-- each commodity's place names the hand that has routed it, and along which path
abbrev pub ArePlaces : Network → List Hand → List Place → Type 0
ArePlaces net hands places = (k : ℕ) → k < length net.commodities → HasRouted hands (slice_index_or places k no_place).hand k (path_at places k)

-- an amount can be added for the commodity along the path: no two rows are alike, there may be one more, and the row that it is added
-- to, if there is one, stays within the limit
pub record CanBeAdded (rows : List Row) (k : ℕ) (path : List ℕ) (amount : ℕ) : Type 0 where
  pub apart : AreApart rows
  pub room : length rows < 4294967295
  pub small : amount ≤ MAX_LENGTH
  pub weight : (n : ℕ) → IsFirstRow rows k path n → (row_at rows n).weight + amount ≤ MAX_LENGTH

-- the phases and the first entries of one more have these rows
pub record AreBegun (net : Network) (history : List (List Entry)) (entries : List Entry) (rows : List Row) : Type 0 where
  pub apart : AreApart rows
  pub before : All (NamesRows net rows) history
  pub begun : (k : ℕ) (e : Entry) → slice_get entries k ≡ Some e → (e.row < length rows) × ((row_at rows e.row).commodity ≡ k)
  pub weighed : (n : ℕ) (row : Row) → slice_get rows n ≡ Some row → IsWeighed net (history ++ entries ∷ []) n row
  pub few : length rows ≤ length net.commodities * length history + length entries

-- each entry's worker has routed its commodity along the path of its row
pub record AreRoutedAs (hands : List Hand) (rows : List Row) (entries : List Entry) : Type 0 where
  pub each : (k : ℕ) (e : Entry) → slice_get entries k ≡ Some e → HasRouted hands e.worker k (path_named rows e)

-- the first commodities of one phase more have these entries, which belong together with the rows and all entries before; and with that
-- phase whole they stay within their limits
pub record CanTakePhase (net : Network) (h : HistoryView) (entries : List Entry) : Type 0 where
  pub commodities : h.commodities ≡ length net.commodities
  pub begun : AreBegun net h.history entries h.rows
  pub few : length entries ≤ length net.commodities
  pub phases : length h.history < MAX_PHASES
  pub work : length net.commodities * (length h.history + 1) ≤ MAX_WORK

-- the phase that these hands have routed can be noted, of which the first commodities have these entries
pub record CanNote (net : Network) (hands : List Hand) (h : HistoryView) (entries : List Entry) : Type 0 where
  pub can : CanTakePhase net h entries
  pub few : length hands ≤ MAX_WORKERS
  pub routed : HaveRouted net hands
  pub routed_as : AreRoutedAs hands h.rows entries

-- the phase of which these are the places can be noted
pub record CanBeNoted (net : Network) (h : HistoryView) (places : List Place) : Type 0 where
  pub can : CanTakePhase net h []
  pub count : length places ≡ length net.commodities
  pub few : length places ≤ MAX_DEMANDS

-- it is noted: rows and entries belong together, and the phase that hands have routed stands last
pub record IsNoted (net : Network) (places : List Place) (old new : HistoryView) : Type 0 where
  pub rows : AreRowsFor net new.history new.rows
  pub phases : (hands : List Hand) (entries : List Routed) → ArePlaces net hands places → IsRoutedOnce net hands entries → phases_kept new ≡ phases_kept old ++ entries ∷ []

-- the phase that these hands have routed is noted: it stands last, and rows and entries belong together
pub record HasNoted (net : Network) (hands : List Hand) (old new : HistoryView) : Type 0 where
  pub commodities : new.commodities ≡ old.commodities
  pub rows : AreRowsFor net new.history new.rows
  pub phases : (entries : List Routed) → IsRoutedOnce net hands entries → phases_kept new ≡ phases_kept old ++ entries ∷ []

-- the first commodities of the phase that these hands have routed have these entries, and the phases before are as they were
pub record HasBegun (net : Network) (hands : List Hand) (old new : HistoryView) (entries : List Entry) : Type 0 where
  pub commodities : new.commodities ≡ old.commodities
  pub phases : phases_kept new ≡ phases_kept old
  pub can : CanNote net hands new entries

-- rows are appended, and the old ones keep their commodity and path
pub record KeepsRows (old new : List Row) : Type 0 where
  pub more : length old ≤ length new
  pub commodity : (n : ℕ) → n < length old → (row_at new n).commodity ≡ (row_at old n).commodity
  pub walk : (n : ℕ) → n < length old → (row_at new n).walk ≡ (row_at old n).walk
