-- What a solve keeps from phase to phase.
use Rattle.std.specs.Prelude.{◌≡◌, ℕ, ◌+◌, ◌*◌, ◌<◌, ◌≤◌, List, [], ◌∷◌, ◌++◌, All, Option, None, IfSome, length, slice_index, slice_index_or}
use Rattle.flow_model.specs.declared.setting.Setting.{Setting}
use Rattle.flow_model.specs.Network.{Network}
use Rattle.flow_model.specs.Least.{HasNoCut}
use Rattle.flow_core.specs.Phase.{Routed}
use Rattle.phase_engine.specs.declared.hand.Hand.{Hand}
use Rattle.phase_engine.specs.Hands.{HasRoomOf}
use Rattle.phase_engine.specs.Routing.{IsRoutedPhase}
use Rattle.flow_solver.specs.Adding.{CanNote, HasNoted}
use Rattle.solver_run.specs.declared.options.Entry.{Entry}
use Rattle.flow_solver.specs.Routes.{IsRoutedOnce}
use Rattle.flow_solver.specs.Rows.{phases_kept, AreRowsFor}
use Rattle.solver_run.specs.History.{loads_after}
use Rattle.mcf_limits.specs.declared.TheConstants.{MAX_LENGTH, MAX_TOTAL, MAX_WORKERS}
use Rattle.flow_model.specs.Lengths.{IsSetting, lengths_of}
use Rattle.dual_bound.specs.declared.bounds.Bounded.{Bounded}
use Rattle.dual_bound.specs.Bounds.{IsLesser}
use Rattle.dual_bound.specs.Rows.{AreRoom}
use Rattle.flow_solver.specs.declared.search.Search.{Search}
use Rattle.flow_solver.specs.declared.search.BoundRoom.{BoundRoom}
use Rattle.fixed_exp.specs.LoadedNetwork.{LoadedNetwork}

-- hand k between two phases on this network: its number, no turn, a scratch for the network's nodes, and room of the network, or none yet
abbrev pub IsIdle : Network → ℕ → Hand → Type 0
IsIdle net k h = (h.worker ≡ k) × (h.turn ≡ None) × (h.scratch.nodes ≡ net.nodes) × HasRoomOf net h

-- one to sixteen hands between two phases
pub record AreIdle (net : Network) (hands : List Hand) : Type 0 where
  pub some : 1 ≤ length hands
  pub few : length hands ≤ MAX_WORKERS
  pub each : (k : ℕ) (d : Hand) → k < length hands → IsIdle net k (slice_index_or hands k d)

-- two idle hands for each worker: those that have routed the last phase, and the spare ones
pub record HasHands (net : Network) (s : Search) : Type 0 where
  pub last : AreIdle net s.hands.items
  pub spare : AreIdle net s.spare.items
  pub pairs : length s.spare.items ≡ length s.hands.items

-- the phases that are noted
abbrev pub phases_in : Search → List (List Routed)
phases_in s = phases_kept s.history

-- how many phases there are after one or more: those that are noted, and the last one
abbrev pub phase_count : Search → ℕ
phase_count s = length s.history.history + 1

-- lengths of this network
abbrev pub IsLengthTableOf : Network → LoadedNetwork → Type 0
IsLengthTableOf net t = t.net ≡ net

-- room for a length a cell, lengths of the network from an earlier bound, or none yet, and room for a row a source
pub record IsBoundRoom (net : Network) (room : BoundRoom) : Type 0 where
  pub lengths : length room.lengths.items ≡ length net.cells
  pub kept : IfSome room.kept (IsLengthTableOf net)
  pub rows : AreRoom net room.rows.items

-- the loads are those after these phases, with room for bounds and two hands for each worker; rows and entries belong together
pub record IsSearch (net : Network) (phases : List (List Routed)) (s : Search) : Type 0 where
  pub loads : s.loads.items ≡ loads_after net phases (length phases)
  pub small : All (λ (x : ℕ). x ≤ length phases * MAX_TOTAL) s.loads.items
  pub room : IsBoundRoom net s.room
  pub hands : HasHands net s
  pub commodities : s.history.commodities ≡ length net.commodities
  pub rows : AreRowsFor net s.history.history s.history.rows

-- the last of these phases is what the hands have routed, and those before it are noted
pub record ArePhasesOf (net : Network) (s : Search) (phases : List (List Routed)) : Type 0 where
  pub last : List Routed
  pub phases_are : phases ≡ phases_in s ++ last ∷ []
  pub routed : IsRoutedOnce net s.hands.items last

-- one phase more can be routed under the setting: no commodity is cut off, loads leave room for it, and all hands are idle
pub record CanRoute (net : Network) (setting : Setting) (s : Search) : Type 0 where
  pub no_cut : HasNoCut net
  pub setting_is : IsSetting setting
  pub count : length s.loads.items ≡ length net.cells
  pub small : All (λ (x : ℕ). x + MAX_TOTAL ≤ MAX_LENGTH) s.loads.items
  pub hands : HasHands net s

-- the hands have routed one phase more under the setting: it has loaded some cell, loads are within their limit, and all hands, of which
-- there are as many, are idle again
pub record HasRouted (net : Network) (setting : Setting) (old new : Search) : Type 0 where
  pub phase : IsRoutedPhase net setting old.loads.items new.loads.items new.hands.items
  pub count : length new.loads.items ≡ length net.cells
  pub small : All (λ (x : ℕ). x ≤ MAX_LENGTH) new.loads.items
  pub loaded : (c : ℕ) × (c < length net.cells) × (1 ≤ slice_index new.loads.items c)
  pub hands : HasHands net new
  pub same : length new.hands.items ≡ length old.hands.items

-- so it is, and the hands that routed before are spare now; room and history are as before
pub record IsRouted (net : Network) (setting : Setting) (old new : Search) : Type 0 where
  pub routed : HasRouted net setting old new
  pub spare : new.spare ≡ old.hands
  pub room : new.room ≡ old.room
  pub history : new.history ≡ old.history

-- one phase more can be routed and bounded under the setting, and the phase that the hands have routed can be noted
pub record CanAddPhase (net : Network) (setting : Setting) (s : Search) : Type 0 where
  pub can : CanRoute net setting s
  pub note : CanNote net s.hands.items s.history []
  pub room : IsBoundRoom net s.room

-- the hands have routed one phase more under the setting, and the one before is noted; there is room for a bound
pub record HasAdded (net : Network) (setting : Setting) (old new : Search) : Type 0 where
  pub routed : HasRouted net setting old new
  pub noted : HasNoted net old.hands.items old.history new.history
  pub room : IsBoundRoom net new.room

-- so it is by a crew: the hands have routed one phase more under the setting, those that routed the one before are spare now, and there is
-- room for a bound
pub record IsRoutedByCrew (net : Network) (setting : Setting) (old new : Search) : Type 0 where
  pub routed : HasRouted net setting old new
  pub spare : new.spare ≡ old.hands
  pub room : IsBoundRoom net new.room

-- the setting, the loads and the room are what a bound of the lengths under these loads is made of, each within its limits
abbrev pub CanBeBounded : Network → Setting → List ℕ → BoundRoom → Type 0
CanBeBounded net setting loads room = IsSetting setting × (length loads ≡ length net.cells) × All (λ (x : ℕ). x ≤ MAX_LENGTH) loads × IsBoundRoom net room

-- the smaller of an earlier bound, if there is one, and that of the lengths under these loads
abbrev pub IsLesserUnder : Network → Setting → List ℕ → Option Bounded → Bounded → Type 0
IsLesserUnder net setting loads earlier b = IsLesser net (lengths_of net setting loads) earlier b

-- the loads and all hands are as before
pub record KeepsLoadsAndHands (old new : Search) : Type 0 where
  pub loads : new.loads ≡ old.loads
  pub hands : new.hands ≡ old.hands
  pub spare : new.spare ≡ old.spare

-- the phase that the spare hands had routed is noted, and there is room for a bound
abbrev pub HasNotedSpare : Network → Search → Search → Type 0
HasNotedSpare net old new = HasNoted net old.spare.items old.history new.history × IsBoundRoom net new.room

-- the phase that the spare hands have routed can be noted, of which the first commodities have these entries, and a bound made of the loads
pub record CanNoteAndBound (net : Network) (setting : Setting) (s : Search) (entries : List Entry) : Type 0 where
  pub note : CanNote net s.spare.items s.history entries
  pub bound : CanBeBounded net setting s.loads.items s.room
