-- The hands of the workers in a phase.
use Rattle.std.specs.Prelude.{◌≡◌, ℕ, ◌-◌, ◌<◌, ◌==◌, true, false, if◌then◌else◌, List, [], ◌∷◌, All, length, Option, Some, None, IfSome, slice_index_or}
use Rattle.flow_model.specs.Network.{Network}
use Rattle.flow_model.specs.Least.{HasNoCut}
use Rattle.flow_model.specs.Lengths.{IsSetting}
use Rattle.flow_core.specs.Core.{Terms, idle}
use Rattle.flow_core.specs.Laws.{AllComplete}
use Rattle.load_table.specs.declared.view.View.{View}
use Rattle.load_table.specs.declared.view.Hand as table
use Rattle.load_table.specs.Views.{hand, view_of}
use Rattle.load_table.specs.Rule.{MayClose}
use Rattle.load_table.specs.Seen.{LoadsView, PassView, IsPassOf}
use Rattle.phase_engine.specs.declared.worker.Worked.{Worked}
use Rattle.phase_engine.specs.Work.{HasWorked, routes_of}
use Rattle.phase_engine.specs.Rooms.{IsRoomOf}
use Rattle.phase_engine.specs.declared.hand.Hand.{Hand}
use Rattle.phase_engine.specs.declared.input.PhaseInput.{PhaseInput}

abbrev pub OfTurn : Option Worked → (Worked → Type 0) → Type 0
OfTurn None P = ⊥
OfTurn (Some w) P = P w

-- the view of worker k when the work begins: the first has made all splits
abbrev pub start_view : Terms → ℕ → View
start_view t k = view_of t 0 (if k == 0 then t.workers - 1 else 0) (hand k idle ∷ [])

-- the hand's room, if it has any, is of this network
abbrev pub HasRoomOf : Network → Hand → Type 0
HasRoomOf net h = IfSome h.room (IsRoomOf net)

-- hand k before a phase on this network: its number, no turn, no routes, a scratch for the network's nodes, and room of the network, or none yet
abbrev pub IsFresh : Network → ℕ → Hand → Type 0
IsFresh net k h = (h.worker ≡ k) × (h.turn ≡ None) × (h.routes ≡ []) × (h.scratch.nodes ≡ net.nodes) × HasRoomOf net h

-- the hand has the pass of its worker, with nothing done, and room of the network, or none yet
abbrev pub IsReady : LoadsView → Hand → Type 0
IsReady l h = OfTurn h.turn (λ w. IsPassOf l w.pass × (w.pass.view ≡ start_view l.terms h.worker) × (h.routes ≡ []) × (h.scratch.nodes ≡ l.terms.net.nodes) × HasRoomOf l.terms.net h)

-- the hand has the pass of its worker after the work
abbrev pub IsDone : LoadsView → Hand → Type 0
IsDone l h = OfTurn h.turn (λ w. IsPassOf l w.pass × HasWorked l.terms h.worker (start_view l.terms h.worker) w.pass.view w.memory h.routes)

-- the same worker, with a scratch of the same size
abbrev pub IsSameWorker : Hand → Hand → Type 0
IsSameWorker h g = (g.worker ≡ h.worker) × (g.scratch.nodes ≡ h.scratch.nodes) × (g.scratch.cells ≡ h.scratch.cells)

-- each hand is still that of its worker
abbrev pub AreSameWorkers : List Hand → List Hand → Type 0
AreSameWorkers old new = (k : ℕ) (d : Hand) → k < length old → IsSameWorker (slice_index_or old k d) (slice_index_or new k d)

-- the hand of the same worker after the work, whose room, if it has any, is of the network
abbrev pub Runs : LoadsView → Hand → Hand → Type 0
Runs l h g = IsSameWorker h g × IsDone l g × HasRoomOf l.terms.net g

-- the turn is over, and the rest is as it was
abbrev pub IsBack : Hand → Hand → Type 0
IsBack h g = IsSameWorker h g × (g.turn ≡ None) × (g.routes ≡ h.routes) × (g.room ≡ h.room)

abbrev pub no_hand : table.Hand
no_hand = hand 0 idle

-- the work in the joined pass that is that of hand k
abbrev pub IsWorkOf : Terms → List table.Hand → ℕ → Hand → Type 0
IsWorkOf t works k h = ((slice_index_or works k no_hand).number ≡ k) × AllComplete t (slice_index_or works k no_hand).work.log × (h.routes ≡ routes_of t.net (slice_index_or works k no_hand).work.log)

-- each hand's routes are those of its worker's entries, which are complete
pub record EachWork (t : Terms) (hands : List Hand) (works : List table.Hand) : Type 0 where
  pub as_many : length works ≡ length hands
  pub each : (k : ℕ) (d : Hand) → k < length hands → IsWorkOf t works k (slice_index_or hands k d)

-- some worker has stopped
abbrev pub SomeStopped : List table.Hand → Type 0
SomeStopped works = (k : ℕ) × (k < length works) × ((slice_index_or works k no_hand).work.stopped ≡ true)

-- no worker has stopped
abbrev pub NoneStopped : List table.Hand → Type 0
NoneStopped works = All (λ (h : table.Hand). h.work.stopped ≡ false) works

-- the pass has all workers of the loads, and none of them has stopped
pub record IsUnfinished (l : LoadsView) (p : PassView) : Type 0 where
  pub of : IsPassOf l p
  pub whole : MayClose l.terms p.view
  pub none : NoneStopped p.view.hands

-- the loads are those of a phase of this, which has no cut and whose setting is one
pub record AreOf (input : PhaseInput) (l : LoadsView) : Type 0 where
  pub loads : l.terms.net ≡ input.net.now
  pub setting_is : input.setting ≡ l.terms.setting
  pub fits : IsSetting input.setting
  pub no_cut : HasNoCut input.net.now
