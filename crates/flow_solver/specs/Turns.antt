-- The turns of the hands in a phase.
use Rattle.std.specs.Prelude.{◌≡◌, ℕ, box_value}
use Rattle.std.specs.Arc.{arc_value}
use Rattle.flow_model.specs.declared.setting.Setting.{Setting}
use Rattle.flow_model.specs.Network.{Network}
use Rattle.flow_model.specs.Least.{HasNoCut}
use Rattle.flow_model.specs.Lengths.{IsSetting}
use Rattle.load_table.specs.Seen.{LoadsView}
use Rattle.phase_engine.specs.declared.hand.Hand.{Hand}
use Rattle.phase_engine.specs.Hands.{HasRoomOf, IsDone, IsReady, Runs}
use Rattle.flow_solver.specs.declared.turn.Turn.{Turn}

-- the words are of a phase of this network, which has no cut, under this setting
pub record AreWordsOf (net : Network) (setting : Setting) (l : LoadsView) : Type 0 where
  pub net_is : l.terms.net ≡ net
  pub setting_is : l.terms.setting ≡ setting
  pub fits : IsSetting setting
  pub no_cut : HasNoCut net

-- hand k after its work in a phase on this network
abbrev pub IsOver : Network → LoadsView → ℕ → Hand → Type 0
IsOver net l k h = (h.worker ≡ k) × IsDone l h × (h.scratch.nodes ≡ net.nodes) × HasRoomOf net h

module _ {G : Type 0} where
  -- the words are of the turn's phase, and its hand is ready
  abbrev pub CanBeTaken : Turn G → Type 0
  CanBeTaken t = AreWordsOf t.on.now.net.now t.setting (arc_value t.loads) × IsReady (arc_value t.loads) (box_value t.hand)

  -- the second turn has the hand of the first after its work
  abbrev pub IsTaken : Turn G → Turn G → Type 0
  IsTaken t u = Runs (arc_value t.loads) (box_value t.hand) (box_value u.hand)
