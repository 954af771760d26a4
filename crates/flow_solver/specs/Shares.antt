-- Shares of the work on a phase, which any thread may do.
use Rattle.std.specs.Prelude.{◌≡◌, ℕ, List, [], ◌∷◌, ◌++◌, Option, Some, box_value}
use Rattle.std.specs.Arc.{arc_value}
use Rattle.flow_model.specs.Network.{Network}
use Rattle.load_table.specs.Seen.{LoadsView}
use Rattle.dual_bound.specs.declared.rows.Row.{Row}
use Rattle.phase_engine.specs.declared.hand.Hand.{Hand}
use Rattle.flow_solver.specs.declared.share.Share.{Share}
use Rattle.flow_solver.specs.declared.share.Share.TheVariants.{Turn, Part}
use Rattle.flow_solver.specs.Turns.{CanBeTaken, IsTaken}
use Rattle.flow_solver.specs.Parts.{CanBeFilled, IsFilled, IsPartOf}

module _ {G : Type 0} where
  -- a turn that can be taken, or a part that can be filled
  abbrev pub CanBeDone : Share G → Type 0
  CanBeDone (Turn t) = CanBeTaken t
  CanBeDone (Part p) = CanBeFilled p

  -- the second is the first, a turn or a part, after its work
  abbrev pub IsDoneOf : Share G → Share G → Type 0
  IsDoneOf (Turn t) (Turn u) = IsTaken t u
  IsDoneOf (Part p) (Part q) = IsFilled p q
  IsDoneOf _ _ = ⊥

  -- there is a turn of this hand over these words, and it can be taken
  abbrev pub IsTurnOf : LoadsView → Hand → Option (Share G) → Type 0
  IsTurnOf l h (Some (Turn t)) = CanBeTaken t × (arc_value t.loads ≡ l) × (box_value t.hand ≡ h)
  IsTurnOf l h _ = ⊥

  -- there is a turn, and this is its hand
  abbrev pub HasHand : Option (Share G) → Hand → Type 0
  HasHand (Some (Turn t)) h = box_value t.hand ≡ h
  HasHand _ h = ⊥

  -- there is a turn
  abbrev pub IsSomeTurn : Option (Share G) → Type 0
  IsSomeTurn (Some (Turn t)) = Unit {0}
  IsSomeTurn _ = ⊥

  -- there is a part of a bound of these lengths on this network, and it can be filled
  abbrev pub IsShareOf : Network → List ℕ → Option (Share G) → Type 0
  IsShareOf net lengths (Some (Part p)) = IsPartOf net lengths p
  IsShareOf net lengths _ = ⊥

  -- the rows of a part
  abbrev pub rows_at : Option (Share G) → List Row
  rows_at (Some (Part p)) = p.rows.items
  rows_at _ = []

  -- the rows of all parts, of which the last one has the first rows
  abbrev pub rows_in : List (Option (Share G)) → List Row
  rows_in [] = []
  rows_in (part ∷ parts) = rows_in parts ++ rows_at part
