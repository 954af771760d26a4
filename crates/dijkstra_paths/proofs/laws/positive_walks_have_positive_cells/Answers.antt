use Rattle.std.proofs.Common.{◌≡◌, ◌≤◌, ℕ, zero, suc, List, [], ◌∷◌, Some, arith, subst}
use Rattle.std.specs.Prelude.{slice_get}
use Rattle.flow_model.specs.declared.net.Cell.{Cell}
use Rattle.flow_model.specs.Walk.{IsWalk, PassesOver, PositiveWalk}
use Rattle.dijkstra_paths.specs.Reach.{ArePositive}
use Rattle.dijkstra_paths.proofs.laws.positive_walks_have_positive_cells.Goals as goal

same_cell : (cells : List Cell) (c : ℕ) (a b : Cell) → slice_get cells c ≡ Some a → slice_get cells c ≡ Some b → a ≡ b
same_cell cells c a b p q = cc

walks : (cells : List Cell) (u v : ℕ) (walk : List ℕ) → PositiveWalk cells u v walk → IsWalk cells u v walk
walks cells u v [] w = w
walks cells u v (c ∷ walk) w = (w.0, (w.1.0, w.1.1, w.1.3), walks cells w.0 v walk w.2)

first_positive : (cells : List Cell) (c u x : ℕ) (walk : List ℕ) → PassesOver cells c u x → ArePositive cells walk → ArePositive cells (c ∷ walk)
first_positive cells c u x walk p h zero cell l at = subst (λ (k : Cell). 1 ≤ k.cap) (same_cell cells c p.0 cell p.1 at) p.2
first_positive cells c u x walk p h (suc k) cell l at = h k cell (omega arith) at

positive : (cells : List Cell) (u v : ℕ) (walk : List ℕ) → PositiveWalk cells u v walk → ArePositive cells walk
positive cells u v [] w = λ k cell l at. absurd (omega arith)
positive cells u v (c ∷ walk) w = first_positive cells c u w.0 walk w.1 (positive cells w.0 v walk w.2)

back : (cells : List Cell) (u v : ℕ) (walk : List ℕ) → IsWalk cells u v walk → ArePositive cells walk → PositiveWalk cells u v walk
back cells u v [] w p = w
back cells u v (c ∷ walk) w p =
    (w.0, (w.1.0, w.1.1, p 0 w.1.0 (omega arith) w.1.1, w.1.2), back cells w.0 v walk w.2 (λ k cell l at. p (suc k) cell (omega arith) at))

pub returns : goal.returns
returns c = λ cells u v walk. ((λ w. (walks cells u v walk w, positive cells u v walk w)), (λ w. back cells u v walk w.0 w.1))
