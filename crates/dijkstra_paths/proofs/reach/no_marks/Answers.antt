use Rattle.std.proofs.Common.{◌≡◌, ℕ, Bool, false, replicate, Vec, Global}
use Rattle.std.proofs.lemmas.Result.{IfOk-weaker}
use Rattle.dijkstra_paths.specs.Reach.{mark_at}
use Rattle.dijkstra_paths.proofs.Spreading.{none-marked}
use Rattle.dijkstra_paths.proofs.reach.no_marks.Goals as goal

pub returns-clause-off : goal.returns-clause-off
returns-clause-off c = IfOk-weaker c.vec.result (λ (x : Vec Bool Global). ((y : Bool) → y ≡ false → y ≡ false) → x.items ≡ replicate c.args.nodes false) (λ (x : Vec Bool Global). (v : ℕ) → mark_at x.items v ≡ false)
    (λ x h. none-marked c.args.nodes x.items (h (λ y e. e))) c.vec.ensures.items_if_clones_equal
