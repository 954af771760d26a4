use Rattle.std.proofs.Common.{◌≡◌, List, length, ap}
use Rattle.flow_model.specs.declared.net.Cell.{Cell}
use Rattle.fixed_exp.specs.LoadedNetwork.{LoadedNetwork}
use Rattle.hop_solve.proofs.Turning.{routed-none}
use Rattle.hop_solve.proofs.turns.new_routed.Goals as goal

pub returns-clause-nothing : goal.returns-clause-nothing
returns-clause-nothing c =
    let net = c.args.on.now.net.now in
    let size : length c.cells.result.now ≡ length net.cells = ap (λ (xs : List Cell). length xs) c.cells.ensures.value in
    routed-none net _ (length c.cells.result.now) size (c.in_ok-vec.ensures.items_if_clones_equal (λ y e. e)) (ap (λ (x : LoadedNetwork). x.net) c.in_ok-new.ensures) (ap (λ (x : LoadedNetwork). x.loads) c.in_ok-new.ensures)
    c.new-2.ensures.rows c.new-2.ensures.turns
