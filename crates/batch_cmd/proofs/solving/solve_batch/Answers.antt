use Rattle.std.proofs.Common.{◌≡◌, ◌∙◌, map, Bor, ap}
use Rattle.flow_model.specs.Network.{Network}
use Rattle.matrix_batch.specs.Matrices.{Matrix}
use Rattle.matrix_batch.specs.Views.{batch_view}
use Rattle.batch_cmd.proofs.Gathering.{solvable_at, all_solved}
use Rattle.batch_cmd.proofs.solving.solve_batch.Goals as goal

pub solve_each-requires-after_bounds : goal.solve_each-requires-after_bounds
solve_each-requires-after_bounds g c κs within =
    let batch = batch_view c.args.batch.now in
    let nets = c.deref.result.now in
    let same : map (λ (n : Bor Network). n.now) nets ≡ map (λ (m : Matrix). m.net.net) batch = ap (map (λ (n : Bor Network). n.now)) c.deref.ensures.value ∙ c.in_ok-nets.ensures in
    solvable_at c.args.options.now batch nets same c.requires

pub returns : goal.returns
returns g c =
    let batch = batch_view c.args.batch.now in
    let nets = c.deref.result.now in
    let same : map (λ (n : Bor Network). n.now) nets ≡ map (λ (m : Matrix). m.net.net) batch = ap (map (λ (n : Bor Network). n.now)) c.deref.ensures.value ∙ c.in_ok-nets.ensures in
    all_solved c.args.options.now batch nets c.in_ok-many.many.items same c.in_ok-many.ensures.count c.in_ok-many.ensures.each
