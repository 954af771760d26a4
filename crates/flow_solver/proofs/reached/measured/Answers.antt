use Rattle.std.proofs.Common.{List, length, sym, ap, ◌∙◌}
use Rattle.flow_model.specs.declared.net.Cell.{Cell}
use Rattle.flow_paths.specs.Evaluation.{fill}
use Rattle.flow_solver.proofs.Reaching.{fill-fits}
use Rattle.flow_solver.proofs.reached.measured.Goals as goal

pub fullest-requires : goal.fullest-requires
fullest-requires c = c.requires.count ∙ sym (ap (λ (xs : List Cell). length xs) c.cells.ensures.value)

pub returns-clause-fits : goal.returns-clause-fits
returns-clause-fits c =
    let net = c.args.net.now in
    let is = c.fullest.ensures ∙ ap (λ (cells : List Cell). fill cells c.args.loads.now) c.cells.ensures.value in
    fill-fits net c.args.loads.now c.fullest.result c.cells.ensures.net c.requires.count c.requires.small c.requires.loaded is
