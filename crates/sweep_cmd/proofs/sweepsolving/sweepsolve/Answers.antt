use Rattle.base_cmd.specs.Files.{Ends}
use Rattle.base_cmd.proofs.Chain.{no_net_told, rows_end}
use Rattle.sweep_cmd.specs.SweepSolve.{OnSweepSolve}
use Rattle.sweep_cmd.proofs.sweepsolving.sweepsolve.Goals as goal

pub returns : goal.returns
returns g c = no_net_told c.args.name.now (λ rows. Ends (OnSweepSolve c.args.request.now rows)) _ _ _ _ _ c.in-Err.outcome c.in-Err.ensures.rows c.tell.ensures

pub returns-in-Ok : goal.returns-in-Ok
returns-in-Ok g c =
    rows_end c.args.name.now (OnSweepSolve c.args.request.now) _ _ _ _ _ c.in-Ok.rows c.in-Ok.ensures.rows.0 c.in-Ok.ensures.rows.1 c.sweepsolve_on.ensures
