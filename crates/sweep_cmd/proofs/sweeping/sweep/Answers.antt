use Rattle.base_cmd.proofs.Chain.{no_net_told, rows_told}
use Rattle.sweep_cmd.specs.Sweep.{OfSwept}
use Rattle.sweep_cmd.proofs.sweeping.sweep.Goals as goal

pub returns : goal.returns
returns g c = no_net_told c.args.net.now (λ rows. OfSwept rows c.args.cert.now) _ _ _ _ _ c.in-Err.outcome c.in-Err.ensures.rows c.tell.ensures

pub returns-in-Ok : goal.returns-in-Ok
returns-in-Ok g c =
    rows_told c.args.net.now (λ rows. OfSwept rows c.args.cert.now) _ _ _ _ _ _ c.in-Ok.rows c.in-Ok.ensures.rows.0 c.in-Ok.ensures.rows.1 c.sweep_on.ensures
