use Rattle.std.specs.Option.{option_map}
use Rattle.base_cmd.proofs.Chain.{no_net_told, rows_told}
use Rattle.cert_cmd.specs.Tighten.{OfFirst}
use Rattle.cert_cmd.proofs.tightening.tighten.Goals as goal

pub returns : goal.returns
returns g c =
    no_net_told c.args.net.now (λ rows. OfFirst rows c.args.cert.now (option_map (λ w. w.now) c.args.second)) _ _ _ _ _ c.in-Err.outcome c.in-Err.ensures.rows c.tell.ensures

pub returns-in-Ok : goal.returns-in-Ok
returns-in-Ok g c =
    rows_told c.args.net.now (λ rows. OfFirst rows c.args.cert.now (option_map (λ w. w.now) c.args.second)) _ _ _ _ _ _ c.in-Ok.rows c.in-Ok.ensures.rows.0 c.in-Ok.ensures.rows.1 c.tighten_on.ensures
