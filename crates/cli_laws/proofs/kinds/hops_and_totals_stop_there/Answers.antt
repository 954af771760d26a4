use Rattle.cli_laws.proofs.KindStops.{hops_stop, totals_stop}
use Rattle.cli_laws.proofs.kinds.hops_and_totals_stop_there.Goals as goal

pub returns : goal.returns
returns c = record { hops = hops_stop; totals = totals_stop }
