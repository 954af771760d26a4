use Rattle.cli_laws.proofs.KindJudged.{hops_judged_stop, total_judged_stop}
use Rattle.cli_laws.proofs.kinds.judged_hops_and_totals_stop_there.Goals as goal

pub returns : goal.returns
returns c = record { hops = hops_judged_stop; totals = total_judged_stop }
