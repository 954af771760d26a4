use Rattle.cli_laws.proofs.KindHeads.{hops_head_stops, total_head_stops}
use Rattle.cli_laws.proofs.kinds.hop_and_total_heads_stop_there.Goals as goal

pub returns : goal.returns
returns c = record { hops = hops_head_stops; totals = total_head_stops }
