use Rattle.cli_laws.proofs.KindJudged.{hops_judged_for, total_judged_for}
use Rattle.cli_laws.proofs.kinds.judged_hops_and_totals_say_why.Goals as goal

pub returns : goal.returns
returns c = record { hops = hops_judged_for; totals = total_judged_for }
