use Rattle.cli_laws.proofs.Judged.{judged_stops}
use Rattle.cli_laws.proofs.papers.judged_texts_stop_there.Goals as goal

pub returns : goal.returns
returns c = judged_stops
