use Rattle.cli_laws.proofs.JudgedReasons.{judged_for}
use Rattle.cli_laws.proofs.papers.judged_kinds_say_why.Goals as goal

pub returns : goal.returns
returns c = judged_for
