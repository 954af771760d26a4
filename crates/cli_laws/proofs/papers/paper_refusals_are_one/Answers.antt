use Rattle.cli_laws.proofs.OneKind.{kind_one, head_kind_one}
use Rattle.cli_laws.proofs.papers.paper_refusals_are_one.Goals as goal

pub returns : goal.returns
returns c = record { papers = kind_one; heads = head_kind_one }
