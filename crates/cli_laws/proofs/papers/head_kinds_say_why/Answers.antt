use Rattle.text_lines.specs.Lines.{lines_of}
use Rattle.cert_text.proofs.LineSteps.{has_line}
use Rattle.cli_laws.proofs.HeadReasons.{head_refused_for}
use Rattle.cli_laws.proofs.papers.head_kinds_say_why.Goals as goal

pub returns : goal.returns
returns c = λ text r h. head_refused_for (lines_of text) r (has_line text) h
