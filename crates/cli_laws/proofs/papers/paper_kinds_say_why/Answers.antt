use Rattle.text_lines.specs.Lines.{lines_of}
use Rattle.cert_text.proofs.LineSteps.{has_line}
use Rattle.cli_laws.proofs.PaperReasons.{refused_for}
use Rattle.cli_laws.proofs.papers.paper_kinds_say_why.Goals as goal

pub returns : goal.returns
returns c = λ sheets text r h. refused_for sheets (lines_of text) r (has_line text) h
