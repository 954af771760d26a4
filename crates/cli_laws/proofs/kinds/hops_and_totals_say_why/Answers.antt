use Rattle.text_lines.specs.Lines.{lines_of}
use Rattle.cert_text.proofs.LineSteps.{has_line}
use Rattle.cli_laws.proofs.KindReasons.{hops_refused_for, total_refused_for}
use Rattle.cli_laws.proofs.kinds.hops_and_totals_say_why.Goals as goal

pub returns : goal.returns
returns c = record {
  hops = λ sheet text r h. hops_refused_for sheet (lines_of text) r (has_line text) h;
  totals = λ sheet text r h. total_refused_for sheet (lines_of text) r (has_line text) h;
}
