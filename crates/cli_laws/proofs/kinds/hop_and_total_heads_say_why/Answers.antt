use Rattle.text_lines.specs.Lines.{lines_of}
use Rattle.cert_text.proofs.LineSteps.{has_line}
use Rattle.cli_laws.proofs.KindHeads.{hops_head_refused_for, total_head_refused_for}
use Rattle.cli_laws.proofs.kinds.hop_and_total_heads_say_why.Goals as goal

pub returns : goal.returns
returns c = record {
  hops = λ text r h. hops_head_refused_for (lines_of text) r (has_line text) h;
  totals = λ text r h. total_head_refused_for (lines_of text) r (has_line text) h;
}
