use Rattle.text_lines.specs.Lines.{lines_of}
use Rattle.kind_texts.proofs.HopsFit.{hops_given}
use Rattle.kind_texts.proofs.hops_reader.read_hops_text.Goals as goal

pub returns-clause-fits : goal.returns-clause-fits
returns-clause-fits c = hops_given c.args.names.now (lines_of c.args.text.now) c.read_hops.result c.read_hops.ensures
