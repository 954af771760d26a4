use Rattle.text_lines.specs.Lines.{lines_of}
use Rattle.kind_texts.proofs.PartFits.{part_given}
use Rattle.kind_texts.proofs.part_reader.read_part_text.Goals as goal

pub returns-clause-fits : goal.returns-clause-fits
returns-clause-fits c = part_given c.args.names.now (lines_of c.args.text.now) c.read_part.result c.read_part.ensures
