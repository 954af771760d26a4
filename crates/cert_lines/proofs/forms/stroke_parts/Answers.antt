use Rattle.std.proofs.Common.{sym}
use Rattle.cert_lines.proofs.LineForms.{stroke_found, stroke_none}
use Rattle.cert_lines.proofs.forms.stroke_parts.Goals as goal

pub returns-in-Some : goal.returns-in-Some
returns-in-Some c = stroke_found c.args.word.now c.in-Some.i (sym c.in-Some.ensures)

pub returns-in-None : goal.returns-in-None
returns-in-None c = stroke_none c.args.word.now (sym c.in-None.ensures)
