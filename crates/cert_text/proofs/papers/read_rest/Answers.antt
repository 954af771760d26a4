use Rattle.cert_text.specs.Views.{opened_view}
use Rattle.cert_text.proofs.FirstLines.{gives_rest}
use Rattle.cert_text.proofs.papers.read_rest.Goals as goal

pub returns : goal.returns
returns c = λ known lines e says.
    gives_rest c.args.rows.now c.args.net.now known lines (opened_view c.args.opened) c.new-names.result c.paper_of.result c.new-names.ensures c.paper_of.ensures e says
