use Rattle.std.proofs.Common.{Ok, ap, ◌∙◌}
use Rattle.cert_text.specs.declared.papers.Paper.{Paper}
use Rattle.cert_judge.proofs.PaperFacts.{own_scaled}
use Rattle.cert_judge.proofs.Seconds.{no_second_routing}
use Rattle.cert_judge.proofs.second.read_second.Goals as goal

pub on_paper-requires-clause-full : goal.on_paper-requires-clause-full
on_paper-requires-clause-full c = λ routing e.
    no_second_routing c.args.rows.now c.args.net.now c.args.text.now c.args.net.now routing (own_scaled c.args.rows.now c.args.net.now c.requires.of)
    (c.in-Ok.ensures.value ∙ ap (λ (p : Paper). Ok (c.args.net.now, p)) e)
