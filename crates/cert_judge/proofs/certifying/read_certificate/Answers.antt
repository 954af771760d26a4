use Rattle.std.proofs.Common.{Ok, ap, ◌∙◌}
use Rattle.cert_text.specs.declared.papers.Paper.{Paper}
use Rattle.cert_judge.proofs.KnownHeaders.{reads_no_routing}
use Rattle.cert_judge.proofs.certifying.read_certificate.Goals as goal

pub on_paper-requires-clause-full : goal.on_paper-requires-clause-full
on_paper-requires-clause-full c = λ routing e.
    reads_no_routing c.args.rows.now c.args.text.now c.in-Ok.net routing (c.in-Ok.ensures.value ∙ ap (λ (p : Paper). Ok (c.in-Ok.net, p)) e)
