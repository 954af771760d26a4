use Rattle.std.proofs.Common.{◌∙◌, ap, subst, length}
use Rattle.std.specs.Fmt.{decimal}
use Rattle.text_lines.specs.Lines.{Line, spelled}
use Rattle.mcf_base.specs.Sink.{Wrote}
use Rattle.base_cmd.specs.Judged.{verdict_word}
use Rattle.solve_cmd.proofs.Trying.{trial_line_is}
use Rattle.solve_cmd.proofs.drawn.write_trial.Goals as goal

pub returns : goal.returns
returns g c =
    let line = trial_line_is c.args.links c.args.net.now c.args.solved.now _ _ _ _ _ _ _ _
    (c.bytes.ensures ∙ c.number-nodes.ensures ∙ ap decimal c.nodes.ensures.value)
    (c.bytes-2.ensures ∙ c.number-links.ensures)
    (c.bytes-3.ensures ∙ c.number-commodities.ensures ∙ ap (λ xs. decimal (length xs)) c.commodities.ensures.value)
    (c.bytes-4.ensures ∙ c.number-total.ensures ∙ ap decimal c.total_amount.ensures)
    (c.bytes-5.ensures ∙ c.number-phases.ensures ∙ ap (λ p. decimal p.routing.phases) c.proof-proof.ensures)
    (c.bytes-6.ensures ∙ c.number-routes.ensures ∙ ap decimal c.route_count.ensures)
    (c.bytes-7.ensures ∙ c.number-carried.ensures ∙ ap decimal c.carried_amount.ensures)
    (c.verdict_word.ensures ∙ ap (λ p. verdict_word p.closed) c.proof-proof.ensures) in
    subst (λ l. Wrote (g.K.Sink.seen c.args.out.now) (g.K.Sink.seen c.write_line.new.out) c.write_line.result (spelled l)) line c.write_line.ensures
