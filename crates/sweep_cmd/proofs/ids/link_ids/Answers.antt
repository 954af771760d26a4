use Rattle.std.proofs.Common.{◌∙◌, ap, arith, map}
use Rattle.sndlib_grammar.specs.Rows.{NetLink}
use Rattle.sweep_cmd.proofs.Naming.{ids_more}
use Rattle.sweep_cmd.proofs.ids.link_ids.Goals as goal

pub loop-i-preserved : goal.loop-i-preserved
loop-i-preserved c =
    ap (map (λ id. id.now)) c.in_ok-push.ensures.items
    ∙ ids_more (λ id. id.now) c.loop-i.ids.items c.args.rows.now c.loop-i.i c.link.result.id (omega (arith, c.links-count.ensures.value, c.loop-i-test.true)) c.loop-i.invariant (ap (λ (l : NetLink). l.id) c.link.ensures)
