use Rattle.std.proofs.Common.{Ok, ap, sym, ◌∙◌}
use Rattle.sndlib_grammar.specs.Rows.{NetRows}
use Rattle.sndlib_read.proofs.Whole.{IsSound, sound, raw_net, judged_rows}
use Rattle.sndlib_read.proofs.judge.judge.Goals as goal

pub new-requires : goal.new-requires
new-requires c =
    let ends = c.in-Ok-link_ends.ends in
    let demands = c.in-Ok-demand_rows.demands.items in
    let h : IsSound c.args.rows c.in-Ok.names ends.items demands = sound c.args.rows c.in-Ok.names ends.items demands c.deref.result.now c.deref-2.result.now c.requires (sym c.too_many.ensures ∙ c.in_default.is) (sym c.bad_number.ensures ∙ c.in_default-bad_number.is) c.in-Ok.ensures c.deref.ensures.value c.in-Ok-link_ends.ensures c.deref-2.ensures.value c.in-Ok-demand_rows.ensures in
    raw_net c.args.rows c.in-Ok.names ends c.args.end demands h

pub returns-in-Ok-new : goal.returns-in-Ok-new
returns-in-Ok-new c =
    let ends = c.in-Ok-link_ends.ends in
    let demands = c.in-Ok-demand_rows.demands.items in
    let h : IsSound c.args.rows c.in-Ok.names ends.items demands = sound c.args.rows c.in-Ok.names ends.items demands c.deref.result.now c.deref-2.result.now c.requires (sym c.too_many.ensures ∙ c.in_default.is) (sym c.bad_number.ensures ∙ c.in_default-bad_number.is) c.in-Ok.ensures c.deref.ensures.value c.in-Ok-link_ends.ensures c.deref-2.ensures.value c.in-Ok-demand_rows.ensures in
    judged_rows c.args.rows c.in-Ok.names ends c.args.end demands h ∙ ap (λ (r : NetRows). Ok r) (sym c.in-Ok-new.ensures)
