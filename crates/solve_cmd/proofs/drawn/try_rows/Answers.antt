use Rattle.std.proofs.Common.{rules, ◌≡◌, Err}
use Rattle.unit_scale.specs.Scaling.{scaled_of}
use Rattle.solve_cmd.proofs.Trying.{counts_are, told_done, told_work}
use Rattle.solve_cmd.proofs.drawn.try_rows.Goals as goal

pub returns-in-Ok-Done : goal.returns-in-Ok-Done
returns-in-Ok-Done g c =
    let drawn = c.drawn_networks_are_scaled.ensures.network _ _ _ _ c.args.raw.now c.args.request.now.net (counts_are c.args.request.now.numbers c.requires.drawn) c.requires.text in
    told_done c.args.request.now c.args.raw.now c.in-Ok-Done.net c.in-Ok-Done.solved _ _ _ _ drawn (search rules) c.net-in-Ok-Done.ensures.value c.tell_trial.ensures

pub returns-in-Ok-TooMuch : goal.returns-in-Ok-TooMuch
returns-in-Ok-TooMuch g c =
    let drawn = c.drawn_networks_are_scaled.ensures.network _ _ _ _ c.args.raw.now c.args.request.now.net (counts_are c.args.request.now.numbers c.requires.drawn) c.requires.text in
    told_work c.args.request.now c.args.raw.now c.in-Ok-TooMuch.work _ _ _ drawn (search rules) (search rules)

pub unreachable-requires : goal.unreachable-requires
unreachable-requires g c =
    let refused : scaled_of c.args.raw.now c.args.request.now.net ≡ Err c.in-Ok-Refused.field-0-0 = search rules in
    c.drawn_networks_are_scaled.ensures.accepted _ _ _ _ c.args.raw.now c.args.request.now.net c.in-Ok-Refused.field-0-0 (counts_are c.args.request.now.numbers c.requires.drawn) c.requires.text refused
