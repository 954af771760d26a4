use Rattle.std.proofs.Common.{◌∙◌, ap, sym, length, map}
use Rattle.whatif.specs.Planned.{evaluation_of}
use Rattle.sweep_cmd.proofs.Worth.{worth_count}
use Rattle.sweep_cmd.proofs.Told.{told_lines}
use Rattle.sweep_cmd.proofs.sweeping.tell_swept.Goals as goal

pub write_lines-requires : goal.write_lines-requires
write_lines-requires g c =
    ap length c.deref.ensures.value
    ∙ (worth_count (λ id. id.now) c.in-Ok.ids.items c.args.rows.now c.args.net.now c.args.proof.now c.in-Ok-bounds_without.bounds.items c.in-Ok.ensures c.in-Ok-bounds_without.ensures ∙ sym (ap length c.deref-in-Ok-bounds_without.ensures.value))

pub returns-in-Ok-bounds_without : goal.returns-in-Ok-bounds_without
returns-in-Ok-bounds_without g c =
    told_lines c.args.rows.now c.args.net.now c.args.proof.now (map (λ id. id.now) c.deref.result.now) (map evaluation_of c.deref-in-Ok-bounds_without.result.now) _ _ _
    (ap (map (λ id. id.now)) c.deref.ensures.value ∙ c.in-Ok.ensures) (ap (map evaluation_of) c.deref-in-Ok-bounds_without.ensures.value ∙ c.in-Ok-bounds_without.ensures) c.write_lines.ensures
