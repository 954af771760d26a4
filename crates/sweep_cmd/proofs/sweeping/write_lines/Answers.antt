use Rattle.std.proofs.Common.{map, refl}
use Rattle.whatif.specs.Planned.{evaluation_of}
use Rattle.sweep.specs.Lines.{sweep_text}
use Rattle.base_cmd.specs.Answer.{text_answer}
use Rattle.base_cmd.proofs.Ending.{ends_as}
use Rattle.sweep_cmd.proofs.sweeping.write_lines.Goals as goal

pub returns : goal.returns
returns g c =
    let answer = text_answer (sweep_text (map (λ id. id.now) c.args.ids.now) (map evaluation_of c.args.bounds.now)) in
    ends_as _ _ _ c.write_sweep.result 0 c.nothing.result answer refl c.nothing.ensures c.end_of.ensures c.write_sweep.ensures
