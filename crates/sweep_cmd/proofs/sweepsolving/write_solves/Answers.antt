use Rattle.std.proofs.Common.{map}
use Rattle.base_cmd.specs.Answer.{Answer}
use Rattle.base_cmd.specs.Found.{nothing}
use Rattle.base_cmd.proofs.Ending.{ends_as}
use Rattle.sweep_cmd.specs.Lines.{swept_status, swept_text}
use Rattle.sweep_cmd.proofs.sweepsolving.write_solves.Goals as goal

pub returns : goal.returns
returns g c =
    let answer : Answer = record { status = swept_status c.args.swept.now; text = swept_text (map (λ id. id.now) c.args.ids.now) c.args.swept.now; found = nothing } in
    ends_as _ _ _ c.write_swept.result c.swept_status-status.result c.nothing.result answer c.swept_status-status.ensures c.nothing.ensures c.end_of.ensures c.write_swept.ensures
