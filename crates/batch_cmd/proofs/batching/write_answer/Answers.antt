use Rattle.std.proofs.Common.{refl}
use Rattle.base_cmd.specs.Answer.{Answer}
use Rattle.base_cmd.specs.Found.{nothing}
use Rattle.base_cmd.proofs.Ending.{ends_as}
use Rattle.batch_cmd.specs.Solves.{joined}
use Rattle.batch_cmd.proofs.batching.write_answer.Goals as goal

pub returns : goal.returns
returns g c =
    let answer : Answer = record { status = c.args.status; text = joined c.args.texts.now; found = nothing } in
    ends_as _ _ _ c.write_texts.result c.args.status c.nothing.result answer refl c.nothing.ensures c.end_of.ensures c.write_texts.ensures
