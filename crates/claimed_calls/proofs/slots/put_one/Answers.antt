use Rattle.claimed_calls.proofs.Claiming.{one_put}
use Rattle.claimed_calls.proofs.slots.put_one.Goals as goal

pub returns : goal.returns
returns g c i lt = one_put c.args.slots.now c.args.number c.args.answer i c.if-number-slots.false
