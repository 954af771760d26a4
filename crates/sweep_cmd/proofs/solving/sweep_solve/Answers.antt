use Rattle.sweep_cmd.proofs.Gathering.{all_swept}
use Rattle.sweep_cmd.proofs.solving.sweep_solve.Goals as goal

pub returns : goal.returns
returns g c = all_swept c.args.mode c.args.net.now c.args.options.now c.in_ok-swept.swept.items c.args.links c.in_ok-swept.ensures.count (λ i d lt. (c.in_ok-swept.ensures.each i d lt).call.met)
