use Rattle.base_cmd.proofs.telling.tell_work.Goals as goal

pub returns : goal.returns
returns g c = rw (c.bytes.ensures, c.number-number.ensures) at c.say.ensures
