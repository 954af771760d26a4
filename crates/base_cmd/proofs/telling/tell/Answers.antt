use Rattle.base_cmd.proofs.telling.tell.Goals as goal

pub returns-in-TooMuch : goal.returns-in-TooMuch
returns-in-TooMuch g c = rw (c.in-TooMuch.is) c.tell_work.ensures
