use Rattle.base_cmd.proofs.tell_judged.tell_net_refusal.Goals as goal

pub returns : goal.returns
returns g c = rw (c.kind_word.ensures, c.bytes.ensures, c.number-line.ensures) at c.say.ensures
