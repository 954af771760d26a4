use Rattle.base_cmd.proofs.tell_judged.tell_judged.Goals as goal

pub returns-in-NetRefused : goal.returns-in-NetRefused
returns-in-NetRefused g c = rw c.in-NetRefused.is c.tell_net_refusal.ensures

pub returns-in-CertRefused : goal.returns-in-CertRefused
returns-in-CertRefused g c = rw c.in-CertRefused.is c.tell_cert_refusal.ensures
