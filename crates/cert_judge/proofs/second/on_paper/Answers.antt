use Rattle.cert_judge.proofs.second.on_paper.Goals as goal

pub returns-clause-certificate : goal.returns-clause-certificate
returns-clause-certificate c = rw c.in-Full.is c.on_proof.ensures.certificate
