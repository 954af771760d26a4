use Rattle.cert_judge.proofs.PaperFits.{papers_fit}
use Rattle.cert_judge.proofs.NewFits.{new_fits}
use Rattle.cert_judge.proofs.laws.papers_fit.Goals as goal

pub returns : goal.returns
returns c = record { read = papers_fit; new = new_fits }
