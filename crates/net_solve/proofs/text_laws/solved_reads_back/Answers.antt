use Rattle.net_solve.proofs.Written.{written}
use Rattle.net_solve.proofs.Judged.{read_back}
use Rattle.net_solve.proofs.text_laws.solved_reads_back.Goals as goal

pub returns : goal.returns
returns c = λ rows net o s of few facts n solved. read_back rows net s.proof of few (written rows net o s of facts n solved)
