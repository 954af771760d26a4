use Rattle.net_solve.proofs.Written.{written}
use Rattle.net_solve.proofs.text_laws.solved_can_be_written.Goals as goal

pub returns : goal.returns
returns c = λ rows net o s of facts n solved. written rows net o s of facts n solved
