use Rattle.cert_inverse.proofs.JudgedTexts.{valid_certificate}
use Rattle.net_solve.proofs.Written.{written}
use Rattle.net_solve.proofs.Judged.{judged_valid}
use Rattle.net_solve.proofs.text_laws.solved_is_judged_valid.Goals as goal

pub returns : goal.returns
returns c = record {
  valid = λ rows net o s of few facts n solved. judged_valid rows net s.proof of few (written rows net o s of facts n solved) solved.valid;
  alone = λ rows net o s judged of few facts n solved said. valid_certificate rows net s.proof judged of few (written rows net o s of facts n solved) solved.valid said;
}
