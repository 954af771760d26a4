use Rattle.mcf_words.specs.Words.{words_for}
use Rattle.mcf_words.proofs.Reading.{read_again}
use Rattle.mcf_words.proofs.Wording.{words_spelled}
use Rattle.mcf_words.proofs.laws.requests_have_words.Goals as goal

pub returns-clause-spelled : goal.returns-clause-spelled
returns-clause-spelled c = words_spelled

pub returns-clause-read : goal.returns-clause-read
returns-clause-read c = λ r is. read_again (words_for r) r (words_spelled r is)
