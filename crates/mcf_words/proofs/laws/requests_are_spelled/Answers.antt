use Rattle.mcf_words.proofs.Reading.{read_again, spelled}
use Rattle.mcf_words.proofs.laws.requests_are_spelled.Goals as goal

pub returns-clause-spelled : goal.returns-clause-spelled
returns-clause-spelled c = spelled

pub returns-clause-read : goal.returns-clause-read
returns-clause-read c = read_again
