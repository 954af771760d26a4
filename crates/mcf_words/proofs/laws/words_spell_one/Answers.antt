use Rattle.mcf_words.proofs.Reading.{one_request}
use Rattle.mcf_words.proofs.laws.words_spell_one.Goals as goal

pub returns : goal.returns
returns c = one_request
