use Rattle.mcf_words.proofs.Reading.{no_spelling, usage_is}
use Rattle.mcf_words.proofs.laws.usage_is_no_spelling.Goals as goal

pub returns : goal.returns
returns c = λ words. (usage_is words, no_spelling words)
