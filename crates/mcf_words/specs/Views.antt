-- What the options say, as the definitions have it.
use Rattle.mcf_words.specs.declared.read.Choices.{Choices as ChoicesMade}
use Rattle.mcf_words.specs.Request.{Choices}

abbrev pub choices_view : ChoicesMade → Choices
choices_view c = record { net = c.net; gap = c.gap; phases = c.phases; workers = c.workers; step = c.step }
