use Rattle.net_gen.proofs.Sizes.{text_short}
use Rattle.net_gen.proofs.laws.generated_text_is_short.Goals as goal

pub returns : goal.returns
returns c = text_short
