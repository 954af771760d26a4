use Rattle.net_gen.proofs.Repeating.{text_repeated}
use Rattle.net_gen.proofs.laws.generated_text_is_canonical.Goals as goal

pub returns : goal.returns
returns c = text_repeated
