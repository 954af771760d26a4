use Rattle.flow_paths.proofs.FirstFullest.{first-fullest, none-loaded}
use Rattle.flow_paths.proofs.laws.fullest_is_first_of_the_least.Goals as goal

pub returns : goal.returns
returns c = record { some = λ cells loads c e inside some. first-fullest cells loads c e inside some; none = λ cells loads h. none-loaded cells loads h }
