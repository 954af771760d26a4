use Rattle.unit_scale.proofs.LinkCaps.{set_of_link, set_of_other}
use Rattle.unit_scale.proofs.cell_laws.link_is_set.Goals as goal

pub returns : goal.returns
returns c = λ mode caps link cap cell h. (set_of_link mode caps link cap cell h, set_of_other mode caps link cap cell h)
