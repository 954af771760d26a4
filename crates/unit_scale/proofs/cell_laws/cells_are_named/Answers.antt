use Rattle.unit_scale.proofs.Named.{cells_counted, cell_named}
use Rattle.unit_scale.proofs.cell_laws.cells_are_named.Goals as goal

pub returns : goal.returns
returns c = λ o s rows. (cells_counted o s rows, cell_named o s rows)
