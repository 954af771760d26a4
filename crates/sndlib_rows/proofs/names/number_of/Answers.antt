use Rattle.std.proofs.Common.{◌∙◌}
use Rattle.sndlib_rows.proofs.Naming.{position-bytes_of}
use Rattle.sndlib_rows.proofs.names.number_of.Goals as goal

pub returns : goal.returns
returns c = c.get_index_of.ensures.index ∙ position-bytes_of c.args.name.now c.args.names.now.keys
