use Rattle.flow_paths.proofs.RowsKept.{IsIndexOf-grow}
use Rattle.std.proofs.Common.{◌<◌, length}
use Rattle.flow_paths.proofs.path_store.PathStore.grow.Goals as goal

pub invariant_of-self : goal.invariant_of-self
invariant_of-self c =
    let lt : c.args.row < length c.self.inside.rows = rw c.self.view_is c.requires.row in
    rw c.grow.ensures (IsIndexOf-grow c.self.inside.index c.self.inside.rows c.args.row c.args.amount lt c.self.invariant)
