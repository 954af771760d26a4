use Rattle.std.proofs.Common.{arith}
use Rattle.flow_model.proofs.Grouping.{counted}
use Rattle.flow_model.proofs.groups.Groups.count.Goals as goal

pub overflow_cast-result : goal.overflow_cast-result
overflow_cast-result c =
    let f = counted c.self.inside.net.value c.args.self.now c.self.inside.sources.items c.self.inside.starts.items c.self.inside.members.items c.self.invariant c.self.view_is in
    omega (arith, f.few)

pub returns : goal.returns
returns c =
    let f = counted c.self.inside.net.value c.args.self.now c.self.inside.sources.items c.self.inside.starts.items c.self.inside.members.items c.self.invariant c.self.view_is in
    omega (arith, f.count)
