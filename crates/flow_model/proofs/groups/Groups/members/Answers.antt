use Rattle.std.proofs.Common.{arith, refl}
use Rattle.flow_model.proofs.Grouping.{facts-at}
use Rattle.flow_model.proofs.groups.Groups.members.Goals as goal

pub bounds-sources-g : goal.bounds-sources-g
bounds-sources-g c = (facts-at c.self.inside.net.value c.args.self.now c.self.inside.sources.items c.as_slice-sources.result.now c.self.inside.starts.items c.as_slice-starts.result.now c.self.inside.members.items c.self.inside.members.items c.args.g
    c.self.invariant c.self.view_is c.requires c.as_slice-sources.ensures.value c.as_slice-starts.ensures.value refl).group

pub bounds-starts-source : goal.bounds-starts-source
bounds-starts-source c =
    let f = facts-at c.self.inside.net.value c.args.self.now c.self.inside.sources.items c.as_slice-sources.result.now c.self.inside.starts.items c.as_slice-starts.result.now c.self.inside.members.items c.self.inside.members.items c.args.g
    c.self.invariant c.self.view_is c.requires c.as_slice-sources.ensures.value c.as_slice-starts.ensures.value refl in
    omega (arith, f.source, f.count)

pub bounds-starts-source-2 : goal.bounds-starts-source-2
bounds-starts-source-2 c =
    let f = facts-at c.self.inside.net.value c.args.self.now c.self.inside.sources.items c.as_slice-sources.result.now c.self.inside.starts.items c.as_slice-starts.result.now c.self.inside.members.items c.self.inside.members.items c.args.g
    c.self.invariant c.self.view_is c.requires c.as_slice-sources.ensures.value c.as_slice-starts.ensures.value refl in
    omega (arith, f.source, f.count)

pub part-requires : goal.part-requires
part-requires c =
    let f = facts-at c.self.inside.net.value c.args.self.now c.self.inside.sources.items c.as_slice-sources.result.now c.self.inside.starts.items c.as_slice-starts.result.now c.self.inside.members.items c.deref.result.now c.args.g
    c.self.invariant c.self.view_is c.requires c.as_slice-sources.ensures.value c.as_slice-starts.ensures.value c.deref.ensures.value in
    record { start = f.start; end = f.end }

pub returns : goal.returns
returns c =
    let f = facts-at c.self.inside.net.value c.args.self.now c.self.inside.sources.items c.as_slice-sources.result.now c.self.inside.starts.items c.as_slice-starts.result.now c.self.inside.members.items c.deref.result.now c.args.g
    c.self.invariant c.self.view_is c.requires c.as_slice-sources.ensures.value c.as_slice-starts.ensures.value c.deref.ensures.value in
    rw c.part.ensures f.value
