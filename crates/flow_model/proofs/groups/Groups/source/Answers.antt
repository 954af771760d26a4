use Rattle.flow_model.proofs.Grouping.{source-facts}
use Rattle.flow_model.proofs.groups.Groups.source.Goals as goal

pub bounds-sources-g : goal.bounds-sources-g
bounds-sources-g c = (source-facts c.self.inside.net.value c.args.self.now c.self.inside.sources.items c.as_slice-sources.result.now c.self.inside.starts.items c.self.inside.members.items c.args.g c.self.invariant c.self.view_is c.as_slice-sources.ensures.value c.requires).0

pub returns : goal.returns
returns c = (source-facts c.self.inside.net.value c.args.self.now c.self.inside.sources.items c.as_slice-sources.result.now c.self.inside.starts.items c.self.inside.members.items c.args.g c.self.invariant c.self.view_is c.as_slice-sources.ensures.value c.requires).1
