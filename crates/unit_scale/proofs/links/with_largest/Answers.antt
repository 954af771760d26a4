use Rattle.std.proofs.Common.{◌+◌, ◌∙◌, ap, Bool}
use Rattle.unit_scale.specs.Seen.{bytes_of, seen}
use Rattle.unit_scale.specs.Sizes.{every_other}
use Rattle.unit_scale.proofs.Modules.{largest_seen}
use Rattle.unit_scale.proofs.links.with_largest.Goals as goal

pub returns : goal.returns
returns c =
    let e = c.in-Some.ensures in
    (e.0, ap (λ (b : Bool). seen b (c.args.start.millionths + c.in-Some.found.size)) c.either.ensures ∙ largest_seen c.args.start.over c.in-Some.found.over c.args.start.millionths c.in-Some.found.size (every_other (bytes_of c.args.modules.now)) e.1 e.2)
