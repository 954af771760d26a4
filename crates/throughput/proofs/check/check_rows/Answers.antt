use Rattle.std.proofs.Common.{rules}
use Rattle.route_tally.specs.Conditions.{IsVerdictBy}
use Rattle.throughput.specs.Partial.{part_lower_of, part_upper_of}
use Rattle.throughput.specs.Conditions.{PartHolds}
use Rattle.throughput.proofs.Certified.{verdict_certifies}
use Rattle.throughput.proofs.check.check_rows.Goals as goal

pub returns-clause-certifies : goal.returns-clause-certifies
returns-clause-certifies c =
    let net = c.args.net.now in
    let p = c.args.p.now in
    let v : IsVerdictBy (PartHolds net p) (part_lower_of p.routing) (part_upper_of net p.bound) p.closed c.figures.result = search rules in
    verdict_certifies net p (part_lower_of p.routing) (part_upper_of net p.bound) p.closed c.figures.result v
