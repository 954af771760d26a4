use Rattle.std.proofs.Common.{rules}
use Rattle.cert_check.specs.declared.verdict.Verdict.TheVariants.{Valid}
use Rattle.route_tally.specs.Conditions.{IsFirstFailing, IsVerdictBy}
use Rattle.throughput.specs.Partial.{part_lower_of, part_upper_of}
use Rattle.throughput.specs.Conditions.{PartHolds, IsPartCertified}
use Rattle.throughput_cmd.proofs.Verdicts.{valid_said, invalid_said}
use Rattle.throughput_cmd.proofs.judging.say_part.Goals as goal

pub returns-in-Valid : goal.returns-in-Valid
returns-in-Valid c =
    let n = c.net.result.now in
    let p = c.args.p.now in
    let v : IsVerdictBy (PartHolds n p) (part_lower_of p.routing) (part_upper_of n p.bound) p.closed (Valid c.in-Valid.lower c.in-Valid.upper c.in-Valid.closed) = search rules in
    let k : IsPartCertified n p = search rules in
    valid_said c.args.net.now n p c.in-Valid.lower c.in-Valid.upper c.in-Valid.closed c.options.result c.net.ensures.value c.options.ensures v k

pub returns-in-Invalid : goal.returns-in-Invalid
returns-in-Invalid c =
    let n = c.net.result.now in
    let first : IsFirstFailing (PartHolds n c.args.p.now) c.in-Invalid.fault = search rules in
    invalid_said c.args.net.now n c.args.p.now c.in-Invalid.fault c.net.ensures.value first
