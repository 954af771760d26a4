-- What a verdict says of a certificate of a total.
use Rattle.std.proofs.Common.{◌≡◌, Bool, subst}
use Rattle.flow_model.specs.Network.{Network}
use Rattle.gap_fraction.specs.Fraction.{Fraction}
use Rattle.unit_scale.specs.declared.options.NetOptions.{NetOptions}
use Rattle.unit_scale.specs.Scaling.{ScaledNet}
use Rattle.cert_check.specs.declared.verdict.Fault.{Fault}
use Rattle.cert_check.specs.declared.verdict.Verdict.TheVariants as verdicts
use Rattle.cert_judge.specs.declared.judged.Judged.TheVariants.{Valid, Invalid}
use Rattle.route_tally.specs.Conditions.{IsFirstFailing, IsVerdictBy}
use Rattle.throughput.specs.declared.part_proof.PartProof.{PartProof}
use Rattle.throughput.specs.Partial.{part_lower_of, part_upper_of}
use Rattle.throughput.specs.Conditions.{PartHolds, IsPartCertified}
use Rattle.throughput_cmd.specs.Check.{SaysPart}

-- the verdict on a network is said of the scaled one that has it
pub valid_said : (net : ScaledNet) (n : Network) (p : PartProof) (l u : Fraction) (c : Bool) (o : NetOptions) → n ≡ net.net → o ≡ net.options
    → IsVerdictBy (PartHolds n p) (part_lower_of p.routing) (part_upper_of n p.bound) p.closed (verdicts.Valid l u c) → IsPartCertified n p → SaysPart net p (Valid o c l u)
valid_said net n p l u c o is under v certified =
    let w = subst (λ (m : Network). IsVerdictBy (PartHolds m p) (part_lower_of p.routing) (part_upper_of m p.bound) p.closed (verdicts.Valid l u c)) is v in
    (under, w.3, w.1, w.2, w.0, subst (λ (m : Network). IsPartCertified m p) is certified)

pub invalid_said : (net : ScaledNet) (n : Network) (p : PartProof) (fault : Fault) → n ≡ net.net → IsFirstFailing (PartHolds n p) fault → SaysPart net p (Invalid fault)
invalid_said net n p fault is first = subst (λ (m : Network). IsFirstFailing (PartHolds m p) fault) is first
