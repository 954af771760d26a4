-- A verdict of valid certifies.
use Rattle.std.proofs.Common.{Bool}
use Rattle.gap_fraction.specs.Fraction.{Fraction}
use Rattle.flow_model.specs.Network.{Network}
use Rattle.cert_check.specs.declared.verdict.Verdict.{Verdict}
use Rattle.cert_check.specs.declared.verdict.Verdict.TheVariants.{Valid, Invalid}
use Rattle.route_tally.specs.Conditions.{IsVerdictBy}
use Rattle.throughput.specs.declared.part_proof.PartProof.{PartProof}
use Rattle.throughput.specs.Conditions.{PartHolds}
use Rattle.throughput.specs.Verdicts.{CertifiesPartIfValid}
use Rattle.throughput.proofs.Sound.{parts_certify}

pub verdict_certifies : (net : Network) (p : PartProof) (lower upper : Fraction) (closed : Bool) (v : Verdict) → IsVerdictBy (PartHolds net p) lower upper closed v → CertifiesPartIfValid net p v
verdict_certifies net p lower upper closed (Valid l u c) is = parts_certify net p is.0
verdict_certifies net p lower upper closed (Invalid fault) is = tt
