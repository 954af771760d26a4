-- A verdict of valid certifies.
use Rattle.std.proofs.Common.{ℕ, Bool, List, Option}
use Rattle.gap_fraction.specs.Fraction.{Fraction}
use Rattle.flow_model.specs.Network.{Network, IsNetwork}
use Rattle.cert_check.specs.declared.verdict.Verdict.{Verdict}
use Rattle.cert_check.specs.declared.verdict.Verdict.TheVariants.{Valid, Invalid}
use Rattle.route_tally.specs.Conditions.{IsVerdictBy}
use Rattle.hop_check.specs.declared.hop_proof.HopProof.{HopProof}
use Rattle.hop_check.specs.Conditions.{HopHolds}
use Rattle.hop_check.specs.Verdicts.{CertifiesHopsIfValid}
use Rattle.hop_check.proofs.Sound.{hops_certify}

pub verdict_certifies : (net : Network) (limits : List (Option ℕ)) (h : HopProof) (lower upper : Fraction) (closed : Bool) (v : Verdict) → IsNetwork net → IsVerdictBy (HopHolds net limits h) lower upper closed v → CertifiesHopsIfValid net limits h v
verdict_certifies net limits h lower upper closed (Valid l u c) fits is = hops_certify net limits h fits is.0
verdict_certifies net limits h lower upper closed (Invalid fault) fits is = tt
