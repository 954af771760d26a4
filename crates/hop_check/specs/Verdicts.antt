-- What a verdict on a certificate with hop limits says.
use Rattle.std.specs.Prelude.{ℕ, List, Option}
use Rattle.flow_model.specs.Network.{Network}
use Rattle.cert_check.specs.declared.verdict.Verdict.{Verdict}
use Rattle.cert_check.specs.declared.verdict.Verdict.TheVariants.{Valid, Invalid}
use Rattle.hop_check.specs.declared.hop_proof.HopProof.{HopProof}
use Rattle.hop_check.specs.Conditions.{IsHopCertified}

-- where the verdict is valid, the certificate is what it is for
abbrev pub CertifiesHopsIfValid : Network → List (Option ℕ) → HopProof → Verdict → Type 0
CertifiesHopsIfValid net limits h (Valid lower upper closed) = IsHopCertified net limits h
CertifiesHopsIfValid net limits h (Invalid fault) = Unit {0}
