-- What a verdict on a certificate of a total says.
use Rattle.flow_model.specs.Network.{Network}
use Rattle.cert_check.specs.declared.verdict.Verdict.{Verdict}
use Rattle.cert_check.specs.declared.verdict.Verdict.TheVariants.{Valid, Invalid}
use Rattle.throughput.specs.declared.part_proof.PartProof.{PartProof}
use Rattle.throughput.specs.Conditions.{IsPartCertified}

-- where the verdict is valid, the certificate is what it is for
abbrev pub CertifiesPartIfValid : Network → PartProof → Verdict → Type 0
CertifiesPartIfValid net p (Valid lower upper closed) = IsPartCertified net p
CertifiesPartIfValid net p (Invalid fault) = Unit {0}
