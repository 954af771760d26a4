-- What comes of a certificate's text where a routing's is none, on the rows of a network.
use Rattle.std.specs.Prelude.{◌≡◌, ◌≤◌, ℕ, List}
use Rattle.flow_model.specs.Network.{IsNetwork}
use Rattle.flow_paths.specs.declared.certificate.Proof.{Proof}
use Rattle.flow_paths.specs.Certificate.{IsProofOf, IsValid, IsCertified}
use Rattle.sndlib_grammar.specs.Rows.{NetRows}
use Rattle.unit_scale.specs.Scaling.{ScaledNet}
use Rattle.cert_lines.specs.Sheet.{IsOf, sheet_of}
use Rattle.cert_lines.specs.declared.net_line.TheConstants.{MAX_COUNT}
use Rattle.cert_writer.specs.Text.{FitsProof}
use Rattle.cert_text.specs.declared.opening.Known.TheVariants.{Certificates}
use Rattle.cert_text.specs.declared.papers.Paper.{Paper}
use Rattle.cert_text.specs.declared.papers.Paper.TheVariants.{Routing, Full}
use Rattle.cert_check.specs.Verdict.{IsFirstFault}
use Rattle.cert_judge.specs.declared.refusal.Refusal.{Refusal}
use Rattle.cert_judge.specs.declared.judged.Judged.TheVariants.{Invalid}
use Rattle.cert_judge.specs.declared.certifying.Certified.{Certified}
use Rattle.cert_judge.specs.declared.certifying.Certified.TheVariants.{Valid, Said}
use Rattle.cert_judge.specs.Chain.{IsSaid}
use Rattle.cert_judge.specs.Papers.{paper_on}
use Rattle.cert_judge.specs.Judgement.{refused}

-- the network in units is that of the rows, and the certificate is of it, valid, and what it is for; and it
-- can be written
pub record IsCertificate (rows : NetRows) (net : ScaledNet) (proof : Proof) : Type 0 where
  pub names : IsOf rows net
  pub network : IsNetwork net.net
  pub proof_of : IsProofOf net.net proof
  pub valid : IsValid net.net proof
  pub certified : IsCertified net.net proof
  pub fits : FitsProof (sheet_of rows net) proof
  pub counted : rows.skipped ≤ MAX_COUNT

-- a certificate: it is valid, or this is the first of its conditions that fails
abbrev pub OnCertificate : NetRows → ScaledNet → Proof → Certified → Type 0
OnCertificate rows net proof (Valid n p) = (n ≡ net) × (p ≡ proof) × IsCertificate rows net proof
OnCertificate rows net proof (Said (Invalid fault)) = IsFirstFault net.net proof fault
OnCertificate rows net proof _ = ⊥

-- what was read on the network is a certificate, since the header of a routing is none that is known
abbrev pub OnRead : NetRows → ScaledNet → Paper → Certified → Type 0
OnRead rows net (Full proof) certified = OnCertificate rows net proof certified
OnRead rows net (Routing r) certified = ⊥

-- a refusal comes as it is said
abbrev pub told : Refusal → Certified
told refusal = Said (refused refusal)

-- what comes of the text on these rows
abbrev pub IsCertifiedText : NetRows → List ℕ → Certified → Type 0
IsCertifiedText rows text certified = IsSaid told (OnRead rows) (paper_on Certificates rows text) certified

-- a valid one is a certificate of the network of the rows
abbrev pub IsSound : NetRows → Certified → Type 0
IsSound rows (Valid net proof) = IsCertificate rows net proof
IsSound rows (Said judged) = Unit {0}
