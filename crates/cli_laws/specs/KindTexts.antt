-- Texts of certificates with hop limits and of totals, and what a refusal of one says.
use Rattle.std.specs.Prelude.{◌≡◌, ◌≢◌, ◌⊎◌, ℕ, List, [], ◌∷◌, codes, Result, Err}
use Rattle.std.specs.List.{join_with_byte}
use Rattle.text_lines.specs.Lines.{Line}
use Rattle.cert_lines.specs.Sheet.{Sheet}
use Rattle.cert_lines.specs.declared.refusal.CertKind.TheVariants.{NoHeader}
use Rattle.cert_lines.specs.declared.refusal.CertRefusal.{CertRefusal}
use Rattle.hop_check.specs.declared.hop_proof.HopProof.{HopProof}
use Rattle.throughput.specs.declared.part_proof.PartProof.{PartProof}
use Rattle.kind_texts.specs.HopsText.{hops_text, FitsHops}
use Rattle.kind_texts.specs.PartText.{part_text, FitsPart}
use Rattle.cli_laws.specs.LineRoles.{TextKind, hops, total, IsBodyReason}
use Rattle.cli_laws.specs.Refusals.{Reason, HasReason}

-- this is the text of some certificate with hop limits
abbrev pub IsHopsText : Sheet → List ℕ → Type 0
IsHopsText sheet text = (h : HopProof) × FitsHops sheet h × (text ≡ hops_text sheet h)

-- this is the text of some certificate of a total
abbrev pub IsTotalText : Sheet → List ℕ → Type 0
IsTotalText sheet text = (p : PartProof) × FitsPart sheet p × (text ≡ part_text sheet p)

-- what reading answers where it refuses
abbrev pub hops_refused : CertRefusal → Result HopProof CertRefusal
hops_refused r = Err r

abbrev pub total_refused : CertRefusal → Result PartProof CertRefusal
total_refused r = Err r

-- both headers
abbrev pub hops_header : List ℕ
hops_header = codes "mcf-hops 1"

abbrev pub total_header : List ℕ
total_header = codes "mcf-throughput 1"

-- the first line is this header
abbrev pub IsUnder : List ℕ → List Line → Type 0
IsUnder header [] = ⊥
IsUnder header (line ∷ lines) = join_with_byte 32 line ≡ header

-- a refusal of the line between these: it is the first and not this header; or the first is, and this is wrong
abbrev pub IsReasonUnder : List ℕ → Sheet → TextKind → List Line → Reason
IsReasonUnder header sheet kind lines before line after r =
    ((r.line ≡ 1) × (join_with_byte 32 line ≢ header) × (r.kind ≡ NoHeader))
    ⊎ (IsUnder header lines × IsBodyReason sheet kind before line after r)

-- the refusal is of a line of the text, for such a reason: of a certificate with hop limits, or of one of a total
abbrev pub IsHopsRefusedFor : Sheet → List Line → CertRefusal → Type 0
IsHopsRefusedFor sheet lines r = HasReason lines (IsReasonUnder hops_header sheet hops lines) r

abbrev pub IsTotalRefusedFor : Sheet → List Line → CertRefusal → Type 0
IsTotalRefusedFor sheet lines r = HasReason lines (IsReasonUnder total_header sheet total lines) r
