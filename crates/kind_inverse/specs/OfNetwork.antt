-- What fits the text of a network is of that network.
use Rattle.sndlib_grammar.specs.Rows.{NetRows}
use Rattle.unit_scale.specs.Scaling.{ScaledNet}
use Rattle.cert_lines.specs.Sheet.{IsOf, sheet_of}
use Rattle.hop_check.specs.declared.hop_proof.HopProof.{HopProof}
use Rattle.hop_check.specs.Conditions.{IsHopProofOf}
use Rattle.throughput.specs.declared.part_proof.PartProof.{PartProof}
use Rattle.throughput.specs.Conditions.{IsPartProofOf}
use Rattle.kind_texts.specs.HopsText.{FitsHops}
use Rattle.kind_texts.specs.PartText.{FitsPart}

-- a certificate with hop limits
abbrev pub HopsAreOfTheNetwork : Type 0
HopsAreOfTheNetwork = (rows : NetRows) (net : ScaledNet) (h : HopProof) → IsOf rows net
    → FitsHops (sheet_of rows net) h → IsHopProofOf net.net h

-- a certificate of a total
abbrev pub PartsAreOfTheNetwork : Type 0
PartsAreOfTheNetwork = (rows : NetRows) (net : ScaledNet) (p : PartProof) → IsOf rows net
    → FitsPart (sheet_of rows net) p → IsPartProofOf net.net p
