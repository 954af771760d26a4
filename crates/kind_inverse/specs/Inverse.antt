-- Both texts both ways: what is written is read as the same, and what is read was written so.
use Rattle.std.specs.Prelude.{◌≡◌, ◌↔◌, ℕ, List, Ok}
use Rattle.text_lines.specs.Lines.{lines_of}
use Rattle.cert_lines.specs.Sheet.{Sheet}
use Rattle.cert_inverse.specs.Inverse.{IsCitable}
use Rattle.hop_check.specs.declared.hop_proof.HopProof.{HopProof}
use Rattle.throughput.specs.declared.part_proof.PartProof.{PartProof}
use Rattle.kind_texts.specs.HopsText.{hops_text, FitsHops}
use Rattle.kind_texts.specs.HopsRead.{hops_in}
use Rattle.kind_texts.specs.PartText.{part_text, FitsPart}
use Rattle.kind_texts.specs.PartRead.{part_in}

-- a text is read as a certificate with hop limits exactly where it is that certificate's text, within the limits
abbrev pub HopsAreRead : Type 0
HopsAreRead = (sheet : Sheet) (text : List ℕ) (h : HopProof) → IsCitable sheet
    → (hops_in sheet (lines_of text) ≡ Ok h) ↔ (FitsHops sheet h × (text ≡ hops_text sheet h))

-- two certificates with hop limits of one text are equal
abbrev pub HopTextsAreUnique : Type 0
HopTextsAreUnique = (sheet : Sheet) (h other : HopProof) → IsCitable sheet → FitsHops sheet h
    → FitsHops sheet other → hops_text sheet h ≡ hops_text sheet other → h ≡ other

-- a text is read as a certificate of a total exactly where it is that certificate's text, within the limits
abbrev pub PartsAreRead : Type 0
PartsAreRead = (sheet : Sheet) (text : List ℕ) (p : PartProof) → IsCitable sheet
    → (part_in sheet (lines_of text) ≡ Ok p) ↔ (FitsPart sheet p × (text ≡ part_text sheet p))

-- two certificates of a total of one text are equal
abbrev pub PartTextsAreUnique : Type 0
PartTextsAreUnique = (sheet : Sheet) (p other : PartProof) → IsCitable sheet → FitsPart sheet p
    → FitsPart sheet other → part_text sheet p ≡ part_text sheet other → p ≡ other
