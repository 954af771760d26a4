-- Texts and the certificates that they are read as, one for one.
use Rattle.std.proofs.Common.{ℕ, List, sym, ap, ◌∙◌}
use Rattle.text_lines.specs.Lines.{lines_of}
use Rattle.cert_lines.specs.declared.refusal.CertRefusal.{CertRefusal}
use Rattle.cert_text.proofs.LineSteps.{text_bytes}
use Rattle.cert_text.proofs.Steps.{ok_is}
use Rattle.kind_texts.specs.HopsRead.{hops_in}
use Rattle.kind_texts.specs.PartRead.{part_in}
use Rattle.kind_texts.proofs.HopsFit.{hops_within}
use Rattle.kind_texts.proofs.PartFits.{part_within}
use Rattle.kind_inverse.specs.Inverse.{HopsAreRead, HopTextsAreUnique, PartsAreRead, PartTextsAreUnique}
use Rattle.kind_inverse.proofs.HopsTakes.{hops_take}
use Rattle.kind_inverse.proofs.PartTakes.{part_take}
use Rattle.kind_inverse.proofs.TextsAgain.{hops_read_back, part_read_back}

pub hops_exactly : HopsAreRead
hops_exactly sheet text h own = (
  λ e. (hops_within sheet (lines_of text) h e, sym (text_bytes text) ∙ hops_take sheet (lines_of text) h e),
  λ t. ap (λ (bytes : List ℕ). hops_in sheet (lines_of bytes)) t.1 ∙ hops_read_back sheet h own t.0,
)

pub hops_one : HopTextsAreUnique
hops_one sheet h other own a b same =
    ok_is {E = CertRefusal} h other (sym (hops_read_back sheet h own a) ∙ ap (λ (bytes : List ℕ). hops_in sheet (lines_of bytes)) same ∙ hops_read_back sheet other own b)

pub parts_exactly : PartsAreRead
parts_exactly sheet text p own = (
  λ e. (part_within sheet (lines_of text) p e, sym (text_bytes text) ∙ part_take sheet (lines_of text) p e),
  λ t. ap (λ (bytes : List ℕ). part_in sheet (lines_of bytes)) t.1 ∙ part_read_back sheet p own t.0,
)

pub parts_one : PartTextsAreUnique
parts_one sheet p other own a b same =
    ok_is {E = CertRefusal} p other (sym (part_read_back sheet p own a) ∙ ap (λ (bytes : List ℕ). part_in sheet (lines_of bytes)) same ∙ part_read_back sheet other own b)
