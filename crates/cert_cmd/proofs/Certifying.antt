-- The text of a certificate that was written.
use Rattle.std.proofs.Common.{◌≡◌, Result, subst}
use Rattle.mcf_base.specs.Sink.{SinkView, Wrote}
use Rattle.flow_paths.specs.declared.certificate.Proof.{Proof}
use Rattle.cert_lines.specs.Sheet.{Sheet}
use Rattle.cert_writer.specs.Text.{certificate_text}

-- the text that was written is that of the names
pub text_wrote : {T E : Type 0} (old new : SinkView) (r : Result T E) (names sheet : Sheet) (proof : Proof) → names ≡ sheet
    → Wrote old new r (certificate_text names proof) → Wrote old new r (certificate_text sheet proof)
text_wrote old new r names sheet proof e wrote = subst (λ n. Wrote old new r (certificate_text n proof)) e wrote
