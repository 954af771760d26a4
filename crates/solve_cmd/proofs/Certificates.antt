-- The text of a certificate, by the names and the proof that the writer was given.
use Rattle.std.proofs.Common.{◌≡◌, Result, subst}
use Rattle.mcf_base.specs.Sink.{SinkView, Wrote}
use Rattle.cert_lines.specs.Sheet.{Sheet}
use Rattle.flow_paths.specs.declared.certificate.Proof.{Proof}
use Rattle.cert_writer.specs.Text.{certificate_text}

pub text_wrote : {T E : Type 0} (old new : SinkView) (r : Result T E) (names sheet : Sheet) (given proof : Proof) → names ≡ sheet → given ≡ proof
    → Wrote old new r (certificate_text names given) → Wrote old new r (certificate_text sheet proof)
text_wrote old new r names sheet given proof e f wrote =
    subst (λ n. Wrote old new r (certificate_text n proof)) e (subst (λ p. Wrote old new r (certificate_text names p)) f wrote)
