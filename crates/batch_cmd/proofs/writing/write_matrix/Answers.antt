use Rattle.std.proofs.Common.{[], ◌∷◌, ◌∙◌, ap, sym, subst}
use Rattle.std.specs.Prelude.{codes}
use Rattle.flow_paths.specs.declared.certificate.Proof.{Proof}
use Rattle.flow_model.specs.Network.{IsNetwork}
use Rattle.mcf_base.specs.declared.writing.WriteFault.{WriteFault}
use Rattle.mcf_base.proofs.Known.{wrote_then, wrote_stops}
use Rattle.text_lines.specs.Lines.{spelled}
use Rattle.cert_lines.specs.Sheet.{Sheet, sheet_of}
use Rattle.cert_writer.specs.Text.{FitsProof, certificate_text}
use Rattle.batch_cmd.proofs.writing.write_matrix.Goals as goal

pub returns-in-Err : goal.returns-in-Err
returns-in-Err g c =
    let m = c.args.matrix.now in
    wrote_stops {A = Unit {0}} {B = Unit {0}} {E = WriteFault} _ _ c.in-Err.fault (spelled (codes "matrix" ∷ m.name.now ∷ [])) (certificate_text (sheet_of m.rows m.net) c.args.solved.now.proof) c.in-Err.ensures

pub write_cert-requires-clause-fits : goal.write_cert-requires-clause-fits
write_cert-requires-clause-fits g c =
    let m = c.args.matrix.now in
    let sound : IsNetwork m.net.net = subst IsNetwork c.net.ensures.value c.nodes-nodes.ensures.net in
    let fits = c.solved_can_be_written.ensures m.rows m.net c.requires.options c.args.solved.now c.requires.named c.net.ensures.facts sound c.requires.solved in
    subst (λ (sheet : Sheet). FitsProof sheet c.proof.result.now) (sym c.new-names.ensures) (subst (λ (p : Proof). FitsProof (sheet_of m.rows m.net) p) (sym c.proof.ensures) fits)

pub returns : goal.returns
returns g c =
    let m = c.args.matrix.now in
    let line = spelled (codes "matrix" ∷ m.name.now ∷ []) in
    let same = ap (λ (sheet : Sheet). certificate_text sheet c.proof.result.now) c.new-names.ensures ∙ ap (λ (p : Proof). certificate_text (sheet_of m.rows m.net) p) c.proof.ensures in
    wrote_then {A = Unit {0}} {B = Unit {0}} {E = WriteFault} _ _ _ tt c.write_cert.result line (certificate_text (sheet_of m.rows m.net) c.args.solved.now.proof) c.in-Ok.ensures (rw same at c.write_cert.ensures)
