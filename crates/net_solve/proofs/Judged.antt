-- The text of what is solved is read back, and judged valid.
use Rattle.std.proofs.Common.{◌≡◌, ◌≤◌, refl}
use Rattle.text_lines.specs.Lines.{lines_of}
use Rattle.flow_paths.specs.declared.certificate.Proof.{Proof}
use Rattle.flow_paths.specs.Certificate.{IsValid}
use Rattle.sndlib_grammar.specs.Rows.{NetRows}
use Rattle.unit_scale.specs.Scaling.{ScaledNet}
use Rattle.cert_lines.specs.Sheet.{IsOf, sheet_of, sheets_of}
use Rattle.cert_lines.specs.declared.form.Form.TheVariants.{Second}
use Rattle.cert_lines.specs.declared.net_line.TheConstants.{MAX_COUNT}
use Rattle.cert_text.specs.declared.papers.Paper.TheVariants.{Full}
use Rattle.cert_text.specs.Whole.{paper_in}
use Rattle.cert_writer.specs.Text.{FitsProof, certificate_text}
use Rattle.cert_judge.specs.Fits.{read}
use Rattle.cert_check.proofs.Sound.{valid_certifies}
use Rattle.cert_judge.specs.Judgement.{IsJudgement}
use Rattle.cert_judge.proofs.Judgements.{judged_as}
use Rattle.cert_inverse.specs.Judging.{valid_of}
use Rattle.cert_inverse.proofs.NetworkWords.{citable, in_forms}
use Rattle.cert_inverse.proofs.JudgedTexts.{modes_of, written_read}
use Rattle.cert_inverse.proofs.TextAgain.{reads_back}

pub read_back : (rows : NetRows) (net : ScaledNet) (p : Proof) → IsOf rows net → rows.skipped ≤ MAX_COUNT → FitsProof (sheet_of rows net) p → paper_in (sheets_of rows net) (lines_of (certificate_text (sheet_of rows net) p)) ≡ read (Full p)
read_back rows net p of few fits = reads_back (sheets_of rows net) Second (Full p) (in_forms rows net) (citable rows net of few) fits

-- a valid certificate's text is judged valid
pub judged_valid : (rows : NetRows) (net : ScaledNet) (p : Proof) → IsOf rows net → rows.skipped ≤ MAX_COUNT → FitsProof (sheet_of rows net) p → IsValid net.net p → IsJudgement rows (certificate_text (sheet_of rows net) p) (valid_of net p)
judged_valid rows net p of few fits valid =
    judged_as rows (certificate_text (sheet_of rows net) p) net (Full p) (valid_of net p)
    (written_read rows net Second (Full p) of (citable rows net of few) (modes_of rows net) fits)
    (refl, refl, refl, refl, valid, valid_certifies net.net p valid)
