-- Why a text is refused that is judged on the rows of a network.
use Rattle.std.proofs.Common.{◌≡◌, ℕ, List, Result, Ok, Err, refl, sym, subst, inl, inr}
use Rattle.text_lines.specs.Lines.{lines_of}
use Rattle.sndlib_grammar.specs.Rows.{NetRows}
use Rattle.sndlib_grammar.specs.declared.refusal.NetRefusal.{NetRefusal}
use Rattle.unit_scale.specs.Scaling.{ScaledNet, scaled_of}
use Rattle.cert_lines.specs.Sheet.{sheets_of}
use Rattle.cert_lines.specs.declared.refusal.CertRefusal.{CertRefusal}
use Rattle.cert_lines.specs.Forms.{◌>>=◌}
use Rattle.cert_text.specs.declared.opening.CertHead.{CertHead}
use Rattle.cert_text.specs.declared.papers.Paper.{Paper}
use Rattle.cert_text.specs.Whole.{head_in, paper_in}
use Rattle.cert_text.proofs.LineSteps.{has_line}
use Rattle.cert_judge.specs.declared.judged.Judged.TheVariants.{CertRefused}
use Rattle.cert_judge.specs.Papers.{options_of}
use Rattle.cert_judge.specs.Chain.{of_text, read_on, IsSaid}
use Rattle.cert_judge.specs.Judgement.{OnPaper, IsJudgement, refused as said_refusal}
use Rattle.cli_laws.specs.JudgedKinds.{IsJudgedFor}
use Rattle.cli_laws.proofs.Judged.{refusal_is, never_said, behind_net}
use Rattle.cli_laws.proofs.PaperReasons.{refused_for}
use Rattle.cli_laws.proofs.HeadReasons.{head_refused_for}

on_paper : (rows : NetRows) (text : List ℕ) (r : CertRefusal) (head : CertHead) (net : ScaledNet) → head_in (lines_of text) ≡ Ok head → scaled_of rows (options_of head) ≡ Ok net
    → (read : Result Paper CertRefusal) → paper_in (sheets_of rows net) (lines_of text) ≡ read → IsSaid said_refusal OnPaper (of_text read >>= λ paper. Ok (net, paper)) (CertRefused r) → IsJudgedFor rows text r
on_paper rows text r head net e scaled (Ok paper) is k = absurd (never_said net.options net paper r k)
on_paper rows text r head net e scaled (Err d) is k =
    let why = refused_for (sheets_of rows net) (lines_of text) d (has_line text) is in
    subst (IsJudgedFor rows text) (sym (refusal_is r d k)) (inr (record { head = head; says = e; net = net; scaled = scaled; reason = why }))

on_net : (rows : NetRows) (text : List ℕ) (r : CertRefusal) (head : CertHead) → head_in (lines_of text) ≡ Ok head
    → (scaled : Result ScaledNet NetRefusal) → scaled_of rows (options_of head) ≡ scaled → IsSaid said_refusal OnPaper (behind_net rows text scaled) (CertRefused r) → IsJudgedFor rows text r
on_net rows text r head e (Err d) is k = absurd cc
on_net rows text r head e (Ok net) is k = on_paper rows text r head net e is (paper_in (sheets_of rows net) (lines_of text)) refl k

on_head : (rows : NetRows) (text : List ℕ) (r : CertRefusal) → (head : Result CertHead CertRefusal) → head_in (lines_of text) ≡ head
    → IsSaid said_refusal OnPaper (of_text head >>= λ h. behind_net rows text (scaled_of rows (options_of h))) (CertRefused r) → IsJudgedFor rows text r
on_head rows text r (Err d) e k = subst (IsJudgedFor rows text) (sym (refusal_is r d k)) (inl (head_refused_for (lines_of text) d (has_line text) e))
on_head rows text r (Ok head) e k = on_net rows text r head e (scaled_of rows (options_of head)) refl k

pub judged_for : (rows : NetRows) (text : List ℕ) (r : CertRefusal) → IsJudgement rows text (CertRefused r) → IsJudgedFor rows text r
unfolding read_on
judged_for rows text r h = on_head rows text r (head_in (lines_of text)) refl h
