-- What is said of a text of a total, stage by stage.
use Rattle.std.proofs.Common.{◌≡◌, ℕ, List, Result, Ok, Err, refl, sym, subst}
use Rattle.std.specs.Prelude.{IfOk, codes}
use Rattle.text_lines.specs.Lines.{lines_of}
use Rattle.sndlib_grammar.specs.Rows.{NetRows}
use Rattle.sndlib_grammar.specs.declared.refusal.NetRefusal.{NetRefusal}
use Rattle.unit_scale.specs.declared.options.NetOptions.{NetOptions}
use Rattle.unit_scale.specs.Scaling.{ScaledNet, scaled_of}
use Rattle.cert_lines.specs.Sheet.{sheet_of}
use Rattle.cert_lines.specs.declared.refusal.CertRefusal.{CertRefusal}
use Rattle.cert_judge.specs.declared.refusal.Refusal.{Refusal}
use Rattle.cert_judge.specs.declared.refusal.Refusal.TheVariants.{Net, Cert}
use Rattle.cert_judge.specs.declared.judged.Judged.{Judged}
use Rattle.cert_judge.specs.declared.judged.Judged.TheVariants.{NetRefused, CertRefused}
use Rattle.cert_judge.specs.Chain.{read_on, IsSaid}
use Rattle.cert_judge.specs.Papers.{nothing_more}
use Rattle.cert_judge.specs.Judgement.{refused}
use Rattle.cert_judge.proofs.Stages.{says}
use Rattle.throughput.specs.declared.part_proof.PartProof.{PartProof}
use Rattle.kind_texts.specs.Heads.{run_head}
use Rattle.kind_texts.specs.PartRead.{part_in}
use Rattle.throughput_cmd.specs.Check.{SaysPart, SaysRest, part_on, rest_of, IsPartJudgement}

-- if P implies Q, and P holds of the value, should there be one, so does Q
pub if_ok : {A E : Type 0} (P Q : A → Type 0) → ((x : A) → P x → Q x) → (r : Result A E) → IfOk r P → IfOk r Q
if_ok P Q f (Ok x) p = f x p
if_ok P Q f (Err e) p = tt

module _ (rows : NetRows) (text : List ℕ) where
  said_as : (r : Refusal) → part_on rows (lines_of text) ≡ Err r → IsPartJudgement rows text (refused r)
  said_as r e = subst (λ (q : Result (ScaledNet × PartProof) Refusal). IsSaid refused SaysPart q (refused r)) (sym e) refl

  head_stops : (r : CertRefusal) → Err r ≡ run_head (codes "mcf-throughput 1") (lines_of text) → part_on rows (lines_of text) ≡ Err (Cert r)
  unfolding read_on
  head_stops r e = rw (sym e) refl

  pub head_refused : (r : CertRefusal) → Err r ≡ run_head (codes "mcf-throughput 1") (lines_of text) → IsPartJudgement rows text (CertRefused r)
  head_refused r e = said_as (Cert r) (head_stops r e)

  module _ (o : NetOptions) (opens : Ok o ≡ run_head (codes "mcf-throughput 1") (lines_of text)) where
    net_stops : (r : NetRefusal) → scaled_of rows o ≡ Err r → part_on rows (lines_of text) ≡ Err (Net r)
    unfolding read_on
    net_stops r s = rw (sym opens, s) refl

    pub net_refused : (r : NetRefusal) → scaled_of rows o ≡ Err r → IsPartJudgement rows text (NetRefused r)
    net_refused r s = said_as (Net r) (net_stops r s)

    module _ (net : ScaledNet) (scales : scaled_of rows o ≡ Ok net) where
      rest_stops : (r : CertRefusal) → part_in (sheet_of rows net) (lines_of text) ≡ Err r → part_on rows (lines_of text) ≡ Err (Cert r)
      unfolding read_on
      rest_stops r s = rw (sym opens, scales, s) refl

      -- behind the network what is said of the rest is said of the text
      pub rest_said : (judged : Judged) → SaysRest net (part_in (sheet_of rows net) (lines_of text)) judged → IsPartJudgement rows text judged
      rest_said judged said = by (part_in (sheet_of rows net) (lines_of text)) refl said
        where
          by : (r : Result PartProof CertRefusal) → part_in (sheet_of rows net) (lines_of text) ≡ r → SaysRest net r judged → IsPartJudgement rows text judged
          by (Ok p) e s =
              says rows (λ (x : NetOptions). x) nothing_more (rest_of rows (lines_of text)) (run_head (codes "mcf-throughput 1") (lines_of text)) refused SaysPart judged net p
              (record { head_of = o; head_read = sym opens; scaled = scales; fits = refl; rest_read = e })
              s
          by (Err r) e s = subst (IsPartJudgement rows text) (sym s) (said_as (Cert r) (rest_stops r e))
