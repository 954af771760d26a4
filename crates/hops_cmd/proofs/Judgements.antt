-- What is said of a text of hop limits, stage by stage.
use Rattle.std.proofs.Common.{◌≡◌, ℕ, List, Option, Some, None, Result, Ok, Err, refl, sym, subst}
use Rattle.std.specs.Prelude.{IfOk, codes}
use Rattle.text_lines.specs.Lines.{lines_of}
use Rattle.sndlib_grammar.specs.Rows.{NetRows}
use Rattle.sndlib_grammar.specs.declared.refusal.NetRefusal.{NetRefusal}
use Rattle.unit_scale.specs.declared.options.NetOptions.{NetOptions}
use Rattle.unit_scale.specs.Scaling.{ScaledNet, scaled_of}
use Rattle.cert_lines.specs.Sheet.{sheet_of}
use Rattle.cert_lines.specs.declared.refusal.CertRefusal.{CertRefusal}
use Rattle.cert_judge.specs.declared.refusal.Refusal.{Refusal}
use Rattle.cert_judge.specs.declared.refusal.Refusal.TheVariants.{Net, Cert}
use Rattle.cert_judge.specs.declared.judged.Judged.{Judged}
use Rattle.cert_judge.specs.declared.judged.Judged.TheVariants.{NetRefused, CertRefused}
use Rattle.cert_judge.specs.Chain.{read_on, IsSaid}
use Rattle.cert_judge.specs.Judgement.{refused}
use Rattle.cert_judge.proofs.Stages.{says}
use Rattle.hop_check.specs.Limits.{limits_of, hop_refusal}
use Rattle.hop_check.specs.declared.hop_proof.HopProof.{HopProof}
use Rattle.kind_texts.specs.Heads.{run_head}
use Rattle.kind_texts.specs.HopsRead.{hops_in}
use Rattle.hops_cmd.specs.Check.{SaysWithin, SaysHops, SaysRest, hops_on, too_far, rest_of, IsHopsJudgement}

-- what is said of every value that was found
pub if_ok : {A E : Type 0} (P Q : A → Type 0) → ((x : A) → P x → Q x) → (r : Result A E) → IfOk r P → IfOk r Q
if_ok P Q f (Ok x) p = f x p
if_ok P Q f (Err e) p = tt

module _ (rows : NetRows) (text : List ℕ) where
  said_as : (r : Refusal) → hops_on rows (lines_of text) ≡ Err r → IsHopsJudgement rows text (refused r)
  said_as r e = subst (λ (q : Result (ScaledNet × HopProof) Refusal). IsSaid refused (SaysHops rows) q (refused r)) (sym e) refl

  head_stops : (r : CertRefusal) → Err r ≡ run_head (codes "mcf-hops 1") (lines_of text) → hops_on rows (lines_of text) ≡ Err (Cert r)
  unfolding read_on
  head_stops r e = rw (sym e) refl

  pub head_refused : (r : CertRefusal) → Err r ≡ run_head (codes "mcf-hops 1") (lines_of text) → IsHopsJudgement rows text (CertRefused r)
  head_refused r e = said_as (Cert r) (head_stops r e)

  module _ (o : NetOptions) (opens : Ok o ≡ run_head (codes "mcf-hops 1") (lines_of text)) where
    net_stops : (r : NetRefusal) → scaled_of rows o ≡ Err r → hops_on rows (lines_of text) ≡ Err (Net r)
    unfolding read_on
    net_stops r s = rw (sym opens, s) refl

    pub net_refused : (r : NetRefusal) → scaled_of rows o ≡ Err r → IsHopsJudgement rows text (NetRefused r)
    net_refused r s = said_as (Net r) (net_stops r s)

    module _ (net : ScaledNet) (scales : scaled_of rows o ≡ Ok net) where
      limit_stops : (r : NetRefusal) → hop_refusal rows ≡ Some r → hops_on rows (lines_of text) ≡ Err (Net r)
      unfolding read_on
      limit_stops r s = rw (sym opens, scales, s) refl

      pub limit_refused : (r : NetRefusal) → hop_refusal rows ≡ Some r → IsHopsJudgement rows text (NetRefused r)
      limit_refused r s = said_as (Net r) (limit_stops r s)

      rest_stops : (r : CertRefusal) → hop_refusal rows ≡ None → hops_in (sheet_of rows net) (lines_of text) ≡ Err r → hops_on rows (lines_of text) ≡ Err (Cert r)
      unfolding read_on
      rest_stops r near s = rw (sym opens, scales, near, s) refl

      -- behind the limits what is said of the rest is said of the text
      pub rest_said : (limits : List (Option ℕ)) → limits ≡ limits_of rows net → hop_refusal rows ≡ None
          → (judged : Judged) → SaysRest net limits (hops_in (sheet_of rows net) (lines_of text)) judged → IsHopsJudgement rows text judged
      rest_said limits are near judged said = by (hops_in (sheet_of rows net) (lines_of text)) refl said
        where
          by : (r : Result HopProof CertRefusal) → hops_in (sheet_of rows net) (lines_of text) ≡ r → SaysRest net limits r judged → IsHopsJudgement rows text judged
          by (Ok h) e s =
              says rows (λ (x : NetOptions). x) (too_far rows) (rest_of rows (lines_of text)) (run_head (codes "mcf-hops 1") (lines_of text)) refused (SaysHops rows) judged net h
              (record { head_of = o; head_read = sym opens; scaled = scales; fits = near; rest_read = e })
              (subst (λ (ls : List (Option ℕ)). SaysWithin net ls h judged) are s)
          by (Err r) e s = subst (IsHopsJudgement rows text) (sym s) (said_as (Cert r) (rest_stops r near e))
