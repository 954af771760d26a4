-- Where the text of a certificate with hop limits or of a total is refused that is judged on rows, and why.
use Rattle.std.proofs.Common.{◌≡◌, ◌⊎◌, ℕ, ◌≤◌, List, Option, Some, None, Result, Ok, Err, refl, sym, ap, ◌∙◌, inl, inr}
use Rattle.std.specs.Prelude.{codes}
use Rattle.text_lines.specs.Lines.{lines_of}
use Rattle.unit_scale.specs.declared.options.NetOptions.{NetOptions}
use Rattle.sndlib_grammar.specs.Rows.{NetRows, AreNetRows}
use Rattle.sndlib_grammar.specs.declared.refusal.NetRefusal.{NetRefusal}
use Rattle.unit_scale.specs.Scaling.{ScaledNet, scaled_of}
use Rattle.cert_lines.specs.Sheet.{Sheet, sheet_of}
use Rattle.cert_lines.specs.declared.net_line.TheConstants.{MAX_COUNT}
use Rattle.cert_lines.specs.declared.refusal.CertRefusal.{CertRefusal}
use Rattle.cert_lines.specs.Forms.{◌>>=◌}
use Rattle.cert_text.proofs.LineSteps.{has_line}
use Rattle.cert_judge.specs.declared.judged.Judged.{Judged}
use Rattle.cert_judge.specs.declared.judged.Judged.TheVariants.{CertRefused}
use Rattle.cert_judge.specs.Chain.{of_net, of_text, unless, read_on, IsSaid}
use Rattle.cert_judge.specs.Judgement.{refused as said_refusal}
use Rattle.cert_judge.specs.Papers.{nothing_more}
use Rattle.cert_inverse.specs.Inverse.{IsCitable}
use Rattle.cert_inverse.proofs.NetworkWords.{citable_both}
use Rattle.kind_texts.specs.Heads.{run_head}
use Rattle.hops_cmd.specs.Check as hops
use Rattle.throughput_cmd.specs.Check as parts
use Rattle.cli_laws.specs.KindJudged.{HoldsInNet, HopsStopsFor, TotalStopsFor, IsHopsJudgedFor, IsTotalJudgedFor}
use Rattle.cli_laws.proofs.Judged.{refusal_is}
use Rattle.cli_laws.proofs.KindStops.{hops_stop, totals_stop}
use Rattle.cli_laws.proofs.KindReasons.{hops_refused_for, total_refused_for}
use Rattle.cli_laws.proofs.KindHeads.{hops_head_stops, total_head_stops, hops_head_refused_for, total_head_refused_for}

-- the first lines are refused, or the rest on the network of the rows
record IsRefusedThere {A : Type 0} (rows : NetRows) (rest : ScaledNet → Result A CertRefusal) (head : Result NetOptions CertRefusal) (r : CertRefusal) : Type 0 where
  options : NetOptions
  says : head ≡ Ok options
  net : ScaledNet
  scaled : scaled_of rows options ≡ Ok net
  is : rest net ≡ Err r

module _ {A : Type 0} (rows : NetRows) (more : ScaledNet → Option NetRefusal) (rest : ScaledNet → Result A CertRefusal) (Of : ScaledNet → A → Judged → Type 0) (never : (net : ScaledNet) (x : A) (r : CertRefusal) → Of net x (CertRefused r) → ⊥) (r : CertRefusal) where
  abbrev Found : Result NetOptions CertRefusal → Type 0
  Found head = (head ≡ Err r) ⊎ IsRefusedThere rows rest head r

  on_rest : (o : NetOptions) (net : ScaledNet) → scaled_of rows o ≡ Ok net → (q : Option NetRefusal) (v : Result A CertRefusal) → rest net ≡ v
      → IsSaid said_refusal Of (of_net (unless q) >>= λ fits. of_text v >>= λ x. Ok (net, x)) (CertRefused r) → Found (Ok o)
  on_rest o net scaled (Some d) v is k = absurd cc
  on_rest o net scaled None (Ok x) is k = absurd (never net x r k)
  on_rest o net scaled None (Err d) is k = inr (record { options = o; says = refl; net = net; scaled = scaled; is = is ∙ ap (λ (e : CertRefusal). Err e) (sym (refusal_is r d k)) })

  on_net : (o : NetOptions) (s : Result ScaledNet NetRefusal) → scaled_of rows o ≡ s
      → IsSaid said_refusal Of (of_net s >>= λ net. of_net (unless (more net)) >>= λ fits. of_text (rest net) >>= λ x. Ok (net, x)) (CertRefused r) → Found (Ok o)
  on_net o (Err d) scaled k = absurd cc
  on_net o (Ok net) scaled k = on_rest o net scaled (more net) (rest net) refl k

  refused_there : (head : Result NetOptions CertRefusal) → IsSaid said_refusal Of (read_on rows (λ (o : NetOptions). o) more rest head) (CertRefused r) → Found head
  unfolding read_on
  refused_there (Err d) k = inl (ap (λ (e : CertRefusal). Err e) (sym (refusal_is r d k)))
  refused_there (Ok o) k = on_net o (scaled_of rows o) refl k

-- what holds of a refusal of the first lines, or of the rest
either : {A : Type 0} (rows : NetRows) (rest : ScaledNet → Result A CertRefusal) (header text : List ℕ) (r : CertRefusal) (P : Type 0) (Holds : Sheet → Type 0) → (run_head header (lines_of text) ≡ Err r → P)
    → ((net : ScaledNet) (o : NetOptions) → scaled_of rows o ≡ Ok net → rest net ≡ Err r → Holds (sheet_of rows net)) → (run_head header (lines_of text) ≡ Err r) ⊎ IsRefusedThere rows rest (run_head header (lines_of text)) r → P ⊎ HoldsInNet header rows text Holds
either rows rest header text r P Holds first behind (inl e) = inl (first e)
either rows rest header text r P Holds first behind (inr h) = inr (record { options = h.options; says = h.says; net = h.net; scaled = h.scaled; is = behind h.net h.options h.scaled h.is })

citable : (rows : NetRows) (net : ScaledNet) (o : NetOptions) → AreNetRows rows → rows.skipped ≤ MAX_COUNT → scaled_of rows o ≡ Ok net → IsCitable (sheet_of rows net)
citable rows net o well few scaled = (citable_both rows net (record { well = well; options = o; scaled = scaled }) few).new

-- ---- hop limits

hops_there : (rows : NetRows) (text : List ℕ) (r : CertRefusal) → hops.IsHopsJudgement rows text (CertRefused r) → (run_head (codes "mcf-hops 1") (lines_of text) ≡ Err r) ⊎ IsRefusedThere rows (hops.rest_of rows (lines_of text)) (run_head (codes "mcf-hops 1") (lines_of text)) r
hops_there rows text r h = refused_there rows (hops.too_far rows) (hops.rest_of rows (lines_of text)) (hops.SaysHops rows) (λ net x d k. k) r (run_head (codes "mcf-hops 1") (lines_of text)) h

pub hops_judged_stop : (rows : NetRows) (text : List ℕ) (r : CertRefusal) → AreNetRows rows → rows.skipped ≤ MAX_COUNT → hops.IsHopsJudgement rows text (CertRefused r) → HopsStopsFor rows text r.line
hops_judged_stop rows text r well few h =
    either rows (hops.rest_of rows (lines_of text)) (codes "mcf-hops 1") text r _ _ (hops_head_stops text r) (λ net o scaled e. hops_stop (sheet_of rows net) text r (citable rows net o well few scaled) e) (hops_there rows text r h)

pub hops_judged_for : (rows : NetRows) (text : List ℕ) (r : CertRefusal) → hops.IsHopsJudgement rows text (CertRefused r) → IsHopsJudgedFor rows text r
hops_judged_for rows text r h =
    either rows (hops.rest_of rows (lines_of text)) (codes "mcf-hops 1") text r _ _ (hops_head_refused_for (lines_of text) r (has_line text)) (λ net o scaled e. hops_refused_for (sheet_of rows net) (lines_of text) r (has_line text) e) (hops_there rows text r h)

-- ---- totals

total_there : (rows : NetRows) (text : List ℕ) (r : CertRefusal) → parts.IsPartJudgement rows text (CertRefused r) → (run_head (codes "mcf-throughput 1") (lines_of text) ≡ Err r) ⊎ IsRefusedThere rows (parts.rest_of rows (lines_of text)) (run_head (codes "mcf-throughput 1") (lines_of text)) r
total_there rows text r h = refused_there rows nothing_more (parts.rest_of rows (lines_of text)) parts.SaysPart (λ net x d k. k) r (run_head (codes "mcf-throughput 1") (lines_of text)) h

pub total_judged_stop : (rows : NetRows) (text : List ℕ) (r : CertRefusal) → AreNetRows rows → rows.skipped ≤ MAX_COUNT → parts.IsPartJudgement rows text (CertRefused r) → TotalStopsFor rows text r.line
total_judged_stop rows text r well few h =
    either rows (parts.rest_of rows (lines_of text)) (codes "mcf-throughput 1") text r _ _ (total_head_stops text r) (λ net o scaled e. totals_stop (sheet_of rows net) text r (citable rows net o well few scaled) e) (total_there rows text r h)

pub total_judged_for : (rows : NetRows) (text : List ℕ) (r : CertRefusal) → parts.IsPartJudgement rows text (CertRefused r) → IsTotalJudgedFor rows text r
total_judged_for rows text r h =
    either rows (parts.rest_of rows (lines_of text)) (codes "mcf-throughput 1") text r _ _ (total_head_refused_for (lines_of text) r (has_line text)) (λ net o scaled e. total_refused_for (sheet_of rows net) (lines_of text) r (has_line text) e) (total_there rows text r h)
