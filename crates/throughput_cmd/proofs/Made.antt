-- What is made of rows, stage by stage.
use Rattle.std.proofs.Common.{◌≡◌, ◌∙◌, Result, Ok, Err, refl, ap, sym, subst}
use Rattle.mcf_base.specs.Sink.{SinkView, Wrote}
use Rattle.sndlib_grammar.specs.Rows.{NetRows}
use Rattle.sndlib_grammar.specs.declared.refusal.NetRefusal.{NetRefusal}
use Rattle.unit_scale.specs.declared.options.NetOptions.{NetOptions}
use Rattle.unit_scale.specs.Scaling.{ScaledNet, scaled_of}
use Rattle.flow_model.specs.Network.{Network, IsNetwork}
use Rattle.cert_lines.specs.Sheet.{Sheet}
use Rattle.route_tally.specs.declared.options.RunOptions.{RunOptions}
use Rattle.net_solve.specs.declared.asked.Asked.{Asked}
use Rattle.throughput.specs.declared.part_proof.PartProof.{PartProof}
use Rattle.throughput.specs.Conditions.{IsValidPart, IsPartProofOf, IsPartCertified}
use Rattle.throughput.specs.Run.{IsThroughputRun}
use Rattle.kind_texts.specs.PartText.{part_text}
use Rattle.throughput_cmd.specs.declared.solving.PartSolving.{PartSolving}
use Rattle.throughput_cmd.specs.declared.solving.PartSolving.TheVariants.{Refused, Done}
use Rattle.net_solve.specs.Asked.{turn_options_for}
use Rattle.throughput_cmd.specs.Parts.{IsPartSolved, IsPartSolving, OnRun, OnNet}

-- the run on a network is one on the network that is the same
pub is_solved : (net n m : Network) (asked : Asked) (o : RunOptions) (p : PartProof) → n ≡ net → m ≡ net → o ≡ turn_options_for n asked
    → IsNetwork net → IsThroughputRun m o p → IsValidPart m p → IsPartCertified m p → IsPartProofOf m p → IsPartSolved net (turn_options_for net asked) p
is_solved net n m asked o p a b under sound run valid certified fits =
    let same : o ≡ turn_options_for net asked = under ∙ ap (λ (x : Network). turn_options_for x asked) a in
    subst (λ (x : Network). IsPartSolved x (turn_options_for net asked) p) b (subst (λ (q : RunOptions). IsPartSolved m q p) same
    (record { sound = subst IsNetwork (sym b) sound; run = run; valid = valid; certified = certified; fits = fits }))

module _ (rows : NetRows) (o : NetOptions) (asked : Asked) where
  pub net_refused : (r : NetRefusal) → scaled_of rows o ≡ Err r → IsPartSolving rows o asked (Refused r)
  net_refused r e = subst (λ (q : Result ScaledNet NetRefusal). OnNet q asked (Refused r)) (sym e) refl

  pub run_as : (net : ScaledNet) → scaled_of rows o ≡ Ok net → (solving : PartSolving) → OnRun net asked solving → IsPartSolving rows o asked solving
  run_as net scales solving s = subst (λ (q : Result ScaledNet NetRefusal). OnNet q asked solving) (sym scales) s

  -- what was solved is of the network that the rows stand for
  pub done_is : (net : ScaledNet) (p : PartProof) → IsPartSolving rows o asked (Done net p) → (scaled_of rows o ≡ Ok net) × IsPartSolved net.net (turn_options_for net.net asked) p
  done_is net p s = by (scaled_of rows o) refl s
    where
      by : (r : Result ScaledNet NetRefusal) → scaled_of rows o ≡ r → OnNet r asked (Done net p) → (scaled_of rows o ≡ Ok net) × IsPartSolved net.net (turn_options_for net.net asked) p
      by (Err r) e t = absurd cc
      by (Ok n) e (same, work, solved) = (e ∙ ap (λ (m : ScaledNet). Ok m) (sym same), subst (λ (m : ScaledNet). IsPartSolved m.net (turn_options_for m.net asked) p) (sym same) solved)

-- the text, by the names that the writer was given
pub text_wrote : {T E : Type 0} (old new : SinkView) (r : Result T E) (names sheet : Sheet) (p : PartProof) → names ≡ sheet
    → Wrote old new r (part_text names p) → Wrote old new r (part_text sheet p)
text_wrote old new r names sheet p e wrote = subst (λ (s : Sheet). Wrote old new r (part_text s p)) e wrote
