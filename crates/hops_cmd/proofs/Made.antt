-- What is made of rows, stage by stage.
use Rattle.std.proofs.Common.{◌≡◌, ◌∙◌, ℕ, List, Option, Some, None, Result, Ok, Err, refl, ap, sym, subst}
use Rattle.mcf_base.specs.Sink.{SinkView, Wrote}
use Rattle.sndlib_grammar.specs.Rows.{NetRows}
use Rattle.sndlib_grammar.specs.declared.refusal.NetRefusal.{NetRefusal}
use Rattle.unit_scale.specs.declared.options.NetOptions.{NetOptions}
use Rattle.unit_scale.specs.Scaling.{ScaledNet, scaled_of}
use Rattle.flow_model.specs.Network.{Network, IsNetwork}
use Rattle.cert_lines.specs.Sheet.{Sheet}
use Rattle.route_tally.specs.declared.options.RunOptions.{RunOptions}
use Rattle.net_solve.specs.declared.asked.Asked.{Asked}
use Rattle.hop_check.specs.declared.hop_proof.HopProof.{HopProof}
use Rattle.hop_check.specs.Conditions.{IsValidHops, IsHopProofOf, IsHopCertified}
use Rattle.hop_check.specs.Limits.{limits_of, hop_refusal}
use Rattle.hop_solve.specs.Run.{IsHopRun}
use Rattle.kind_texts.specs.HopsText.{hops_text}
use Rattle.hops_cmd.specs.declared.solving.HopSolving.{HopSolving}
use Rattle.hops_cmd.specs.declared.solving.HopSolving.TheVariants.{Refused, Done}
use Rattle.net_solve.specs.Asked.{turn_options_for}
use Rattle.hops_cmd.specs.Hops.{IsHopSolved, IsHopSolving, OnRun, OnLimits, OnNet}

-- the run on a network is one on the network that is the same
pub is_solved : (net n m : Network) (limits : List (Option ℕ)) (asked : Asked) (o : RunOptions) (h : HopProof) → n ≡ net → m ≡ net → o ≡ turn_options_for n asked
    → IsNetwork net → IsHopRun m limits o h → IsValidHops m limits h → IsHopCertified m limits h → IsHopProofOf m h → IsHopSolved net limits (turn_options_for net asked) h
is_solved net n m limits asked o h a b under sound run valid certified fits =
    let same : o ≡ turn_options_for net asked = under ∙ ap (λ (x : Network). turn_options_for x asked) a in
    subst (λ (x : Network). IsHopSolved x limits (turn_options_for net asked) h) b (subst (λ (q : RunOptions). IsHopSolved m limits q h) same
    (record { sound = subst IsNetwork (sym b) sound; run = run; valid = valid; certified = certified; fits = fits }))

module _ (rows : NetRows) (o : NetOptions) (asked : Asked) where
  pub net_refused : (r : NetRefusal) → scaled_of rows o ≡ Err r → IsHopSolving rows o asked (Refused r)
  net_refused r e = subst (λ (q : Result ScaledNet NetRefusal). OnNet rows q asked (Refused r)) (sym e) refl

  module _ (net : ScaledNet) (scales : scaled_of rows o ≡ Ok net) where
    on_limits : (solving : HopSolving) → OnLimits rows net asked (hop_refusal rows) solving → IsHopSolving rows o asked solving
    on_limits solving s = subst (λ (q : Result ScaledNet NetRefusal). OnNet rows q asked solving) (sym scales) s

    pub limit_refused : (r : NetRefusal) → hop_refusal rows ≡ Some r → IsHopSolving rows o asked (Refused r)
    limit_refused r far = on_limits (Refused r) (subst (λ (q : Option NetRefusal). OnLimits rows net asked q (Refused r)) (sym far) refl)

    pub run_as : (limits : List (Option ℕ)) → limits ≡ limits_of rows net → hop_refusal rows ≡ None → (solving : HopSolving) → OnRun net limits asked solving → IsHopSolving rows o asked solving
    run_as limits are near solving s =
        on_limits solving (subst (λ (q : Option NetRefusal). OnLimits rows net asked q solving) (sym near) (subst (λ (ls : List (Option ℕ)). OnRun net ls asked solving) are s))

  -- what was solved is of the network that the rows stand for, within their limits, none of which is too far
  pub done_is : (net : ScaledNet) (h : HopProof) → IsHopSolving rows o asked (Done net h)
      → (scaled_of rows o ≡ Ok net) × (hop_refusal rows ≡ None) × IsHopSolved net.net (limits_of rows net) (turn_options_for net.net asked) h
  done_is net h s = by (scaled_of rows o) refl s
    where
      on : (n : ScaledNet) → scaled_of rows o ≡ Ok n → (q : Option NetRefusal) → hop_refusal rows ≡ q → OnLimits rows n asked q (Done net h)
          → (scaled_of rows o ≡ Ok net) × (hop_refusal rows ≡ None) × IsHopSolved net.net (limits_of rows net) (turn_options_for net.net asked) h
      on n e (Some r) near t = absurd cc
      on n e None near (same, work, solved) =
          (e ∙ ap (λ (m : ScaledNet). Ok m) (sym same), near, subst (λ (m : ScaledNet). IsHopSolved m.net (limits_of rows m) (turn_options_for m.net asked) h) (sym same) solved)

      by : (r : Result ScaledNet NetRefusal) → scaled_of rows o ≡ r → OnNet rows r asked (Done net h)
          → (scaled_of rows o ≡ Ok net) × (hop_refusal rows ≡ None) × IsHopSolved net.net (limits_of rows net) (turn_options_for net.net asked) h
      by (Err r) e t = absurd cc
      by (Ok n) e t = on n e (hop_refusal rows) refl t

-- the text, by the names that the writer was given
pub text_wrote : {T E : Type 0} (old new : SinkView) (r : Result T E) (names sheet : Sheet) (h : HopProof) → names ≡ sheet
    → Wrote old new r (hops_text names h) → Wrote old new r (hops_text sheet h)
text_wrote old new r names sheet h e wrote = subst (λ (s : Sheet). Wrote old new r (hops_text s h)) e wrote
