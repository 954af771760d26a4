-- Each line that steps write shows bounds of the network with other capacities.
use Rattle.std.proofs.Common.{ℕ, suc, ◌≤◌, List, [], ◌∷◌, length, refl}
use Rattle.std.proofs.lemmas.List.{length-map}
use Rattle.std.proofs.lemmas.List.Elements.{All-nil, All-cons, All-head, All-tail, All-weaker, All-map}
use Rattle.text_lines.specs.Lines.{Line}
use Rattle.mcf_limits.specs.declared.TheConstants.{MAX_UNITS}
use Rattle.flow_model.specs.Network.{IsCell}
use Rattle.flow_paths.specs.declared.certificate.Proof.{Proof}
use Rattle.sndlib_grammar.specs.Rows.{NetRows}
use Rattle.unit_scale.specs.Scaling.{ScaledNet}
use Rattle.unit_scale.specs.declared.modes.LinkMode.{LinkMode}
use Rattle.script.specs.declared.step.Step.{Step}
use Rattle.script.specs.declared.step.Step.TheVariants.{Edit, Show}
use Rattle.script.specs.Steps.{AreSteps, IsStep}
use Rattle.whatif.specs.Planned.{Planned, IsPlanned, after_step, shown_of}
use Rattle.whatif.specs.Shown.{show_line, shown_lines}
use Rattle.whatif.proofs.Keeping.{planned_link}
use Rattle.whatif.proofs.Sound.{are_bounds}
use Rattle.cert_judge.specs.Certified.{IsCertificate}
use Rattle.net_whatif.specs.Scripted.{start_of}
use Rattle.net_whatif.specs.Sound.{AreSoundLines, IsSoundLine}

module _ (mode : LinkMode) where
  -- a line that the later steps write is one that all of them write
  later : (p : Planned) (step : Step) (steps : List Step) (line : Line) → IsSoundLine mode (after_step mode p step) steps line → IsSoundLine mode p (step ∷ steps) line
  later p Show steps line h = record { count = suc h.count; shows = h.shows; shown = h.shown; bounds = h.bounds }
  later p (Edit link cap) steps line h = record { count = suc h.count; shows = h.shows; shown = h.shown; bounds = h.bounds }

  pub sound_lines : (p : Planned) (links : ℕ) (steps : List Step) → IsPlanned p → AreSteps links steps → AreSoundLines mode p steps
  sound_lines p links [] h s = All-nil (IsSoundLine mode p [])
  sound_lines p links (Show ∷ steps) h s =
      let first : IsSoundLine mode p (Show ∷ steps) (show_line (shown_of p)) = record { count = 0; shows = refl; shown = refl; bounds = are_bounds p h } in
      let rest = sound_lines p links steps h (All-tail (IsStep links) Show steps s) in
      All-cons (IsSoundLine mode p (Show ∷ steps)) (show_line (shown_of p)) (shown_lines mode p steps) first
      (All-weaker (IsSoundLine mode p steps) (IsSoundLine mode p (Show ∷ steps)) (λ line l. later p Show steps line l) (shown_lines mode p steps) rest)
  sound_lines p links (Edit link cap ∷ steps) h s =
      let q = after_step mode p (Edit link cap) in
      let inside = All-head (IsStep links) (Edit link cap) steps s in
      let rest = sound_lines q links steps (planned_link mode p link cap inside.1 h) (All-tail (IsStep links) (Edit link cap) steps s) in
      All-weaker (IsSoundLine mode q steps) (IsSoundLine mode p (Edit link cap ∷ steps)) (λ line l. later p (Edit link cap) steps line l) (shown_lines mode q steps) rest

-- the plan of a valid certificate is one
pub planned_at_start : (rows : NetRows) (net : ScaledNet) (proof : Proof) → IsCertificate rows net proof → IsPlanned (start_of net proof)
planned_at_start rows net proof c = record {
  net = c.network;
  proof = c.proof_of;
  valid = c.valid;
  count = length-map net.net.cells (λ c. c.cap);
  caps = All-map (λ cap. cap ≤ MAX_UNITS) (λ c. c.cap) net.net.cells (All-weaker (IsCell net.net.nodes) (λ c. c.cap ≤ MAX_UNITS) (λ c is. is.cap) net.net.cells c.network.cells);
}

pub certificate_lines : (rows : NetRows) (net : ScaledNet) (proof : Proof) (steps : List Step) → IsCertificate rows net proof → AreSteps (length rows.links) steps → AreSoundLines net.options.links (start_of net proof) steps
certificate_lines rows net proof steps c s = sound_lines net.options.links (start_of net proof) (length rows.links) steps (planned_at_start rows net proof c) s
