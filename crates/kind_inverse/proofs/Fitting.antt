-- What fits a text fits the network whose names the text cites.
use Rattle.std.proofs.Common.{◌≡◌, ℕ, ◌<◌, List, [], ◌∷◌, length, subst, ◌∙◌}
use Rattle.std.specs.List.{AllByRecursion}
use Rattle.std.proofs.lemmas.List.Elements.{All-from_recursion}
use Rattle.flow_model.specs.Network.{Network}
use Rattle.flow_paths.specs.DualRows.{Length, Potential}
use Rattle.flow_paths.specs.Certificate.{IsPotentialOf}
use Rattle.cert_lines.specs.Sheet.{Sheet, sheet_of}
use Rattle.cert_lines.specs.Spelling.{FitsLength, FitsPotential}
use Rattle.cert_judge.proofs.Fitting.{IsSized, sized, routing_fits, proof_fits}
use Rattle.hop_check.specs.LayerRows.{Layer}
use Rattle.hop_check.specs.Conditions.{IsLayerOf}
use Rattle.kind_texts.specs.HopsText.{FitsLayer}
use Rattle.kind_inverse.specs.OfNetwork.{HopsAreOfTheNetwork, PartsAreOfTheNetwork}

along : {X : Type 0} {P Q : X → Type 0} → ((x : X) → P x → Q x) → (xs : List X) → AllByRecursion P xs → AllByRecursion Q xs
along f [] h = tt
along f (x ∷ xs) h = (f x h.0, along f xs h.1)

layer_fits : (sheet : Sheet) (net : Network) → IsSized sheet net → (r : Layer) → FitsLayer sheet r → IsLayerOf net r
layer_fits sheet net size r fits = record {
  node = subst (λ n. r.node < n) size.nodes fits.node;
  index = fits.index;
  values = fits.count ∙ size.nodes;
}

length_fits : (sheet : Sheet) (net : Network) → IsSized sheet net → (r : Length) → FitsLength sheet r → r.cell < length net.cells
length_fits sheet net size r fits = subst (λ n. r.cell < n) size.cells fits.cell

potential_fits : (sheet : Sheet) (net : Network) → IsSized sheet net → (r : Potential) → FitsPotential sheet r → IsPotentialOf net r
potential_fits sheet net size r fits = record {
  node = subst (λ n. r.node < n) size.nodes fits.node;
  values = fits.count ∙ size.nodes;
}

pub hops_fit : HopsAreOfTheNetwork
hops_fit rows net h of fits =
    let sheet = sheet_of rows net in
    let size = sized rows of.options net of.scaled in
    record {
      proof = proof_fits sheet net.net size h.proof fits.proof;
      layers = All-from_recursion (IsLayerOf net.net) h.layers (along (layer_fits sheet net.net size) h.layers fits.layers);
    }

pub parts_fit : PartsAreOfTheNetwork
parts_fit rows net p of fits =
    let sheet = sheet_of rows net in
    let size = sized rows of.options net of.scaled in
    let d = p.bound.dual in
    record {
      routing = routing_fits sheet net.net size p.routing fits.routing;
      gap = fits.gap;
      lower_micro = fits.lower.micro;
      upper_micro = fits.upper.micro;
      threshold = fits.threshold;
      lengths = All-from_recursion (λ r. r.cell < length net.net.cells) d.lengths (along (length_fits sheet net.net size) d.lengths fits.lengths);
      potentials = All-from_recursion (IsPotentialOf net.net) d.potentials (along (potential_fits sheet net.net size) d.potentials fits.potentials);
    }
