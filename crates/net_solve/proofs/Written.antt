-- What is solved fits a text, is read back, and is judged valid.
use Rattle.std.proofs.Common.{◌<◌, ◌≤◌, List, [], ◌∷◌, length, sym, subst, ◌∙◌}
use Rattle.std.specs.Prelude.{All}
use Rattle.std.specs.List.{AllByRecursion}
use Rattle.std.proofs.lemmas.List.Elements.{All-head, All-tail}
use Rattle.mcf_limits.specs.declared.TheConstants.{MAX_LENGTH}
use Rattle.flow_model.specs.Network.{Network, IsNetwork}
use Rattle.flow_model.specs.Routing.{Row}
use Rattle.flow_paths.specs.DualRows.{Length, Potential}
use Rattle.flow_paths.specs.declared.certificate.Routing.{Routing}
use Rattle.flow_paths.specs.Certificate.{IsRowOf, IsRoutingOf, IsPotentialOf, IsProofOf}
use Rattle.sndlib_grammar.specs.Rows.{NetRows}
use Rattle.unit_scale.specs.Scaling.{ScaledNet}
use Rattle.unit_scale.specs.ScaledFacts.{IsScaledNet}
use Rattle.solver_run.specs.declared.options.SolveOptions.{SolveOptions}
use Rattle.solver_run.specs.History.{SolvedView}
use Rattle.solver_run.specs.Headline.{IsSolved}
use Rattle.cert_lines.specs.Sheet.{Sheet, IsOf, sheet_of}
use Rattle.cert_lines.specs.Spelling.{FitsLength, FitsPotential, FitsPath}
use Rattle.cert_writer.specs.Text.{FitsRouting, FitsProof}
use Rattle.cert_judge.proofs.Fitting.{IsSized, sized}
use Rattle.net_solve.proofs.Figures.{AreSmall, lower-fits, upper-fits}
use Rattle.net_solve.proofs.DualNumbers.{run-small}
use Rattle.net_solve.proofs.PathWeights.{weights-small}

-- ---- rows of the network, with numbers within the limits, are rows of its text

pub each : {X : Type 0} (P : X → Type 0) (xs : List X) → All P xs → AllByRecursion P xs
each P [] h = tt
each P (x ∷ xs) h = (All-head P x xs h, each P xs (All-tail P x xs h))

path-fits : (sheet : Sheet) (net : Network) (row : Row) → IsSized sheet net → IsRowOf net row → row.weight ≤ MAX_LENGTH → FitsPath sheet row
path-fits sheet net row size is small = record {
  commodity = subst (λ n. row.commodity < n) (sym size.commodities) is.commodity;
  weight = small;
  cells = each (λ c. c < length sheet.cells) row.walk (subst (λ n. All (λ c. c < n) row.walk) (sym size.cells) is.cells);
  short = is.short;
}

routing-fits : (sheet : Sheet) (net : Network) (r : Routing) → IsSized sheet net → IsRoutingOf net r → All (λ (row : Row). row.weight ≤ MAX_LENGTH) r.paths → FitsRouting sheet r
routing-fits sheet net r size is small = record {
  phases = is.phases;
  scale_cap = is.scale_cap;
  scale_load = is.scale_load;
  paths = each (FitsPath sheet) r.paths (λ i d l. path-fits sheet net _ size (is.rows i d l) (small i d l));
}

pub length-fits : (sheet : Sheet) (net : Network) (r : Length) → IsSized sheet net → r.cell < length net.cells → r.value ≤ MAX_LENGTH → FitsLength sheet r
length-fits sheet net r size inside small = record { cell = subst (λ n. r.cell < n) (sym size.cells) inside; value = small }

pub potential-fits : (sheet : Sheet) (net : Network) (r : Potential) → IsSized sheet net → IsPotentialOf net r → All (λ p. p ≤ MAX_LENGTH) r.values → FitsPotential sheet r
potential-fits sheet net r size is small = record {
  node = subst (λ n. r.node < n) (sym size.nodes) is.node;
  count = is.values ∙ sym size.nodes;
  values = each (λ p. p ≤ MAX_LENGTH) r.values small;
}

-- ---- what is solved

solved-fits : (sheet : Sheet) (net : Network) (o : SolveOptions) (s : SolvedView) → IsSized sheet net → IsNetwork net → IsSolved net o s → FitsProof sheet s.proof
solved-fits sheet net o s size n solved =
    let is : IsProofOf net s.proof = solved.fits in
    let small : AreSmall s.proof.dual = run-small net o s n is.potentials solved.history in
    record {
      gap = is.gap;
      routing = routing-fits sheet net s.proof.routing size is.routing (weights-small net s.proof.routing n is.routing solved.valid.routing.carried);
      lower = lower-fits net s.proof.routing s.proof.lower is.routing solved.valid.printed.lower is.lower_micro;
      upper = upper-fits net s.proof.dual s.proof.upper n small solved.bounds_all.positive solved.valid.printed.upper is.upper_micro;
      lengths = each (FitsLength sheet) s.proof.dual.lengths (λ i d l. length-fits sheet net _ size (is.lengths i d l) (small.lengths i d l));
      potentials = each (FitsPotential sheet) s.proof.dual.potentials (λ i d l. potential-fits sheet net _ size (is.potentials i d l) (small.potentials i d l));
    }

pub written : (rows : NetRows) (net : ScaledNet) (o : SolveOptions) (s : SolvedView) → IsOf rows net → IsScaledNet net → IsNetwork net.net → IsSolved net.net o s → FitsProof (sheet_of rows net) s.proof
written rows net o s of facts n solved = solved-fits (sheet_of rows net) net.net o s (sized rows of.options net of.scaled) n solved
