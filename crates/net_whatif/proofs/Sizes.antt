-- The network in units has the cells of its links.
use Rattle.std.proofs.Common.{◌≡◌, ◌∙◌, ap, sym, arith, length}
use Rattle.std.proofs.lemmas.List.{length-map}
use Rattle.unit_scale.specs.declared.modes.LinkMode.{LinkMode}
use Rattle.unit_scale.specs.Names.{cells_of}
use Rattle.script.specs.Steps.{AreSteps, AreStepsOfCells, ScriptView}
use Rattle.sndlib_grammar.specs.Rows.{NetRows}
use Rattle.unit_scale.specs.Scaling.{ScaledNet}
use Rattle.cert_lines.specs.Sheet.{IsOf}
use Rattle.cert_lines.proofs.Looked.{cells_are, cells_are_counted}
use Rattle.flow_paths.specs.declared.certificate.Proof.{Proof}
use Rattle.whatif.specs.Planned.{Planned}
use Rattle.net_whatif.specs.Scripted.{start_of}

pub cells_are_links : (rows : NetRows) (net : ScaledNet) → IsOf rows net → length net.net.cells ≡ cells_of net.options.links (length rows.links)
cells_are_links rows net names = sym (cells_are_counted rows net names) ∙ cells_are rows net

-- steps of the links are of the plan's cells
pub can_run : (rows : NetRows) (net : ScaledNet) (proof : Proof) (plan : Planned) (script : ScriptView) → IsOf rows net → plan ≡ start_of net proof → script.mode ≡ net.options.links
    → AreSteps (length rows.links) script.steps → AreStepsOfCells script.mode (length plan.caps) script.steps
can_run rows net proof plan script names is mode steps =
    let count : length plan.caps ≡ cells_of script.mode (length rows.links) =
    ap (λ (p : Planned). length p.caps) is
    ∙ (length-map net.net.cells (λ c. c.cap) ∙ (cells_are_links rows net names ∙ ap (λ (m : LinkMode). cells_of m (length rows.links)) (sym mode))) in
    record {
      links = length rows.links;
      few = names.well.link_count;
      enough = omega (arith, count);
      each = steps;
    }
